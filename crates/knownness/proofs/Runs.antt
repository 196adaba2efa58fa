-- What demand 3 claims of the runs of the plain machine.
--     headers-again, sound-again     cells that are alike place by place have the same headers, and are in order together
--     kept           from cells that keep known bits a run keeps them
--     known_kept     the runs from cells and from cells that keep their known bits end alike, and bits that are known stay
--     alike          so do those from cells and from cells that refine them
--     step-exact, exact     each step that is run is known exactly
use mathlib.Core.Path.{◌≡◌, refl, sym, ◌∙◌, subst, ap, ap₂}
use mathlib.Core.Bool.{false}
use mathlib.Core.List.{List, [], ◌∷◌, ◌++◌, append_assoc}
use Prim.Native.Nat.{ℕ, zero, suc, ◌+◌, ◌<◌}
use native.Mathlib.Omega.{arith}
use lib.ListN.{length, take, length-append}
use lib.Seq.{take_at, get_or_at}
use Rattle.bit.specs.declared.LogicBit.{LogicBit}
use Rattle.bit.specs.declared.LogicBit.TheVariants.{Zero}
use Rattle.refusal.specs.Outcome.{Answer}
use Rattle.refusal.specs.Outcome.Answer.{given, refused}
use Rattle.words.specs.Vector.{at}
use Rattle.value.specs.declared.Header.{Header}
use Rattle.ops.specs.declared.Step.{Step}
use Rattle.ops.specs.Ops.{family_of, arms_refused}
use Rattle.machine.specs.declared.Room.{Room}
use Rattle.machine.specs.Machine.{Cell, headers_of, empty_cell, vector_at, check_step, step_cell, Run, onward, run_from, machine_run}
use Rattle.knownness.specs.Knownness.{step_at, AllKeep, Keeps, Refines, Pointwise, Cellwise, AllSound, ExactStep, Exactable, ExactCells, Alike, KnownKept}
use Rattle.knownness.proofs.Bits.{refines-keeps, keeps-refl}
use Rattle.knownness.proofs.Ops.{Accepted}
use Rattle.knownness.proofs.Steps.{width-again, op-keeps, op-exact}
use Rattle.knownness.proofs.Machine.{more, arms-accepted, same-ending, prefix, at_more, step-sound}

-- ---- cells that are alike place by place

module _ (R : LogicBit → LogicBit → Type 0) where
  pub headers-again : (A B : List Cell) → Cellwise R A B → headers_of B ≡ headers_of A
  headers-again [] [] h = refl
  headers-again [] (y ∷ ys) h = absurd (let e = h.0 in omega arith)
  headers-again (x ∷ xs) [] h = absurd (let e = h.0 in omega arith)
  headers-again (x ∷ xs) (y ∷ ys) h =
      ap₂ {C = List Header} (λ u us. u ∷ us) (h.1 zero).0 (headers-again xs ys (let e = h.0 in omega arith, λ j. h.1 (suc j)))

  pub sound-again : (A B : List Cell) → Cellwise R A B → AllSound A → AllSound B
  sound-again A B h s j = width-again R (vector_at A j) (vector_at B j) (h.1 j) (s j)

refined-keeps : (A B : List Cell) → Cellwise Refines A B → Cellwise Keeps A B
refined-keeps A B h = (
  h.0,
  λ j. ((h.1 j).0, (h.1 j).1, λ i. refines-keeps (at (vector_at A j).bits i) (at (vector_at B j).bits i) ((h.1 j).2 i)),
)

keeps-more : (cs ds : List Cell) (c d : Cell) → Cellwise Keeps cs ds → Pointwise Keeps c.vector d.vector → Cellwise Keeps (cs ++ (c ∷ [])) (ds ++ (d ∷ []))
keeps-more cs ds c d h p = (
  length-append ds (d ∷ []) ∙ ap (λ n. n + 1) h.0 ∙ sym (length-append cs (c ∷ [])),
  at_more (λ x y. Pointwise Keeps x.vector y.vector) (refl, refl, λ i. keeps-refl Zero) cs ds c d h.0 h.1 p,
)

-- ---- one step

accepted : (cs : List Cell) (s : Step) → AllSound cs → arms_refused s.op (vector_at cs s.b).header (vector_at cs s.c).header ≡ false
    → Accepted (family_of s.op) (vector_at cs s.a) (vector_at cs s.b) (vector_at cs s.c)
accepted cs s a e = record { first = a s.a; second = a s.b; third = a s.c; arms = e }

module _ (r : Room) where
  pub step-exact : (cs : List Cell) (s : Step) (u : Unit) → check_step r (headers_of cs) s ≡ given u → AllSound cs → Exactable cs s
      → ExactStep cs s (step_cell cs s).vector
  step-exact cs s u e a x i l v kv =
      op-exact s.op s.c (vector_at cs s.a) (vector_at cs s.b) (vector_at cs s.c) (accepted cs s a (arms-accepted r cs s u e)) x.0 i l v kv
      (λ q. record { left = a s.a; right = a s.b; comparable = x.1 q })

  -- ---- the run

  -- on any cells that keep known bits
  pub kept : (ss : List Step) → AllKeep ss → (n : ℕ) (cs ds : List Cell) → AllSound cs → Cellwise Keeps cs ds
      → Cellwise Keeps (run_from r cs n ss).cells (run_from r ds n ss).cells
  unfolding run_from
  kept [] l n cs ds a h = h
  kept (s ∷ ss) l n cs ds a h =
      go (run_from r (more cs s) (suc n) ss) (run_from r (more ds s) (suc n) ss) (check_step r (headers_of cs) s) (check_step r (headers_of ds) s)
      (ap (λ hs. check_step r hs s) (headers-again Keeps cs ds h)) refl (kept ss (λ k. l (suc k)) (suc n) (more cs s) (more ds s))
    where
      step : (u : Unit) → check_step r (headers_of cs) s ≡ given u → Cellwise Keeps (more cs s) (more ds s)
      step u e =
          keeps-more cs ds (step_cell cs s) (step_cell ds s) h
          (op-keeps s.op s.c (vector_at cs s.a) (vector_at cs s.b) (vector_at cs s.c) (accepted cs s a (arms-accepted r cs s u e))
          (vector_at ds s.a) (vector_at ds s.b) (vector_at ds s.c) (h.1 s.a) (h.1 s.b) (h.1 s.c) (l zero))

      go : (p q : Run) (o u : Answer Unit) → u ≡ o → check_step r (headers_of cs) s ≡ o
          → (AllSound (more cs s) → Cellwise Keeps (more cs s) (more ds s) → Cellwise Keeps p.cells q.cells)
          → Cellwise Keeps (onward o cs n p).cells (onward u ds n q).cells
      go p q o u f e k = subst (λ (u : Answer Unit). Cellwise Keeps (onward o cs n p).cells (onward u ds n q).cells) (sym f) (same o e)
        where
          same : (o : Answer Unit) → check_step r (headers_of cs) s ≡ o → Cellwise Keeps (onward o cs n p).cells (onward o ds n q).cells
          same (given u) e = k (step-sound r cs s u e a) (step u e)
          same (refused x) e = h

  -- the step after the cells that stand before m
  abbrev ExactAt : List Cell → List Step → ℕ → ℕ → Type 0
  ExactAt cells ss m k = m < length cells → Exactable (take m cells) (step_at ss k) → ExactStep (take m cells) (step_at ss k) (vector_at cells m)

  exact-from : (ss : List Step) (n : ℕ) (cs : List Cell) → AllSound cs → (k : ℕ) → k < length ss
      → ExactAt (run_from r cs n ss).cells ss (length cs + k) k
  unfolding run_from
  exact-from [] n cs a k h = absurd (omega arith)
  exact-from (s ∷ ss) n cs a k h =
      go (run_from r (more cs s) (suc n) ss) (check_step r (headers_of cs) s) refl k h (prefix r ss (suc n) (more cs s)) (exact-from ss (suc n) (more cs s))
    where
      len : length (more cs s) ≡ length cs + 1
      len = length-append cs (step_cell cs s ∷ [])

      go : (p : Run) (o : Answer Unit) → check_step r (headers_of cs) s ≡ o → (k : ℕ) → k < length (s ∷ ss)
          → (rest : List Cell) × (p.cells ≡ more cs s ++ rest)
          → (AllSound (more cs s) → (k : ℕ) → k < length ss → ExactAt p.cells ss (length (more cs s) + k) k)
          → ExactAt (onward o cs n p).cells (s ∷ ss) (length cs + k) k
      go p (refused x) e k h t ih q = absurd (omega arith)
      go p (given u) e zero h t ih q =
          let w : p.cells ≡ cs ++ (step_cell cs s ∷ t.0) = t.1 ∙ append_assoc cs (step_cell cs s ∷ []) t.0 in
          let m : length cs ≡ length cs + 0 = omega arith in
          let x : cs ≡ take (length cs + 0) p.cells = sym (ap (take (length cs + 0)) w ∙ take_at cs (step_cell cs s ∷ t.0) (length cs + 0) m) in
          let y : (step_cell cs s).vector ≡ vector_at p.cells (length cs + 0) =
          sym (ap (λ z. vector_at z (length cs + 0)) w ∙ ap (λ c. c.vector) (get_or_at cs (step_cell cs s) t.0 empty_cell (length cs + 0) m)) in
          subst (λ z. Exactable (take (length cs + 0) p.cells) s → ExactStep (take (length cs + 0) p.cells) s z) y
          (subst (λ z. Exactable z s → ExactStep z s (step_cell cs s).vector) x (step-exact cs s u e a))
      go p (given u) e (suc k) h t ih q =
          let d : length (more cs s) + k ≡ length cs + suc k = omega (arith, len) in
          subst (λ m. ExactAt p.cells ss m k) d (ih (step-sound r cs s u e a) k (omega arith)) q

pub known_kept : KnownKept
known_kept r A B ss a h = record { ending = same-ending r ss 0 A B (headers-again Keeps A B h); kept = λ l. kept r ss l 0 A B a h }

pub alike : (r : Room) (A B : List Cell) (ss : List Step) → AllSound A → Cellwise Refines A B → Alike r A B ss
alike r A B ss a h = known_kept r A B ss a (refined-keeps A B h)

pub exact : (r : Room) (A : List Cell) (ss : List Step) → AllSound A → ExactCells Exactable (length A) ss (machine_run r A ss).cells
exact r A ss a k h = exact-from r ss 0 A a k h
