-- Each run is the plain machine's, of which the laws of `knownness` speak; and so of the lists that texts say.
--     refinement, text-refinement     what is proved of two runs
--     text-sound                      the inputs of a list that a text says have as many bits as their headers say
--     of-texts                        what holds of the runs of two lists holds of what `run` computes of their texts
use mathlib.Core.Path.{◌≡◌, refl, sym, ap, ◌∙◌, subst, subst₂}
use mathlib.Core.Bool.{Bool, true, false, ◌&&◌, ◌||◌, cond}
use mathlib.Core.Logic.{◌⊎◌, inl, inr, ⊎_elim}
use mathlib.Core.List.{List, [], ◌∷◌}
use Prim.Native.Nat.{ℕ, zero, suc, min}
use native.Mathlib.Omega.{arith}
use lib.Dec.{T, eqb, eqb→eq, ltb}
use lib.ListN.{length, length-map}
use borrow.Author.Tests.{eq-eqb, le-ltb}
use Rattle.refusal.specs.Outcome.{Answer, Outcome, outcome, after, refuse, or_refuse}
use Rattle.refusal.specs.Outcome.Answer.{given, refused}
use Rattle.words.specs.Planes.{planes_of}
use Rattle.text.specs.Exact.{All}
use Rattle.value.specs.Checks.{Vector, vector, check_vector}
use Rattle.ops.specs.declared.Step.{Step}
use Rattle.ops.specs.Ops.{operands}
use Rattle.machine.specs.declared.Room.{Room}
use Rattle.machine.specs.Machine.{holding, words_taken, check_count, check_arms, check_room, check_scratch, step_header, check_step, step_cell, Run, onward, run_from, input_cells, machine_run}
use Rattle.execute.specs.Executed.{LentMemory}
use Rattle.knownness.specs.Knownness.{Keeps, Refines, Cellwise, AllSound, Exactable, ExactCells, Alike}
use Rattle.knownness.proofs.Runs.{headers-again, sound-again, alike, exact}
use Rattle.store.specs.Store.{State, state, empty_store, room_of, no_scratch, store_headers, next_word, check_store, appended}
use Rattle.store.specs.Step.{Memory, memory, step_result, stepped, add_step}
use Rattle.store.proofs.Held.{state-uneven, empty_holds}
use Rattle.steplist.specs.Listing.{InputWithin, InLimits, whole}
use Rattle.steplist.proofs.Exactly.{whole-exactly}
use Rattle.load.specs.Inputs.{add_listed, after_input, add_inputs}
use Rattle.steps.specs.Run.{Ran, after_inputs, after_step, run_steps, emptied, run_whole}
use Rattle.run_theorem.specs.Demand.{room, step_list, run_on, run_of, cells_left, Paired}
use Rattle.run_theorem.specs.Refinement.{Level, uneven_ending, PlainRun, Refined, Refinement, TextRefinement}
use Rattle.run_theorem.proofs.Plain.{Same, steps-plain}
use Rattle.run_theorem.proofs.Inputs.{Accepts, input_headers, inputs-plain, accepts}

abbrev empty : LentMemory → State
empty m = state empty_store m.arenas

abbrev Accepted : LentMemory → List Vector → Type 0
Accepted m A = (add_inputs (empty m) A).answer ≡ given tt

-- ---- arenas of one length

module _ (m : LentMemory) (A : List Vector) (level : Level m) (sound : AllSound (input_cells A)) where
  by-headers : Accepted m A → Accepts (room m) [] (input_headers A)
  by-headers a = accepts m.scratch (room m) A (empty m) [] refl (empty_holds m.arenas (sym level)) sound a

  level-plain : (ss : List Step) → Accepts (room m) [] (input_headers A) → PlainRun m A ss (run_on m A ss)
  level-plain ss a =
      let fed = add_inputs (empty m) A in
      let h = inputs-plain m.scratch (room m) A (empty m) [] refl (empty_holds m.arenas (sym level)) sound a in
      let t : Same (run_on m A ss) (machine_run (room m) (input_cells A) ss) =
      subst (λ x. Same (after_inputs x (memory fed.left m.scratch) ss) (machine_run (room m) (input_cells A) ss)) (sym h.accepted)
      (steps-plain ss (memory fed.left m.scratch) (input_cells A) 0 (room m) h.room h.holds)
      in
      record { cells = t.1.cells; ending = λ l. t.0; holds = λ l. t.1; uneven = λ u. absurd (u level) }

-- ---- arenas of two lengths

-- no cell is there to be named, so the machine refuses a first step by 11
nothing-named : (r : Room) (s : Step) → check_step r [] s ≡ refused 11
unfolding check_step
nothing-named r s =
    let w = (step_header [] s).width in
    ap (λ (b : Bool). after (check_count 0)
    (after (cond (b && (ltb (operands s.op) 2 || ltb s.b 0) && (ltb (operands s.op) 3 || ltb s.c 0)) (given tt) (refused 11))
    (after (check_arms [] s) (after (check_room r (words_taken []) w) (check_scratch r w)))))
    (le-ltb s.a 0 (omega arith))

machine-none : (r : Room) (ss : List Step) → (machine_run r [] ss).cells ≡ []
unfolding run_from
machine-none r [] = refl
machine-none r (s ∷ ss) = go (run_from r (step_cell [] s ∷ []) 1 ss)
  where
    go : (p : Run) → (onward (check_step r [] s) [] 0 p).cells ≡ []
    go p = ap (λ (x : Answer Unit). (onward x [] 0 p).cells) (nothing-named r s)

module _ (m : LentMemory) (u : ¬ (Level m)) where
  disagrees : check_store (empty m) ≡ refused 14
  disagrees = state-uneven (empty m) (λ e. u (sym e))

  none-accepted : (A : List Vector) → Accepted m A → A ≡ []
  unfolding add_inputs
  none-accepted [] a = refl
  none-accepted (v ∷ A) a =
      let s = empty m in
      let p = planes_of v.bits in
      let rest : Answer Unit =
      after (check_count (length (store_headers s.store)))
      (after (check_vector v.header p) (check_room (room_of s.arenas no_scratch) (next_word s.store) v.header.width))
      in
      let q : add_listed s v ≡ refuse 14 s =
      ap (λ (x : Answer Unit). or_refuse (after x rest) s (outcome (given s.store.count) (appended (holding (vector v.header p)) s))) disagrees
      in
      let z : ◌≡◌ {A = Answer Unit} (refused 14) (given tt) =
      sym (ap (λ (o : Outcome ℕ State). (after_input o.answer o.left (add_inputs o.left A)).answer) q) ∙ a
      in
      let y : ◌≡◌ {A = ℕ} 0 1 = cc in
      absurd (omega arith)

  first-refused : (s : Step) → add_step (memory (empty m) m.scratch) s ≡ refuse 14 (memory (empty m) m.scratch)
  first-refused s =
      let n = memory (empty m) m.scratch in
      ap (λ (x : Answer Unit). or_refuse (after x (check_step (room m) (store_headers empty_store) s)) n
      (outcome (given empty_store.count) (stepped (step_result n.state s) n))) disagrees

  left : (ss : List Step) → ((run_on m [] ss).ending ≡ uneven_ending ss) × (cells_left (run_on m [] ss) ≡ [])
  unfolding run_steps add_inputs empty_store
  left [] = (refl, refl)
  left (s ∷ ss) =
      let n = memory (empty m) m.scratch in
      subst (λ (o : Outcome ℕ Memory).
      let p = after_step o.answer o.left 0 (step_result n.state s).vector.bits (run_steps o.left 1 ss) in
      (p.ending ≡ uneven_ending (s ∷ ss)) × (cells_left p ≡ [])) (sym (first-refused s)) (refl, refl)

  uneven-plain : (ss : List Step) → PlainRun m [] ss (run_on m [] ss)
  uneven-plain ss = record {
    cells = (left ss).1 ∙ sym (machine-none (room m) ss);
    ending = λ l. absurd (u l);
    holds = λ l. absurd (u l);
    uneven = λ v. (refl, (left ss).0);
  }

-- ---- either way

no-inputs : (A : List Vector) → length (input_cells A) ≡ 0 → A ≡ []
no-inputs [] e = refl
no-inputs (v ∷ A) e = absurd (omega arith)

decided : (m : LentMemory) → Level m ⊎ ¬ (Level m)
decided m = go (eqb (length m.arenas.unknown) (length m.arenas.value)) refl
  where
    go : (z : Bool) → eqb (length m.arenas.unknown) (length m.arenas.value) ≡ z → Level m ⊎ ¬ (Level m)
    go true e = inl (eqb→eq _ _ (subst T (sym e) tt))
    go false e = inr (λ l. subst T (sym (eq-eqb _ _ l) ∙ e) tt)

-- each step of a run that is the machine's is known exactly
plain-exact : (m : LentMemory) (A : List Vector) (ss : List Step) (p : Ran) → PlainRun m A ss p → AllSound (input_cells A)
    → ExactCells Exactable (length A) ss (cells_left p)
plain-exact m A ss p t sound =
    subst₂ (λ n cells. ExactCells Exactable n ss cells) (length-map A holding) (sym t.cells) (exact (room m) (input_cells A) ss sound)

-- both runs are the machine's, and end alike
pub record Plainly (m n : LentMemory) (A B : List Vector) (ss : List Step) : Type 0 where
  pub first : PlainRun m A ss (run_on m A ss)
  pub second : PlainRun n B ss (run_on n B ss)
  pub ending : (run_on n B ss).ending ≡ (run_on m A ss).ending

module _ (m n : LentMemory) (A B : List Vector) (ss : List Step) (sound : AllSound (input_cells A)) (pair : Paired m n A B) where
  same-room : room n ≡ room m
  same-room = λ i. record { arena = pair.arenas.0 i; scratch = min (pair.scratch.0 i) (pair.scratch.1 i) }

  same-headers : input_headers B ≡ input_headers A
  same-headers = headers-again Refines (input_cells A) (input_cells B) pair.refines

  sound-B : AllSound (input_cells B)
  sound-B = sound-again Refines (input_cells A) (input_cells B) pair.refines sound

  same-run : machine_run (room n) (input_cells B) ss ≡ machine_run (room m) (input_cells B) ss
  same-run = ap (λ r. machine_run r (input_cells B) ss) same-room

  both : Alike (room m) (input_cells A) (input_cells B) ss
  both = alike (room m) (input_cells A) (input_cells B) ss sound pair.refines

  plainly : Plainly m n A B ss
  plainly = ⊎_elim level uneven (decided m)
    where
      level : Level m → Plainly m n A B ss
      level l =
          let a = by-headers m A l sound pair.accepted in
          let k : Level n = pair.arenas.1 ∙ l ∙ sym pair.arenas.0 in
          let p = level-plain m A l sound ss a in
          let q = level-plain n B k sound-B ss (subst₂ (λ z hs. Accepts z [] hs) (sym same-room) (sym same-headers) a) in
          record { first = p; second = q; ending = q.ending k ∙ ap (λ p. p.ending) same-run ∙ both.ending ∙ sym (p.ending l) }

      uneven : ¬ (Level m) → Plainly m n A B ss
      uneven u =
          let v : ¬ (Level n) = λ l. u (sym pair.arenas.1 ∙ l ∙ pair.arenas.0) in
          let e = none-accepted m u A pair.accepted in
          let f : B ≡ [] = no-inputs B (pair.refines.0 ∙ ap (λ (l : List Vector). length (input_cells l)) e) in
          let p = subst (λ (l : List Vector). PlainRun m l ss (run_on m l ss)) (sym e) (uneven-plain m u ss) in
          let q = subst (λ (l : List Vector). PlainRun n l ss (run_on n l ss)) (sym f) (uneven-plain n v ss) in
          record { first = p; second = q; ending = (q.uneven v).1 ∙ sym (p.uneven u).1 }

pub refinement : Refinement
refinement m n A B ss sound pair =
    let t = plainly m n A B ss sound pair in
    let second : cells_left (run_on n B ss) ≡ (machine_run (room m) (input_cells B) ss).cells =
    t.second.cells ∙ ap (λ p. p.cells) (same-run m n A B ss sound pair)
    in
    record {
      ending = t.ending;
      plain = t.first;
      plain-refined = t.second;
      kept = λ k. subst₂ (Cellwise Keeps) (sym t.first.cells) (sym second) ((both m n A B ss sound pair).kept k);
      exact = plain-exact m A ss (run_on m A ss) t.first sound;
      exact-refined = plain-exact n B ss (run_on n B ss) t.second (sound-B m n A B ss sound pair);
    }

-- ---- texts

-- the inputs of a list within the limits have as many bits as their headers say
within-sound : (A : List Vector) → All InputWithin A → AllSound (input_cells A)
unfolding InputWithin
within-sound [] h j = refl
within-sound (x ∷ xs) h zero = h.0.1
within-sound (x ∷ xs) h (suc j) = within-sound xs h.1 j

module _ (m n : LentMemory) (A B : List Vector) (ss : List Step) (t u : List ℕ) (et : whole t ≡ given (step_list A ss)) (eu : whole u ≡ given (step_list B ss)) where
  pub text-sound : AllSound (input_cells A)
  unfolding InLimits
  text-sound = within-sound A ((whole-exactly t (step_list A ss)).0 et).1.2

  pub of-texts : (P : Ran → Ran → Type 0) → P (run_on m A ss) (run_on n B ss) → P (run_of m t) (run_of n u)
  of-texts P h =
      subst (λ x. P x (run_of n u)) (sym (ap (run_whole (emptied m.arenas m.scratch)) et))
      (subst (P (run_on m A ss)) (sym (ap (run_whole (emptied n.arenas n.scratch)) eu)) h)

pub text-refinement : TextRefinement
text-refinement m n A B ss t u et eu pair =
    of-texts m n A B ss t u et eu (Refined m n A B ss) (refinement m n A B ss (text-sound m n A B ss t u et eu) pair)
