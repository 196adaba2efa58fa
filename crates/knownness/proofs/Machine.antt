-- The runs of the plain machine, whatever its ops are.
--     header-at, headers-step     the headers of the cells, and of the cells with a step's
--     arms-accepted     a step that is not refused has arms that are in order
--     same-ending       a run's ending goes by the headers of the cells it starts from
--     prefix            the cells that a run starts from stay, in order
--     at_more           what holds of all cells holds with one more
--     run-all           what a step keeps of all cells, a run keeps
--     step-sound        the cell of a step has as many bits as its header says, if the cells before do
--     run-no-fill       no cell is a fill, if no input is
use mathlib.Core.Path.{◌≡◌, refl, sym, ◌∙◌, subst, ap}
use mathlib.Core.Bool.{Bool, true, false, not, cond}
use mathlib.Core.List.{List, [], ◌∷◌, ◌++◌, append_assoc, append-nil}
use Prim.Native.Nat.{ℕ, zero, suc}
use native.Mathlib.Omega.{arith}
use lib.Dec.{T}
use lib.ListN.{length, get_or-map}
use Rattle.refusal.specs.Outcome.{Answer, after}
use Rattle.refusal.specs.Outcome.Answer.{given, refused}
use Rattle.value.specs.declared.Header.{Header}
use Rattle.ops.specs.declared.Step.{Step}
use Rattle.ops.specs.declared.Family.{Family}
use Rattle.ops.specs.declared.Family.TheVariants as family
use Rattle.ops.specs.Ops.{family_of, arms_refused, family_header, op_header}
use Rattle.ops.proofs.Results.{result-width}
use Rattle.machine.specs.declared.Room.{Room}
use Rattle.machine.specs.Machine.{Cell, headers_of, empty_cell, cell_at, vector_at, header_at, words_taken, check_count, check_names, check_room, check_scratch, step_header, check_step, step_cell, Run, onward, run_from}
use Rattle.knownness.specs.Knownness.{AllSound, NoFill}

-- ---- headers

pub header-at : (cs : List Cell) (j : ℕ) → header_at (headers_of cs) j ≡ (vector_at cs j).header
header-at cs j = get_or-map (λ (c : Cell). c.vector.header) cs j empty_cell

-- the cells and one more
abbrev pub more : List Cell → Step → List Cell
more cs s = cs ++ (step_cell cs s ∷ [])

pub headers-more : (cs : List Cell) (c : Cell) → headers_of (cs ++ (c ∷ [])) ≡ headers_of cs ++ (c.vector.header ∷ [])
headers-more [] c = refl
headers-more (x ∷ xs) c = ap {B = List Header} (λ l. x.vector.header ∷ l) (headers-more xs c)

pub headers-step : (cs : List Cell) (s : Step) → headers_of (more cs s) ≡ headers_of cs ++ (step_header (headers_of cs) s ∷ [])
headers-step cs s =
    headers-more cs (step_cell cs s)
    ∙ (λ k. headers_of cs ++ (op_header s.op (sym (header-at cs s.a) k) (sym (header-at cs s.b) k) (sym (header-at cs s.c) k) ∷ []))

-- ---- refusals

passed : Answer Unit → Bool
passed (given u) = true
passed (refused n) = false

arms_of : (x y : Answer Unit) (z : Bool) (w : Answer Unit) → T (passed (after x (after y (after (cond z (refused 7) (given tt)) w)))) → z ≡ false
unfolding passed
arms_of (refused n) y z w e = absurd e
arms_of (given t) (refused n) z w e = absurd e
arms_of (given t) (given u) true w e = absurd e
arms_of (given t) (given u) false w e = refl

pub arms-accepted : (r : Room) (cs : List Cell) (s : Step) (u : Unit) → check_step r (headers_of cs) s ≡ given u
    → arms_refused s.op (vector_at cs s.b).header (vector_at cs s.c).header ≡ false
unfolding check_step passed
arms-accepted r cs s u e =
    let hs : List Header = headers_of cs in
    let w : ℕ = (step_header hs s).width in
    (λ k. arms_refused s.op (sym (header-at cs s.b) k) (sym (header-at cs s.c) k))
    ∙ arms_of (check_count (length hs)) (check_names (length hs) s) (arms_refused s.op (header_at hs s.b) (header_at hs s.c))
    (after (check_room r (words_taken hs) w) (check_scratch r w)) (subst (λ (x : Answer Unit). T (passed x)) (sym e) tt)

module _ (r : Room) where
  -- ---- endings

  pub same-ending : (ss : List Step) (n : ℕ) (cs ds : List Cell) → headers_of ds ≡ headers_of cs → (run_from r ds n ss).ending ≡ (run_from r cs n ss).ending
  unfolding run_from
  same-ending [] n cs ds e = refl
  same-ending (s ∷ ss) n cs ds e =
      go (run_from r (more cs s) (suc n) ss) (run_from r (more ds s) (suc n) ss) (check_step r (headers_of cs) s) (check_step r (headers_of ds) s)
      (ap (λ hs. check_step r hs s) e)
      (same-ending ss (suc n) (more cs s) (more ds s)
      (headers-step ds s ∙ ap {B = List Header} (λ hs. hs ++ (step_header hs s ∷ [])) e ∙ sym (headers-step cs s)))
    where
      go : (p q : Run) (o u : Answer Unit) → u ≡ o → q.ending ≡ p.ending → (onward u ds n q).ending ≡ (onward o cs n p).ending
      go p q o u f h = ap (λ (u : Answer Unit). (onward u ds n q).ending) f ∙ same o
        where
          same : (o : Answer Unit) → (onward o ds n q).ending ≡ (onward o cs n p).ending
          same (given u) = h
          same (refused x) = refl

  -- ---- the cells of a run

  pub prefix : (ss : List Step) (n : ℕ) (cs : List Cell) → (rest : List Cell) × ((run_from r cs n ss).cells ≡ cs ++ rest)
  unfolding run_from
  prefix [] n cs = ([], sym (append-nil cs))
  prefix (s ∷ ss) n cs = go (run_from r (more cs s) (suc n) ss) (check_step r (headers_of cs) s) (prefix ss (suc n) (more cs s))
    where
      go : (p : Run) (o : Answer Unit) → (rest : List Cell) × (p.cells ≡ more cs s ++ rest) → (rest : List Cell) × ((onward o cs n p).cells ≡ cs ++ rest)
      go p (given u) t = (step_cell cs s ∷ t.0, t.1 ∙ append_assoc cs (step_cell cs s ∷ []) t.0)
      go p (refused x) t = ([], sym (append-nil cs))

-- what holds of two lists of cells, cell by cell, holds with one more on each; of empty_cell too, since a cell is read beyond the end
pub at_more : (R : Cell → Cell → Type 0) → R empty_cell empty_cell → (cs ds : List Cell) (c d : Cell) → length ds ≡ length cs
    → ((j : ℕ) → R (cell_at cs j) (cell_at ds j)) → R c d → (j : ℕ) → R (cell_at (cs ++ (c ∷ [])) j) (cell_at (ds ++ (d ∷ [])) j)
at_more R z [] [] c d e h p zero = p
at_more R z [] [] c d e h p (suc j) = z
at_more R z [] (y ∷ ys) c d e h p j = absurd (omega arith)
at_more R z (x ∷ xs) [] c d e h p j = absurd (omega arith)
at_more R z (x ∷ xs) (y ∷ ys) c d e h p zero = h zero
at_more R z (x ∷ xs) (y ∷ ys) c d e h p (suc j) = at_more R z xs ys c d (omega arith) (λ i. h (suc i)) p j

-- what holds of each cell, and of each that a step makes of such cells, holds of every cell of a run
module _ (P : Cell → Type 0) (none : P empty_cell) where
  abbrev pub All : List Cell → Type 0
  All cs = (j : ℕ) → P (cell_at cs j)

  pub all_more : (cs : List Cell) (c : Cell) → All cs → P c → All (cs ++ (c ∷ []))
  all_more cs c h p = at_more (λ x y. P x) none cs cs c c refl h p

  module _ (r : Room) (step : (cs : List Cell) (s : Step) (u : Unit) → check_step r (headers_of cs) s ≡ given u → All cs → P (step_cell cs s)) where
    pub run-all : (ss : List Step) (n : ℕ) (cs : List Cell) → All cs → All (run_from r cs n ss).cells
    unfolding run_from
    run-all [] n cs h = h
    run-all (s ∷ ss) n cs h = go (check_step r (headers_of cs) s) refl (run_from r (more cs s) (suc n) ss) (run-all ss (suc n) (more cs s))
      where
        go : (o : Answer Unit) → check_step r (headers_of cs) s ≡ o → (p : Run) → (All (more cs s) → All p.cells) → All (onward o cs n p).cells
        go (given u) e p k = k (all_more cs (step_cell cs s) h (step cs s u e h))
        go (refused x) e p k = h

-- ---- each cell has as many bits as its header says

pub step-sound : (r : Room) (cs : List Cell) (s : Step) (u : Unit) → check_step r (headers_of cs) s ≡ given u → AllSound cs → AllSound (more cs s)
step-sound r cs s u e h =
    all_more (λ c. length c.vector.bits ≡ c.vector.header.width) refl cs (step_cell cs s) h
    (result-width (vector_at cs s.a) (vector_at cs s.b) (vector_at cs s.c) s.c (h s.a) (h s.b) (h s.c) s.op (arms-accepted r cs s u e))

-- ---- no cell is a fill

-- only insert keeps a fill
no-fill-header : (f : Family) (a b c : Header) → T (not a.is_fill) → T (not (family_header f a b c).is_fill)
no-fill-header (family.Join j) a b c h = tt
no-fill-header family.Not a b c h = tt
no-fill-header (family.Answer q) a b c h = tt
no-fill-header family.Select a b c h = tt
no-fill-header family.Insert a b c h = h

pub run-no-fill : (r : Room) (ss : List Step) (n : ℕ) (cs : List Cell) → NoFill cs → NoFill (run_from r cs n ss).cells
run-no-fill r =
    run-all (λ c. T (not c.vector.header.is_fill)) tt r
    (λ cs s u e h. no-fill-header (family_of s.op) (vector_at cs s.a).header (vector_at cs s.b).header (vector_at cs s.c).header (h s.a))
