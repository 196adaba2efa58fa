-- Cells that are laid in the arenas, as fields: none at first, and one more.
--     no_words, lay-none     an empty store
--     with-fields            a store with one cell more, as fields
--     lay-more               a cell behind the last
--     input-agrees           store and arenas agree after an input that is not refused
--     step-laid              the cells after a step that is not refused
use mathlib.Core.Path.{◌≡◌, refl, sym, ap, ◌∙◌, subst}
use mathlib.Core.Bool.{true}
use mathlib.Core.List.{List, [], ◌∷◌, ◌++◌}
use Prim.Native.Nat.{ℕ, ◌+◌, ◌<◌}
use native.Mathlib.Omega.{arith}
use native.Mathlib.Numerals.{add-one}
use lib.ListN.{length, get_or, take, set}
use lib.Seq.{take-suc-set, get_or-set_same}
use Rattle.refusal.specs.Outcome.{Answer, Outcome, outcome, or_refuse}
use Rattle.refusal.specs.Outcome.Answer.{given, refused}
use Rattle.words.specs.Planes.{word_count, Planes, planes_of}
use Rattle.words.proofs.Planes.{length-tabulate}
use Rattle.value.specs.Checks.{Vector, vector}
use Rattle.ops.specs.declared.Step.{Step}
use Rattle.machine.specs.Machine.{holding, words_taken}
use Rattle.cells.specs.declared.Cell.{Cell}
use Rattle.cells.specs.declared.Fields.{Fields}
use Rattle.cells.specs.Cells.{cell_headers}
use Rattle.cells.specs.Places.{Whole, cell_of, no_cell, no_fields}
use Rattle.cells.proofs.Answered.{not-given}
use Rattle.cells.proofs.Places.{put_fields, put-places}
use Rattle.store.specs.declared.Store.{Store}
use Rattle.store.specs.Store.{State, state, store_of, filled, next_word, agrees, cells_of, appended, no_scratch, check_input, add_input, Holds, with_cell}
use Rattle.store.specs.Step.{Memory, memory, add_step}
use Rattle.store.specs.Taken.{Laid}
use Rattle.store.proofs.Held.{empty_holds}
use Rattle.store.proofs.Inputs.{input-holds}
use Rattle.store.proofs.Steps.{step-check, step-holds}
use Rattle.store.proofs.Taken.{step_left, step-few}
use Rattle.store.proofs.Placed.{store-empty}

pub no_words : 0 ≡ next_word (store_of 0 no_fields)
unfolding words_taken
no_words = refl

pub lay-none : (a : Planes) → length a.value ≡ length a.unknown → Laid no_fields 0 0 a
lay-none a e = record { agreed = subst (λ (s : Store). agrees (state s a) ≡ true) store-empty (empty_holds a e).agreed; words = no_words }

-- the words of cells, and of one more
words_more : (cs : List Cell) (c : Cell) → words_taken (cell_headers (cs ++ (c ∷ []))) ≡ words_taken (cell_headers cs) + word_count c.header.width
unfolding words_taken
words_more [] c = omega arith
words_more (b ∷ cs) c = let e = words_more cs c in omega arith

module _ (f : Fields) (n : ℕ) (cell : Cell) (w : Whole f) (few : n < 320) where
  -- the store with the cell is that of the fields with the cell
  pub with-fields : with_cell cell (store_of n f) ≡ store_of (n + 1) (put_fields f n cell)
  with-fields = sym (ap (λ (cs : List Cell). record { cells = cs; count = n + 1 }) (put-places f n cell w few))

  next_more : next_word (with_cell cell (store_of n f)) ≡ next_word (store_of n f) + word_count cell.header.width
  next_more =
      let cs = (store_of n f).cells in
      let e : filled (with_cell cell (store_of n f)) ≡ take n cs ++ (cell ∷ []) =
      ap (λ (i : ℕ). take i (set cs n cell)) (add-one n) ∙ take-suc-set cs n cell (omega (arith, length-tabulate 320 (cell_of f))) in
      ap (λ (l : List Cell). words_taken (cell_headers l)) e ∙ words_more (take n cs) cell

  pub lay-more : (a : Planes) → cell.start ≡ next_word (store_of n f) → agrees (state (with_cell cell (store_of n f)) a) ≡ true
      → Laid (put_fields f n cell) (n + 1) (cell.start + word_count cell.header.width) a
  lay-more a e g = record {
    agreed = subst (λ (s : Store). agrees (state s a) ≡ true) with-fields g;
    words = ap (λ (i : ℕ). i + word_count cell.header.width) e ∙ sym next_more ∙ ap next_word with-fields;
  }

-- ---- after an input and after a step that are not refused

module _ (s t : State) (v : Vector) (k : ℕ) (places : length s.store.cells ≡ 320) (width : length v.bits ≡ v.header.width)
    (e : outcome (given k) t ≡ add_input s v.header (planes_of v.bits)) (agreed : agrees s ≡ true) where
  pub input-agrees : agrees t ≡ true
  input-agrees = go (check_input s v.header (planes_of v.bits)) refl e
    where
      go : (x : Answer Unit) → check_input s v.header (planes_of v.bits) ≡ x
          → outcome (given k) t ≡ or_refuse x s (outcome (given s.store.count) (appended (holding (vector v.header (planes_of v.bits))) s)) → agrees t ≡ true
      go (refused j) q e = absurd (not-given j k (sym (ap (λ (o : Outcome ℕ State). o.answer) e)))
      go (given u) q f =
          let h : Holds s (cells_of s) = record { places = places; agreed = agreed; cells = refl } in
          subst (λ (z : State). agrees z ≡ true) (sym (ap (λ (o : Outcome ℕ State). o.left) e)) (input-holds s (cells_of s) v h width no_scratch q).holds.agreed

step-agrees : (m n : Memory) (step : Step) (k : ℕ) → length m.state.store.cells ≡ 320 → outcome (given k) n ≡ add_step m step
    → agrees m.state ≡ true → agrees n.state ≡ true
step-agrees m n step k places e agreed =
    let s = m.state in
    let h : Holds s (cells_of s) = record { places = places; agreed = agreed; cells = refl } in
    let q = (step_left m n step k e).0 in
    subst (λ (z : Memory). agrees z.state ≡ true) (sym (ap (λ (o : Outcome ℕ Memory). o.left) e))
    (step-holds s (cells_of s) m.scratch step h (sym (step-check s (cells_of s) m.scratch step h) ∙ q)).holds.agreed

module _ (f : Fields) (n k : ℕ) (cell : Cell) (a b p q : Planes) (step : Step) (w : Whole f) (laid : Laid f n k a)
    (e : outcome (given n) (memory (state (with_cell cell (store_of n f)) b) q) ≡ add_step (memory (state (store_of n f) a) p) step) where
  abbrev before : Memory
  before = memory (state (store_of n f) a) p

  abbrev left : Memory
  left = memory (state (with_cell cell (store_of n f)) b) q

  there : length (store_of n f).cells ≡ 320
  there = length-tabulate 320 (cell_of f)

  taken-few : n < 320
  taken-few = step-few before left step n there e

  begins : cell.start ≡ next_word (store_of n f)
  begins =
      let l : n < length (store_of n f).cells = omega (arith, there, taken-few) in
      sym (ap (λ (c : Cell). c.start) (get_or-set_same (store_of n f).cells n cell no_cell l))
      ∙ ap (λ (o : Memory). (get_or o.state.store.cells n no_cell).start) (step_left before left step n e).2
      ∙ ap (λ (c : Cell). c.start) (get_or-set_same (store_of n f).cells n _ no_cell l)

  pub step-laid : Laid (put_fields f n cell) (n + 1) (cell.start + word_count cell.header.width) b
  step-laid = lay-more f n cell w taken-few b begins (step-agrees before left step n there e laid.agreed)
