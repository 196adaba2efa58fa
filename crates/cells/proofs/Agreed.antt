-- Cells and arenas that agree, where the first n of 320 places are filled.
--     agree-facts, facts-agree, cells-accepted     what is asked of them, as facts
--     headers-count               there are as many headers as filled cells
--     filled-fits                 each filled cell fits
--     next-within                 the next cell begins within the arenas
use mathlib.Core.Path.{◌≡◌, refl, ◌∙◌}
use mathlib.Core.Bool.{Bool, true, false, ◌&&◌, cond}
use mathlib.Core.List.{List}
use Prim.Native.Nat.{ℕ, ◌≤◌, ◌<◌}
use native.Mathlib.Omega.{arith}
use borrow.Author.Tests.{eqb-true, leb-true, eq-eqb, le-leb}
use lib.Dec.{eqb, leb}
use lib.ListN.{length, get_or, take, length-map}
use lib.Seq.{length-take-le}
use Rattle.bit.proofs.Tests.{and-true}
use Rattle.refusal.specs.Outcome.{Answer}
use Rattle.refusal.specs.Outcome.Answer.{given, refused}
use Rattle.words.specs.Planes.{Planes}
use Rattle.cells.specs.declared.Cell.{Cell}
use Rattle.cells.specs.Cells.{cell_headers, cells_agree, word_behind, agree, check_cells}
use Rattle.cells.proofs.Spans.{Fits, cells-within, cell-there}
use Rattle.cells.proofs.Answered.{not-given}

pub record Agreed (a : Planes) (cells : List Cell) (n : ℕ) : Type 0 where
  pub few : n ≤ 320
  pub level : length a.value ≡ length a.unknown
  pub spans : cells_agree a 0 (take n cells) ≡ true

-- there are as many headers as filled cells
filled-count : (cells : List Cell) (n : ℕ) → length cells ≡ 320 → n ≤ 320 → length (take n cells) ≡ n
filled-count cells n l h = length-take-le n cells (omega arith)

pub headers-count : (cells : List Cell) (n : ℕ) → length cells ≡ 320 → n ≤ 320 → length (cell_headers (take n cells)) ≡ n
headers-count cells n l h = length-map (take n cells) (λ (c : Cell). c.header) ∙ filled-count cells n l h

module _ (a : Planes) (cells : List Cell) (n : ℕ) where
  pub agree-facts : agree a cells n ≡ true → Agreed a cells n
  unfolding agree
  agree-facts h =
      let x = leb n 320 in
      let y = eqb (length a.value) (length a.unknown) in
      let p = and-true (x && y) (cells_agree a 0 (take n cells)) h in
      let q = and-true x y p.0 in
      record { few = leb-true _ _ q.0; level = eqb-true _ _ q.1; spans = p.1 }

  pub facts-agree : Agreed a cells n → agree a cells n ≡ true
  unfolding agree
  facts-agree h = simp (le-leb _ _ h.few, eq-eqb _ _ h.level, h.spans)

  pub filled-fits : (i : ℕ) (d : Cell) → length cells ≡ 320 → agree a cells n ≡ true → i < n
      → Fits a (get_or (take n cells) i d).start (get_or (take n cells) i d)
  filled-fits i d l h k =
      let g = agree-facts h in
      cell-there a (take n cells) 0 i d g.spans (omega (arith, filled-count cells n l g.few))

  -- the next cell begins within the arenas
  pub next-within : agree a cells n ≡ true → word_behind (take n cells) ≤ length a.value
  next-within h =
      let w = cells-within a (take n cells) 0 (omega arith) (agree-facts h).spans in
      omega arith

  pub cells-accepted : check_cells a cells n ≡ given tt → agree a cells n ≡ true
  unfolding check_cells
  cells-accepted h = go (agree a cells n) h
    where
      go : (b : Bool) → ◌≡◌ {A = Answer Unit} (cond b (given tt) (refused 14)) (given tt) → b ≡ true
      go true h = refl
      go false h = absurd (not-given 14 tt h)
