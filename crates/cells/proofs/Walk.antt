-- The check of cells goes through the filled ones, cs: `Left` says what is left of it at cell i, whose span is to begin at word k.
use mathlib.Core.Path.{◌≡◌, refl, sym, ap, ◌∙◌}
use mathlib.Core.Bool.{Bool, true, false, ◌&&◌}
use mathlib.Core.List.{List, [], ◌∷◌}
use Prim.Native.Nat.{ℕ, ◌+◌, ◌≤◌, ◌<◌}
use native.Mathlib.Numerals.{add-one}
use native.Mathlib.Omega.{arith}
use lib.ListN.{length, get_or, drop, drop_of_length-le}
use lib.Seq.{drop-cons}
use Rattle.words.specs.Planes.{Planes}
use Rattle.machine.specs.Machine.{words_taken}
use Rattle.cells.specs.declared.Cell.{Cell}
use Rattle.cells.specs.Cells.{cell_words, cell_headers, cell_agrees, cells_agree, word_behind}

pub record Left (a : Planes) (cs : List Cell) (i k : ℕ) : Type 0 where
  pub words : k + word_behind (drop i cs) ≡ word_behind cs
  pub spans : cells_agree a 0 cs ≡ cells_agree a k (drop i cs)

pub left_start : (a : Planes) (cs : List Cell) → Left a cs 0 0
left_start a cs = record { words = omega arith; spans = refl }

module _ (a : Planes) (cs : List Cell) (i k : ℕ) (left : Left a cs i k) where
  module _ (d : Cell) (h : i < length cs) where
    abbrev cell : Cell
    cell = get_or cs i d

    next : drop i cs ≡ cell ∷ drop (i + 1) cs
    next = drop-cons cs i d h ∙ ap (λ (m : ℕ). cell ∷ drop m cs) (sym (add-one i))

    turn : (b : Bool) → cell_agrees a k cell ≡ b → cells_agree a 0 cs ≡ b && cells_agree a (k + cell_words cell) (drop (i + 1) cs)
    unfolding cells_agree
    turn b e =
        left.spans ∙ ap (λ (l : List Cell). cells_agree a k l) next
        ∙ ap (λ (x : Bool). x && cells_agree a (k + cell_words cell) (drop (i + 1) cs)) e

    pub left_more : cell_agrees a k cell ≡ true → (m : ℕ) → m ≡ k + cell_words cell → Left a cs (i + 1) m
    unfolding words_taken
    left_more e m q =
        let w : word_behind (drop i cs) ≡ cell_words cell + word_behind (drop (i + 1) cs) =
        ap (λ (l : List Cell). words_taken (cell_headers l)) next in
        record {
          words = omega (arith, w, left.words);
          spans = turn true e ∙ ap (λ (j : ℕ). cells_agree a j (drop (i + 1) cs)) (sym q);
        }

    pub left_wrong : cell_agrees a k cell ≡ false → cells_agree a 0 cs ≡ false
    left_wrong e = turn false e

  pub left_done : length cs ≤ i → (k ≡ word_behind cs) × (cells_agree a 0 cs ≡ true)
  unfolding words_taken cells_agree
  left_done h =
      let e : drop i cs ≡ [] = drop_of_length-le cs {i = i} h in
      let w : word_behind (drop i cs) ≡ 0 = ap (λ (l : List Cell). words_taken (cell_headers l)) e in
      (omega (arith, w, left.words), left.spans ∙ ap (λ (l : List Cell). cells_agree a k l) e)
