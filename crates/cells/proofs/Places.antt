-- Cells as four lists.
--     places-again     the four lists of 320 cells are those cells
--     headers-places   the headers of the first cells
--     whole-none, put_whole     the lists have 320 places
--     put-places       a place written in each list is one cell written
--     cell-among       the cell at a place below n is the one among the first n
use mathlib.Core.Path.{◌≡◌, refl, sym, ap, ◌∙◌}
use mathlib.Core.Logic.{◌≢◌}
use mathlib.Core.Bool.{Bool, true, false}
use mathlib.Core.List.{List, ◌∷◌}
use Prim.Native.Nat.{ℕ, zero, suc, ◌≤◌, ◌<◌}
use native.Mathlib.Omega.{arith}
use borrow.Author.Tests.{eqb-true, eqb-false}
use lib.Dec.{eqb}
use lib.ListN.{length, get_or, set, take, length-set, length-replicate, get_or-map}
use lib.Seq.{get_or-set_same, get_or-set_other, get_or-take}
use Rattle.words.specs.Vector.{tabulate}
use Rattle.words.proofs.Planes.{length-tabulate, get_d_tabulate, eq-tabulate}
use Rattle.value.specs.declared.Header.{Header}
use Rattle.cells.specs.declared.Cell.{Cell}
use Rattle.cells.specs.declared.Fields.{Fields}
use Rattle.cells.specs.Cells.{cell_headers}
use Rattle.cells.specs.Places.{fields, Whole, header_of, cell_of, places_of, fields_of, no_cell, no_fields}

pub places-again : (cs : List Cell) → length cs ≡ 320 → places_of (fields_of cs) ≡ cs
places-again cs e = sym (eq-tabulate 320 (cell_of (fields_of cs)) cs no_cell e (λ i h. sym (read i)))
  where
    read : (i : ℕ) → cell_of (fields_of cs) i ≡ get_or cs i no_cell
    read i =
        let a = get_or-map (λ (c : Cell). c.start) cs i no_cell in
        let b = get_or-map (λ (c : Cell). c.header.width) cs i no_cell in
        let s = get_or-map (λ (c : Cell). c.header.is_signed) cs i no_cell in
        let f = get_or-map (λ (c : Cell). c.header.is_fill) cs i no_cell in
        λ k. record { start = a k; header = record { width = b k; is_signed = s k; is_fill = f k } }

pub headers-places : (n : ℕ) (f : Fields) → n ≤ 320 → cell_headers (take n (places_of f)) ≡ tabulate n (header_of f.widths f.signs f.fills)
unfolding tabulate
headers-places n f h = go n 320 (cell_of f) h
  where
    go : (n m : ℕ) (g : ℕ → Cell) → n ≤ m → cell_headers (take n (tabulate m g)) ≡ tabulate n (λ i. (g i).header)
    go zero m g h = refl
    go (suc n) zero g h = absurd (omega arith)
    go (suc n) (suc m) g h = ap (λ (hs : List Header). (g 0).header ∷ hs) (go n m (λ i. g (suc i)) (omega arith))

pub cell-among : (f : Fields) (n i : ℕ) (d : Cell) → i < n → n < 321 → get_or (take n (places_of f)) i d ≡ cell_of f i
cell-among f n i d h l = get_or-take n (places_of f) i d h ∙ get_d_tabulate 320 (cell_of f) i d (omega arith)

pub whole-none : Whole no_fields
whole-none = record {
  starts = length-replicate {A = ℕ} 320 0;
  widths = length-replicate {A = ℕ} 320 0;
  signs = length-replicate {A = Bool} 320 false;
  fills = length-replicate {A = Bool} 320 false;
}

module _ (f : Fields) (n : ℕ) (c : Cell) where
  -- the cell c written at place n
  abbrev pub put_fields : Fields
  put_fields =
      fields (set f.starts n c.start) (set f.widths n c.header.width) (set f.signs n c.header.is_signed)
      (set f.fills n c.header.is_fill)

  pub put_whole : Whole f → Whole put_fields
  put_whole w = record {
    starts = length-set f.starts n c.start ∙ w.starts;
    widths = length-set f.widths n c.header.width ∙ w.widths;
    signs = length-set f.signs n c.header.is_signed ∙ w.signs;
    fills = length-set f.fills n c.header.is_fill ∙ w.fills;
  }

  module _ (w : Whole f) (h : n < 320) where
    put_same : cell_of put_fields n ≡ c
    put_same =
        let a = get_or-set_same f.starts n c.start 0 (omega (arith, w.starts)) in
        let b = get_or-set_same f.widths n c.header.width 0 (omega (arith, w.widths)) in
        let s = get_or-set_same f.signs n c.header.is_signed false (omega (arith, w.signs)) in
        let e = get_or-set_same f.fills n c.header.is_fill false (omega (arith, w.fills)) in
        λ k. record { start = a k; header = record { width = b k; is_signed = s k; is_fill = e k } }

    put_other : (i : ℕ) → i ≢ n → cell_of put_fields i ≡ cell_of f i
    put_other i q =
        let a = get_or-set_other f.starts n i c.start 0 q in
        let b = get_or-set_other f.widths n i c.header.width 0 q in
        let s = get_or-set_other f.signs n i c.header.is_signed false q in
        let e = get_or-set_other f.fills n i c.header.is_fill false q in
        λ k. record { start = a k; header = record { width = b k; is_signed = s k; is_fill = e k } }

    pub put-places : places_of put_fields ≡ set (places_of f) n c
    put-places =
        let l : length (places_of f) ≡ 320 = length-tabulate 320 (cell_of f) in
        sym (eq-tabulate 320 (cell_of put_fields) (set (places_of f) n c) no_cell (length-set (places_of f) n c ∙ l) (λ i m. go i m (eqb i n) refl))
      where
        go : (i : ℕ) → i < 320 → (b : Bool) → eqb i n ≡ b → get_or (set (places_of f) n c) i no_cell ≡ cell_of put_fields i
        go i m true e =
            let q = eqb-true i n e in
            let l : length (places_of f) ≡ 320 = length-tabulate 320 (cell_of f) in
            ap (λ (j : ℕ). get_or (set (places_of f) n c) j no_cell) q
            ∙ get_or-set_same (places_of f) n c no_cell (omega (arith, l))
            ∙ sym put_same ∙ sym (ap (cell_of put_fields) q)
        go i m false e =
            let q = eqb-false i n e in
            get_or-set_other (places_of f) n i c no_cell q ∙ get_d_tabulate 320 (cell_of f) i no_cell m ∙ sym (put_other i q)
