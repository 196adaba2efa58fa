-- Cells whose spans lie one behind the other.
--     cell-fits, fits-cell        what is asked of one cell, as facts
--     cells-within                the cells' words lie within the arenas
--     cells-snoc, cells-take      one cell more, and the first n
--     cell-there                  each cell fits
--     span-before, span-behind    a cell's words lie before or behind those that differ
--     cells_same                  cells whose words stay hold what they held
--     cells-overwritten           one cell's words change, those of the others stay
--     fits_read                   a cell that fits lies within the arenas, and its planes are those of a vector
use mathlib.Core.Path.{◌≡◌, refl, sym, ap, ap₂, ◌∙◌}
use mathlib.Core.Bool.{Bool, true, false, ◌&&◌}
use mathlib.Core.List.{List, [], ◌∷◌, ◌++◌, map}
use Prim.Native.Nat.{ℕ, zero, suc, ◌+◌, ◌-◌, ◌≤◌, ◌<◌}
use native.Mathlib.Nat.{le_of_suc-le-suc, not-suc-le-zero}
use native.Mathlib.Omega.{arith}
use borrow.Author.Tests.{eqb-true, leb-true, eq-eqb, le-leb}
use lib.Dec.{eqb, leb}
use lib.ListN.{length, get_or, take, drop, set}
use lib.Seq.{take-add, take-take, drop_at, drop-drop, length-take-le}
use Rattle.bit.proofs.Tests.{and-true}
use Rattle.refusal.specs.Outcome.{Answer}
use Rattle.refusal.specs.Outcome.Answer.{given, refused}
use Rattle.words.specs.Planes.{Planes}
use Rattle.value.specs.Checks.{vector, check_vector}
use Rattle.value.proofs.Checks.{Sound, vector_accepted}
use Rattle.machine.specs.Machine as machine
use Rattle.machine.specs.Machine.{holding, words_taken}
use Rattle.cells.specs.declared.Cell.{Cell}
use Rattle.cells.specs.Cells.{cell_words, span, cell_planes, cell_vector, cell_headers, accepts, cell_agrees, cells_agree}

-- ---- one cell

pub record Fits (a : Planes) (k : ℕ) (c : Cell) : Type 0 where
  pub begins : c.start ≡ k
  pub within : c.start + cell_words c ≤ length a.value
  pub sound : check_vector c.header (cell_planes a c) ≡ given tt

pub cell-fits : (a : Planes) (k : ℕ) (c : Cell) → cell_agrees a k c ≡ true → Fits a k c
unfolding cell_agrees
cell-fits a k c h = go (eqb c.start k) refl (leb (c.start + cell_words c) (length a.value)) refl (check_vector c.header (cell_planes a c)) refl h
  where
    go : (x : Bool) → eqb c.start k ≡ x → (y : Bool) → leb (c.start + cell_words c) (length a.value) ≡ y
        → (z : Answer Unit) → check_vector c.header (cell_planes a c) ≡ z → x && y && accepts z ≡ true → Fits a k c
    go true ex true ey (given t) ez h = record { begins = eqb-true _ _ ex; within = leb-true _ _ ey; sound = ez }
    go true ex true ey (refused n) ez h = let z : ◌≡◌ {A = ℕ} 0 1 = cc in absurd (omega arith)
    go true ex false ey z ez h = let z : ◌≡◌ {A = ℕ} 0 1 = cc in absurd (omega arith)
    go false ex y ey z ez h = let z : ◌≡◌ {A = ℕ} 0 1 = cc in absurd (omega arith)

pub fits-cell : (a : Planes) (k : ℕ) (c : Cell) → Fits a k c → cell_agrees a k c ≡ true
unfolding cell_agrees
fits-cell a k c f = simp (eq-eqb _ _ f.begins, le-leb _ _ f.within, f.sound)

-- ---- several cells

cells-split : (a : Planes) (k : ℕ) (c : Cell) (cs : List Cell) → cells_agree a k (c ∷ cs) ≡ true
    → Fits a k c × (cells_agree a (k + cell_words c) cs ≡ true)
unfolding cells_agree
cells-split a k c cs h = let p = and-true (cell_agrees a k c) (cells_agree a (k + cell_words c) cs) h in (cell-fits a k c p.0, p.1)

pub cells-within : (a : Planes) (cs : List Cell) (k : ℕ) → k ≤ length a.value → cells_agree a k cs ≡ true → k + words_taken (cell_headers cs) ≤ length a.value
unfolding words_taken
cells-within a [] k l h = omega arith
cells-within a (c ∷ cs) k l h =
    let p = cells-split a k c cs h in
    let q = cells-within a cs (k + cell_words c) (omega (arith, p.0.begins, p.0.within)) p.1 in
    omega arith

pub cells-snoc : (a : Planes) (cs : List Cell) (c : Cell) (k : ℕ) → cells_agree a k cs ≡ true → cell_agrees a (k + words_taken (cell_headers cs)) c ≡ true
    → cells_agree a k (cs ++ (c ∷ [])) ≡ true
unfolding cells_agree words_taken
cells-snoc a [] c k h g =
    let z : k ≡ k + 0 = omega arith in
    let x : cell_agrees a k c ≡ true = ap (λ (n : ℕ). cell_agrees a n c) z ∙ g in
    simp x
cells-snoc a (b ∷ cs) c k h g =
    let p = cells-split a k b cs h in
    let z : k + cell_words b + words_taken (cell_headers cs) ≡ k + (cell_words b + words_taken (cell_headers cs)) = omega arith in
    simp (fits-cell a k b p.0) (cells-snoc a cs c (k + cell_words b) p.1 (ap (λ (n : ℕ). cell_agrees a n c) z ∙ g))

pub cells-take : (a : Planes) (cs : List Cell) (k n : ℕ) → cells_agree a k cs ≡ true → cells_agree a k (take n cs) ≡ true
unfolding cells_agree
cells-take a [] k zero h = refl
cells-take a [] k (suc n) h = refl
cells-take a (c ∷ cs) k zero h = refl
cells-take a (c ∷ cs) k (suc n) h =
    let p = cells-split a k c cs h in
    simp (fits-cell a k c p.0) (cells-take a cs (k + cell_words c) n p.1)

pub cell-there : (a : Planes) (cs : List Cell) (k i : ℕ) (d : Cell) → cells_agree a k cs ≡ true → i < length cs → Fits a (get_or cs i d).start (get_or cs i d)
cell-there a [] k i d h l = absurd (not-suc-le-zero l)
cell-there a (c ∷ cs) k zero d h l =
    let f = (cells-split a k c cs h).0 in record { begins = refl; within = f.within; sound = f.sound }
cell-there a (c ∷ cs) k (suc i) d h l = cell-there a cs (k + cell_words c) i d (cells-split a k c cs h).1 (le_of_suc-le-suc l)

-- ---- two lists of words

-- that agree before n
module _ (v w : List ℕ) (n : ℕ) (lv : n ≤ length v) (lw : n ≤ length w) (e : take n v ≡ take n w) where
  pub span-before : (c : Cell) → c.start + cell_words c ≤ n → span c v ≡ span c w
  span-before c h =
      is v (omega arith)
      ∙ ap (λ (x : List ℕ). drop c.start x)
      (sym (take-take (c.start + cell_words c) n v h) ∙ ap (λ (x : List ℕ). take (c.start + cell_words c) x) e ∙ take-take (c.start + cell_words c) n w h)
      ∙ sym (is w (omega arith))
    where
      is : (l : List ℕ) → c.start ≤ length l → span c l ≡ drop c.start (take (c.start + cell_words c) l)
      is l q =
          sym (ap (λ (x : List ℕ). drop c.start x) (take-add c.start (cell_words c) l)
          ∙ drop_at (take c.start l) (take (cell_words c) (drop c.start l)) c.start (length-take-le c.start l q))

-- that agree from n on
pub span-behind : (v w : List ℕ) (n : ℕ) → drop n v ≡ drop n w → (c : Cell) → n ≤ c.start → span c v ≡ span c w
span-behind v w n e c h = ap (take (cell_words c)) (is v ∙ ap (drop (c.start - n)) e ∙ sym (is w))
  where
    is : (l : List ℕ) → drop c.start l ≡ drop (c.start - n) (drop n l)
    is l =
        let x : c.start ≡ n + (c.start - n) = omega arith in
        ap (λ (k : ℕ). drop k l) x ∙ sym (drop-drop (c.start - n) n l)

-- ---- two pairs of arenas of one length

-- what a cell holds
abbrev pub held : Planes → Cell → machine.Cell
held a c = holding (cell_vector a c)

module _ (a b : Planes) (lv : length b.value ≡ length a.value) where
  cell_same : (k : ℕ) (c : Cell) → Fits a k c → cell_planes a c ≡ cell_planes b c → cell_agrees b k c ≡ true
  cell_same k c f e =
      fits-cell b k c (record { begins = f.begins; within = omega (arith, f.within, lv); sound = ap (check_vector c.header) (sym e) ∙ f.sound })

  -- the cells between the words lo and hi have the same words in both
  module _ (lo hi : ℕ) (same : (c : Cell) → lo ≤ c.start → c.start + cell_words c ≤ hi → cell_planes a c ≡ cell_planes b c) where
    pub cells_same : (cs : List Cell) (k : ℕ) → lo ≤ k → k + words_taken (cell_headers cs) ≤ hi → cells_agree a k cs ≡ true
        → (cells_agree b k cs ≡ true) × (map (held b) cs ≡ map (held a) cs)
    unfolding cells_agree words_taken
    cells_same [] k l h g = (refl, refl)
    cells_same (c ∷ cs) k l h g =
        let p = cells-split a k c cs g in
        let f = p.0 in
        let e = same c (omega (arith, f.begins)) (omega (arith, f.begins)) in
        let r = cells_same cs (k + cell_words c) (omega arith) (omega arith) p.1 in (
          simp (cell_same k c f e) r.0,
          ap₂ (λ (p : Planes) (l : List machine.Cell). holding (vector c.header p) ∷ l) (sym e) r.1,
        )

  -- the cell w fits in the second, and those before and behind it have the same words in both
  module _ (w : Cell) (fits : Fits b w.start w) (before : (c : Cell) → c.start + cell_words c ≤ w.start → cell_planes a c ≡ cell_planes b c)
      (behind : (c : Cell) → w.start + cell_words w ≤ c.start → cell_planes a c ≡ cell_planes b c) where
    pub cells-overwritten : (cs : List Cell) (k i : ℕ) (d : Cell) → cells_agree a k cs ≡ true → i < length cs → get_or cs i d ≡ w
        → (k ≤ w.start) × (cells_agree b k cs ≡ true) × (map (held b) cs ≡ set (map (held a) cs) i (held b w))
    unfolding cells_agree
    cells-overwritten [] k i d h l e = absurd (not-suc-le-zero l)
    cells-overwritten (c ∷ cs) k zero d h l e =
        let p = cells-split a k c cs h in
        let s : w.start ≡ k = sym (ap (λ (c : Cell). c.start) e) ∙ p.0.begins in
        let n : cell_words c ≡ cell_words w = ap (λ (c : Cell). cell_words c) e in
        let f : cell_agrees b k c ≡ true = ap₂ (cell_agrees b) (sym s) e ∙ fits-cell b w.start w fits in
        let x = cells-within a cs (k + cell_words c) (omega (arith, p.0.begins, p.0.within)) p.1 in
        let r = cells_same (w.start + cell_words w) (length a.value) (λ c l h. behind c l) cs (k + cell_words c) (omega arith) x p.1 in
        (omega arith, simp f r.0, ap₂ (λ (c : Cell) (l : List machine.Cell). held b c ∷ l) e r.1)
    cells-overwritten (c ∷ cs) k (suc i) d h l e =
        let p = cells-split a k c cs h in
        let r = cells-overwritten cs (k + cell_words c) i d p.1 (le_of_suc-le-suc l) e in
        let x = before c (omega (arith, p.0.begins, r.0)) in (
          omega (arith, r.0),
          simp (cell_same k c p.0 x) r.1,
          ap₂ (λ (p : Planes) (l : List machine.Cell). holding (vector c.header p) ∷ l) (sym x) r.2,
        )

-- ---- reading

pub record Readable (a : Planes) (c : Cell) : Type 0 where
  pub value-within : c.start + cell_words c ≤ length a.value
  pub unknown-within : c.start + cell_words c ≤ length a.unknown
  pub sound : Sound c.header (cell_planes a c)

pub fits_read : (a : Planes) (k : ℕ) (c : Cell) → length a.value ≡ length a.unknown → Fits a k c → Readable a c
fits_read a k c e f = record {
  value-within = f.within;
  unknown-within = omega (arith, f.within, e);
  sound = vector_accepted c.header (cell_planes a c) f.sound;
}
