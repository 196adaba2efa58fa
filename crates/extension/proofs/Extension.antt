-- How an operand is read beside another: its extent says the bit at each place.
--     extent-at                         the bit at a place, told by the extent
--     extent-stretched, extent-plain    the extent by the tests of the code
--     no_top                            the top bit of a vector that has none is 0
--     top_read                          the top bit is that at the width minus 1
--     extent-narrow                     it is no wider than the operand
--     settled                           two operands put together as their extents say
--     inside                            a place below the width is read as it stands
--     read_left, read_right             two operands that are no fills, and of equal width if both are signed, are read as they stand
use mathlib.Core.Path.{◌≡◌, refl, ap, ap₂, ◌∙◌}
use mathlib.Core.Bool.{Bool, true, false, not, ◌&&◌, cond}
use mathlib.Core.List.{List, [], ◌∷◌}
use Prim.Native.Nat.{ℕ, zero, suc, ◌-◌, ◌≤◌, ◌<◌, max}
use native.Mathlib.Nat.{not-suc-le-zero, le_of_suc-le-suc}
use native.Mathlib.Omega.{arith}
use borrow.Author.Tests.{not-false, eqb-true}
use lib.Dec.{T, eqb}
use lib.ListN.{length, get_or}
use Rattle.bit.specs.declared.LogicBit.{LogicBit}
use Rattle.bit.specs.declared.LogicBit.TheVariants.{Zero}
use Rattle.bit.proofs.Tests.{and_left, and_right, and_intro}
use Rattle.words.specs.Vector.{at, tabulate}
use Rattle.words.specs.Planes.{from_planes, Planes, lent}
use Rattle.words.proofs.Planes.{length-tabulate}
use Rattle.value.specs.declared.Header.{Header}
use Rattle.extension.specs.declared.Extent.{Extent}
use Rattle.value.specs.Checks.{Vector, vector}
use Rattle.extension.specs.Extension.{larger_width, top, read_signed, both_signed, extension, operand_at, extent_of, extent_at}

abbrev pub extent_over : ℕ → LogicBit → Extent
extent_over w b = record { width = w; beyond = b }

-- the extent of a stretched operand, or of one that is extended
abbrev extent_by : Bool → ℕ → LogicBit → LogicBit → Extent
extent_by s w first beyond = cond s (record { width = 0; beyond = first }) (record { width = w; beyond = beyond })

by_cases : (s : Bool) (w : ℕ) (first beyond : LogicBit) (v u : List ℕ) (i : ℕ)
    → get_or (from_planes (extent_by s w first beyond).width v u) i (extent_by s w first beyond).beyond ≡ cond s first (get_or (from_planes w v u) i beyond)
unfolding tabulate
by_cases true w first beyond v u i = refl
by_cases false w first beyond v u i = refl

-- the bit that an extent has at place i, over the operand's planes
pub extent-at : (a b : Header) (v u : List ℕ) (i : ℕ)
    → get_or (from_planes (extent_of (vector a (lent v u)) b).width v u) i (extent_of (vector a (lent v u)) b).beyond ≡ operand_at (vector a (lent v u)) b i
extent-at a b v u i = by_cases a.is_fill a.width (at (from_planes a.width v u) 0) (extension (vector a (lent v u)) b) v u i

module _ (a : Vector) (b : Header) where
  pub extent-stretched : a.header.is_fill ≡ true → extent_of a b ≡ extent_over 0 (at a.bits 0)
  extent-stretched h = ap (λ (s : Bool). extent_by s a.header.width (at a.bits 0) (extension a b)) h

  pub extent-plain : a.header.is_fill ≡ false → (z : Bool) → both_signed a.header b ≡ z
      → extent_of a b ≡ extent_over a.header.width (cond z (top a.bits) Zero)
  extent-plain h z k =
      ap₂ (λ (s z : Bool). extent_by s a.header.width (at a.bits 0) (cond z (top a.bits) Zero)) h k

pub no_top : (z : Bool) (w : ℕ) (v u : List ℕ) → z && not (eqb w 0) ≡ false → cond z (top (from_planes w v u)) Zero ≡ Zero
unfolding tabulate
no_top true w v u h = ap (λ (n : ℕ). top (from_planes n v u)) (eqb-true w 0 (not-false (eqb w 0) h))
no_top false w v u h = refl

-- the top bit as the code reads it
pub top_read : (w : ℕ) (v u : List ℕ) → top (from_planes w v u) ≡ at (from_planes w v u) (w - 1)
top_read w v u = ap (λ (n : ℕ). at (from_planes w v u) (n - 1)) (length-tabulate w _)

-- an extent is no wider than the operand
narrow-by : (s : Bool) (w : ℕ) (first beyond : LogicBit) → (extent_by s w first beyond).width ≤ w
narrow-by true w first beyond = omega arith
narrow-by false w first beyond = omega arith

pub extent-narrow : (a b : Header) (p : Planes) {x : Extent} → x ≡ extent_of (vector a p) b → x.width ≤ a.width
extent-narrow a b p e = rw e (narrow-by a.is_fill a.width (at (vector a p).bits 0) (extension (vector a p) b))

-- two operands put together place by place as their extents say, at the larger width: so they are as every operator reads them
module _ {A : Type 0} (f : LogicBit → LogicBit → A) (a b : Header) (av au bv bu : List ℕ) where
  pub settled : {x y : Extent} → x ≡ extent_of (vector a (lent av au)) b → y ≡ extent_of (vector b (lent bv bu)) a
      → (w : ℕ) → w ≡ max a.width b.width
      → tabulate w (λ i. f (extent_at x (lent av au) i) (extent_at y (lent bv bu) i))
      ≡ tabulate (max a.width b.width) (λ i. f (operand_at (vector a (lent av au)) b i) (operand_at (vector b (lent bv bu)) a i))
  settled hx hy w hw =
      ap₂ (λ (x y : Extent). tabulate w (λ i. f (extent_at x (lent av au) i) (extent_at y (lent bv bu) i))) hx hy
      ∙ (λ k. tabulate w (λ i. f (extent-at a b av au i k) (extent-at b a bv bu i k)))
      ∙ ap (λ (n : ℕ). tabulate n (λ i. f (operand_at (vector a (lent av au)) b i) (operand_at (vector b (lent bv bu)) a i))) hw

-- ---- operands that are no fills

pub inside : (bs : List LogicBit) (i : ℕ) (d : LogicBit) → i < length bs → get_or bs i d ≡ at bs i
inside [] i d h = absurd (not-suc-le-zero h)
inside (x ∷ xs) zero d h = refl
inside (x ∷ xs) (suc i) d h = inside xs i d (le_of_suc-le-suc h)

-- one is read as it stands, with 0 from its width on, if it is not extended by its top bit, and below its width
read_plain : (a : Vector) (b : Header) (i : ℕ) → T (not a.header.is_fill) → (T (both_signed a.header b) → i < length a.bits)
    → operand_at a b i ≡ at a.bits i
read_plain a b i = go a.header.is_fill (both_signed a.header b)
  where
    go : (f z : Bool) → T (not f) → (T z → i < length a.bits) → cond f (at a.bits 0) (get_or a.bits i (cond z (top a.bits) Zero)) ≡ at a.bits i
    go true z n h = absurd n
    go false true n h = inside a.bits i (top a.bits) (h tt)
    go false false n h = refl

-- of equal width if both are signed
abbrev pub Plainly : Header → Header → Type 0
Plainly a b = T (both_signed a b) → a.width ≡ b.width

turned : (a b : Header) → T (both_signed b a) → T (both_signed a b)
turned a b t =
    and_intro (read_signed a) (read_signed b) (and_right (read_signed b) (read_signed a) t) (and_left (read_signed b) (read_signed a) t)

module _ (a b : Vector) (la : length a.bits ≡ a.header.width) (lb : length b.bits ≡ b.header.width)
    (na : T (not a.header.is_fill)) (nb : T (not b.header.is_fill)) (c : Plainly a.header b.header)
    (i : ℕ) (l : i < larger_width a.header b.header) where
  pub read_left : operand_at a b.header i ≡ at a.bits i
  read_left = read_plain a b.header i na (λ t. let e = c t in omega (arith, la))

  pub read_right : operand_at b a.header i ≡ at b.bits i
  read_right = read_plain b a.header i nb (λ t. let e = c (turned a.header b.header t) in omega (arith, lb))
