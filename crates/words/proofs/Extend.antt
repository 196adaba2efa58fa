-- Words that are put together from two, cut off at a width, or continued beyond it.
--     blend                     the digits of one word where a mask has a one, those of another elsewhere
--     extended, beyond          word k of a plane with the digits at or above the width taken from a fill word
--     cut                       a word masked to the digits below the width
--     cut-vector                word k of a vector of width w
--     operand                   word k of a vector that is continued by one bit
use mathlib.Core.Path.{◌≡◌, sym, ap, ap₂, ◌∙◌}
use mathlib.Core.Bool.{Bool, cond}
use mathlib.Core.Logic.{⊎_elim}
use mathlib.Core.List.{List}
use Prim.Native.Nat.{ℕ, zero, suc, ◌+◌, ◌-◌, ◌*◌, ◌^◌, ◌≤◌, ◌<◌, min, max}
use native.Mathlib.Nat.{lt_of_lt_of_le, lt_of_le_of_lt}
use native.Mathlib.Omega.{arith}
use borrow.Author.Tests.{lt-ltb, le-ltb}
use lib.Dec.{eqb, ltb}
use lib.ListN.{get_or}
use lib.Pow.{pow_mono, ones_lt, ones_sub-lt}
use lib.Bits.{bit_and, bit_or, and_lt, or_lt, and_mask, and_le_l}
use Rattle.bit.specs.declared.LogicBit.{LogicBit}
use Rattle.bit.specs.declared.LogicBit.TheVariants.{Zero}
use Rattle.words.specs.Vector.{at, bit_at, tabulate, pack}
use Rattle.words.specs.Planes.{value_digit, unknown_digit, stored, plane_bit, plane_digits, word_of, from_planes, width_mask}
use Rattle.words.proofs.Digits.{bit-and, bit-or, bit_not, bit-ones, bit-above, bit-lt, bit-mod, bit-mod-above, pack-ext, pack-bit, pack-lt, pack-cong, lt-or-ge}
use Rattle.words.proofs.Planes.{get_d_tabulate, get_d-tabulate-out, plane-bit, value-digit-stored, unknown-digit-stored, value-digit-lt, unknown-digit-lt, stored-bit}

pub mask_lt : (n : ℕ) → n ≤ 64 → 2 ^ n - 1 < 2 ^ 64
mask_lt n l = lt_of_lt_of_le (ones_lt n) (pow_mono l)

-- a word below the width is kept whole
pub whole-mask : (w k : ℕ) → k * 64 + 64 ≤ w → 2 ^ 64 - 1 ≡ width_mask w k
whole-mask w k l = let e : 64 ≡ min 64 (w - k * 64) = omega arith in ap (λ (n : ℕ). 2 ^ n - 1) e

-- digit j of the n low ones
pub ones-digit : (n j : ℕ) → eqb (bit_at (2 ^ n - 1) j) 1 ≡ ltb j n
ones-digit n j =
    ⊎_elim
    (λ l. ap (λ (x : ℕ). eqb x 1) (bit-ones n j l) ∙ sym (lt-ltb j n l))
    (λ l. ap (λ (x : ℕ). eqb x 1) (bit-above (2 ^ n - 1) n j (ones_lt n) l) ∙ sym (le-ltb j n l))
    (lt-or-ge j n)

-- (y & !m) | (x & m) on one digit
chosen : (m x y : ℕ) → m < 2 → x < 2 → y < 2 → max (min y (1 - m)) (min x m) ≡ cond (eqb m 1) x y
chosen zero x y hm hx hy = omega arith
chosen (suc zero) x y hm hx hy = omega arith
chosen (suc (suc m)) x y hm hx hy = absurd (omega arith)

module _ (old mask new : ℕ) (ho : old < 2 ^ 64) (hm : mask < 2 ^ 64) (hn : new < 2 ^ 64) where
  pub blend : bit_or (bit_and old ((2 ^ 64 - 1) - mask)) (bit_and new mask) ≡ pack 64 (λ j. cond (eqb (bit_at mask j) 1) (bit_at new j) (bit_at old j))
  blend =
      pack-ext 64 _ _ (or_lt 64 _ _ (and_lt 64 old _ ho (ones_sub-lt 64 mask)) (and_lt 64 new mask hn hm))
      (λ j l. bit-or (bit_and old ((2 ^ 64 - 1) - mask)) (bit_and new mask) j
      ∙ ap₂ max (bit-and old ((2 ^ 64 - 1) - mask) j ∙ ap (min (bit_at old j)) (bit_not 64 mask j hm l)) (bit-and new mask j)
      ∙ chosen (bit_at mask j) (bit_at new j) (bit_at old j) (bit-lt mask j) (bit-lt new j) (bit-lt old j))

module _ (p : List ℕ) (w k f n : ℕ) (hf : f < 2 ^ 64) (e : n ≡ min 64 (w - k * 64)) where
  -- digit j of the word, told from a plane's word and the fill
  continued : (j : ℕ) → j < 64 → cond (ltb j n) (bit_at (get_or p k 0) j) (bit_at f j) ≡ get_or (plane_digits w p) (k * 64 + j) (bit_at f j)
  continued j h =
      ⊎_elim
      (λ l. ap (λ (b : Bool). cond b (bit_at (get_or p k 0) j) (bit_at f j)) (lt-ltb j n l) ∙ plane-bit p k j h
      ∙ sym (get_d_tabulate w (plane_bit p) (k * 64 + j) (bit_at f j) (omega arith)))
      (λ l. ap (λ (b : Bool). cond b (bit_at (get_or p k 0) j) (bit_at f j)) (le-ltb j n l)
      ∙ sym (get_d-tabulate-out w (plane_bit p) (k * 64 + j) (bit_at f j) (omega arith)))
      (lt-or-ge j n)

  pub extended : pack 64 (λ j. cond (eqb (bit_at (2 ^ n - 1) j) 1) (bit_at (get_or p k 0) j) (bit_at f j)) ≡ pack 64 (λ j. get_or (plane_digits w p) (k * 64 + j) (bit_at f j))
  extended =
      pack-cong 64 _ _
      (λ j h. ap (λ (b : Bool). cond b (bit_at (get_or p k 0) j) (bit_at f j)) (ones-digit n j) ∙ continued j h)

  pub beyond : n ≡ 0 → f ≡ pack 64 (λ j. get_or (plane_digits w p) (k * 64 + j) (bit_at f j))
  beyond z = pack-ext 64 f _ hf (λ j h. sym (get_d-tabulate-out w (plane_bit p) (k * 64 + j) (bit_at f j) (omega arith)))

-- a word masked to the digits below w
pub cut : (w k n : ℕ) (g h : ℕ → ℕ) → n ≡ min 64 (w - k * 64) → ((j : ℕ) → j < 64 → g j < 2)
    → ((j : ℕ) → j < 64 → k * 64 + j < w → g j ≡ h j) → ((j : ℕ) → w ≤ k * 64 + j → h j ≡ 0)
    → bit_and (pack 64 g) (2 ^ n - 1) ≡ pack 64 h
cut w k n g h e d inside outside =
    pack-ext 64 _ h (lt_of_le_of_lt (and_le_l (pack 64 g) (2 ^ n - 1)) (pack-lt 64 g d))
    (λ j l. ap (λ (x : ℕ). bit_at x j) (and_mask (pack 64 g) n)
    ∙ ⊎_elim
    (λ m. bit-mod (pack 64 g) n j m ∙ pack-bit 64 g d j l ∙ inside j l (omega arith))
    (λ m. bit-mod-above (pack 64 g) n j m ∙ sym (outside j (omega arith)))
    (lt-or-ge j n))

-- word k of the plane of the vector f 0, f 1, .. of width w, cut from word k of the endless one
pub cut-vector : (d : LogicBit → ℕ) → ((b : LogicBit) → d b < 2) → d Zero ≡ 0 → (w k n : ℕ) (f : ℕ → LogicBit) → n ≡ min 64 (w - k * 64)
    → bit_and (word_of d f k) (2 ^ n - 1) ≡ word_of d (at (tabulate w f)) k
cut-vector d below none w k n f e =
    cut w k n (λ j. d (f (k * 64 + j))) (λ j. d (at (tabulate w f) (k * 64 + j))) e (λ j _. below _)
    (λ j l m. ap d (sym (get_d_tabulate w f (k * 64 + j) Zero m)))
    (λ j m. ap d (get_d-tabulate-out w f (k * 64 + j) Zero m) ∙ none)

-- a digit d of the vector continued by a bit is the plane's digit continued by the bit's
module _ (d : LogicBit → ℕ) (w : ℕ) (v u p : List ℕ) (is : (i : ℕ) → plane_bit p i ≡ d (stored (plane_bit v i) (plane_bit u i))) where
  digit-of : (i : ℕ) (b : LogicBit) → get_or (plane_digits w p) i (d b) ≡ d (get_or (from_planes w v u) i b)
  digit-of i b =
      ⊎_elim
      (λ l. get_d_tabulate w (plane_bit p) i (d b) l ∙ is i ∙ ap d (sym (get_d_tabulate w (λ i. stored (plane_bit v i) (plane_bit u i)) i b l)))
      (λ l. get_d-tabulate-out w (plane_bit p) i (d b) l ∙ ap d (sym (get_d-tabulate-out w (λ i. stored (plane_bit v i) (plane_bit u i)) i b l)))
      (lt-or-ge i w)

  -- with a fill word that holds the digit of the bit everywhere
  pub operand : ((b : LogicBit) → d b < 2) → (k f : ℕ) (b : LogicBit) → f ≡ pack 64 (λ j. d b)
      → pack 64 (λ j. get_or (plane_digits w p) (k * 64 + j) (bit_at f j)) ≡ word_of d (λ i. get_or (from_planes w v u) i b) k
  operand below k f b e =
      pack-cong 64 _ _
      (λ j l. ap (λ (x : ℕ). get_or (plane_digits w p) (k * 64 + j) x) (ap (λ (x : ℕ). bit_at x j) e ∙ pack-bit 64 (λ j. d b) (λ j _. below b) j l)
      ∙ digit-of (k * 64 + j) b)

pub value-is : (v u : List ℕ) (i : ℕ) → plane_bit v i ≡ value_digit (stored (plane_bit v i) (plane_bit u i))
value-is v u i = sym (value-digit-stored (plane_bit v i) (plane_bit u i) (bit-lt _ _))

pub unknown-is : (v u : List ℕ) (i : ℕ) → plane_bit u i ≡ unknown_digit (stored (plane_bit v i) (plane_bit u i))
unknown-is v u i = sym (unknown-digit-stored (plane_bit v i) (plane_bit u i) (bit-lt _ _))

-- bit j of word k of the planes that hold the bits f
pub word-bit : (f : ℕ → LogicBit) (k j : ℕ) → j < 64 → stored (bit_at (word_of value_digit f k) j) (bit_at (word_of unknown_digit f k) j) ≡ f (k * 64 + j)
word-bit f k j l =
    ap₂ stored
    (pack-bit 64 (λ j. value_digit (f (k * 64 + j))) (λ j _. value-digit-lt (f (k * 64 + j))) j l)
    (pack-bit 64 (λ j. unknown_digit (f (k * 64 + j))) (λ j _. unknown-digit-lt (f (k * 64 + j))) j l)
    ∙ stored-bit (f (k * 64 + j))
