-- Reading a word from a plane at any bit.
--     low_digit, low-none     the digits of a word that is shifted up by j
--     alone, across, past     the word that starts at bit j of word k: where the next word has nothing, where it has, and beyond the plane
use mathlib.Core.Path.{◌≡◌, sym, ap, ap₂, ◌∙◌}
use mathlib.Core.Logic.{⊎_elim}
use mathlib.Core.List.{List}
use Prim.Native.Nat.{ℕ, ◌+◌, ◌-◌, ◌*◌, ◌/◌, ◌%◌, ◌^◌, ◌≤◌, ◌<◌, max}
use native.Mathlib.Nat.{div-add-mod', mod-lt, lt_of_le_of_lt, div-le_self}
use native.Mathlib.Omega.{arith}
use lib.ListN.{length, get_or, get_or-eq_default}
use lib.Pow.{pow_pos}
use lib.Bits.{bit_or, or_lt}
use Rattle.words.specs.Vector.{bit_at, pack}
use Rattle.words.specs.Planes.{plane_bit}
use Rattle.words.proofs.Digits.{bit-or, bit-shr, bit-shl-low, bit-shl-high, bit-mod, bit-above, bit-of-zero, pack-ext, lt-or-ge}
use Rattle.words.proofs.Planes.{plane-bit}

-- x << j in a word: digit i is digit i - j of x, and 0 below j
pub low_digit : (x j i : ℕ) → i < 64 → j ≤ i → bit_at ((x * 2 ^ j) % 2 ^ 64) i ≡ bit_at x (i - j)
low_digit x j i l h =
    let e : j + (i - j) ≡ i = omega arith in
    bit-mod (x * 2 ^ j) 64 i l ∙ ap (bit_at (x * 2 ^ j)) (sym e) ∙ bit-shl-high x j (i - j)

pub low-none : (x j i : ℕ) → i < 64 → i < j → bit_at ((x * 2 ^ j) % 2 ^ 64) i ≡ 0
low-none x j i l h = bit-mod (x * 2 ^ j) 64 i l ∙ bit-shl-low x j i h

-- ---- reading

module _ (p : List ℕ) (words : (k : ℕ) → get_or p k 0 < 2 ^ 64) (k j : ℕ) (hj : j < 64) where
  -- digit i of the plane behind bit j of word k
  behind : (i : ℕ) → j + i < 64 → plane_bit p (k * 64 + j + i) ≡ bit_at (get_or p k 0) (j + i)
  behind i l =
      let e : k * 64 + j + i ≡ k * 64 + (j + i) = omega arith in
      ap (plane_bit p) e ∙ sym (plane-bit p k (j + i) l)

  behind-next : (i : ℕ) → i < 64 → 64 ≤ j + i → plane_bit p (k * 64 + j + i) ≡ bit_at (get_or p (k + 1) 0) (i - (64 - j))
  behind-next i l h =
      let e : k * 64 + j + i ≡ (k + 1) * 64 + (i - (64 - j)) = omega arith in
      ap (plane_bit p) e ∙ sym (plane-bit p (k + 1) (i - (64 - j)) (omega arith))

  shr-small : get_or p k 0 / 2 ^ j < 2 ^ 64
  shr-small = lt_of_le_of_lt (div-le_self (get_or p k 0) (2 ^ j)) (words k)

  -- the next word has nothing
  pub alone : ((i : ℕ) → i < 64 → 64 ≤ j + i → bit_at (get_or p (k + 1) 0) (i - (64 - j)) ≡ 0) → get_or p k 0 / 2 ^ j ≡ pack 64 (λ i. plane_bit p (k * 64 + j + i))
  alone none =
      pack-ext 64 _ _ shr-small
      (λ i l. bit-shr (get_or p k 0) j i
      ∙ ⊎_elim
      (λ h. sym (behind i h))
      (λ h. bit-above (get_or p k 0) 64 (j + i) (words k) h ∙ sym (none i l h) ∙ sym (behind-next i l h))
      (lt-or-ge (j + i) 64))

  pub across : bit_or (get_or p k 0 / 2 ^ j) ((get_or p (k + 1) 0 * 2 ^ (64 - j)) % 2 ^ 64) ≡ pack 64 (λ i. plane_bit p (k * 64 + j + i))
  across =
      pack-ext 64 _ _ (or_lt 64 _ _ shr-small (mod-lt _ (pow_pos 64)))
      (λ i l. bit-or (get_or p k 0 / 2 ^ j) ((get_or p (k + 1) 0 * 2 ^ (64 - j)) % 2 ^ 64) i
      ∙ ap (λ (x : ℕ). max x (bit_at ((get_or p (k + 1) 0 * 2 ^ (64 - j)) % 2 ^ 64) i)) (bit-shr (get_or p k 0) j i)
      ∙ ⊎_elim
      (λ h. ap (max (bit_at (get_or p k 0) (j + i))) (low-none (get_or p (k + 1) 0) (64 - j) i l (omega arith))
      ∙ only-left (bit_at (get_or p k 0) (j + i)) ∙ sym (behind i h))
      (λ h. ap₂ max (bit-above (get_or p k 0) 64 (j + i) (words k) h) (low_digit (get_or p (k + 1) 0) (64 - j) i l (omega arith))
      ∙ only-right (bit_at (get_or p (k + 1) 0) (i - (64 - j))) ∙ sym (behind-next i l h))
      (lt-or-ge (j + i) 64))
    where
      only-left : (x : ℕ) → max x 0 ≡ x
      only-left x = omega arith

      only-right : (x : ℕ) → max 0 x ≡ x
      only-right x = omega arith

-- beyond the plane there is nothing
pub past : (p : List ℕ) (pos : ℕ) → length p * 64 ≤ pos → 0 ≡ pack 64 (λ i. plane_bit p (pos + i))
past p pos h =
    pack-ext 64 0 _ (pow_pos 64)
    (λ i l. bit-of-zero i ∙ sym (ap (λ (x : ℕ). bit_at x ((pos + i) % 64)) (get_or-eq_default p 0 (omega arith)) ∙ bit-of-zero ((pos + i) % 64)))

-- the place told by its word and its bit there
pub from_place : (p : List ℕ) (pos : ℕ) → pack 64 (λ i. plane_bit p (pos / 64 * 64 + pos % 64 + i)) ≡ pack 64 (λ i. plane_bit p (pos + i))
from_place p pos = ap (λ (q : ℕ). pack 64 (λ i. plane_bit p (q + i))) (div-add-mod' pos 64)
