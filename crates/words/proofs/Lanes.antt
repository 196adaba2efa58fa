-- Lane algebra: an expression over the four words of two operands is, digit by digit, the same expression over their digits.
-- So an operator on words is right where one test, computed over the sixteen pairs of bits, passes (`lane`).
use mathlib.Core.Path.{◌≡◌, refl, sym, ap, ap₂, ◌∙◌}
use mathlib.Core.Bool.{Bool}
use Prim.Native.Nat.{ℕ, ◌-◌, ◌^◌, ◌<◌, min, max}
use lib.Dec.{T, eqb, eqb→eq}
use lib.Pow.{pow_pos, ones_sub-lt}
use lib.Bits.{bit_and, bit_or, bit_xor, differ, and_lt, or_lt, xor_lt}
use Rattle.bit.specs.declared.LogicBit.{LogicBit}
use Rattle.bit.proofs.Table.{all, each}
use Rattle.words.specs.Vector.{bit_at, pack}
use Rattle.words.specs.Planes.{value_digit, unknown_digit, stored}
use Rattle.words.proofs.Digits.{bit-and, bit-or, bit-xor, bit_not, bit-lt, bit-of-zero, pack-ext}
use Rattle.words.proofs.Planes.{value-digit-stored, unknown-digit-stored}

-- the four words of two operands, the word 0, and the operations on words
pub data Lane : Type 0 where
  av au bv bu none : Lane
  neg : Lane → Lane
  and or xor : Lane → Lane → Lane

-- bit j of two words beside each other
abbrev pub pair : ℕ → ℕ → ℕ → LogicBit
pair v u j = stored (bit_at v j) (bit_at u j)

-- on words
abbrev pub word : Lane → ℕ → ℕ → ℕ → ℕ → ℕ
word av p q r s = p
word au p q r s = q
word bv p q r s = r
word bu p q r s = s
word none p q r s = 0
word (neg e) p q r s = (2 ^ 64 - 1) - word e p q r s
word (and e f) p q r s = bit_and (word e p q r s) (word f p q r s)
word (or e f) p q r s = bit_or (word e p q r s) (word f p q r s)
word (xor e f) p q r s = bit_xor (word e p q r s) (word f p q r s)

-- on digits
abbrev pub digit : Lane → ℕ → ℕ → ℕ → ℕ → ℕ
digit av p q r s = p
digit au p q r s = q
digit bv p q r s = r
digit bu p q r s = s
digit none p q r s = 0
digit (neg e) p q r s = 1 - digit e p q r s
digit (and e f) p q r s = min (digit e p q r s) (digit f p q r s)
digit (or e f) p q r s = max (digit e p q r s) (digit f p q r s)
digit (xor e f) p q r s = differ (digit e p q r s) (digit f p q r s)

-- the expression gives h on each pair of bits
abbrev pub gives : Lane → (LogicBit → LogicBit → ℕ) → Bool
gives e h = all (λ a. all (λ b. eqb (digit e (value_digit a) (unknown_digit a) (value_digit b) (unknown_digit b)) (h a b)))

module _ (p q r s : ℕ) (hp : p < 2 ^ 64) (hq : q < 2 ^ 64) (hr : r < 2 ^ 64) (hs : s < 2 ^ 64) where
  word_lt : (e : Lane) → word e p q r s < 2 ^ 64
  word_lt av = hp
  word_lt au = hq
  word_lt bv = hr
  word_lt bu = hs
  word_lt none = pow_pos 64
  word_lt (neg e) = ones_sub-lt 64 (word e p q r s)
  word_lt (and e f) = and_lt 64 (word e p q r s) (word f p q r s) (word_lt e) (word_lt f)
  word_lt (or e f) = or_lt 64 (word e p q r s) (word f p q r s) (word_lt e) (word_lt f)
  word_lt (xor e f) = xor_lt 64 (word e p q r s) (word f p q r s) (word_lt e) (word_lt f)

  word-bit : (e : Lane) (j : ℕ) → j < 64 → bit_at (word e p q r s) j ≡ digit e (bit_at p j) (bit_at q j) (bit_at r j) (bit_at s j)
  word-bit av j l = refl
  word-bit au j l = refl
  word-bit bv j l = refl
  word-bit bu j l = refl
  word-bit none j l = bit-of-zero j
  word-bit (neg e) j l = bit_not 64 (word e p q r s) j (word_lt e) l ∙ ap (λ (x : ℕ). 1 - x) (word-bit e j l)
  word-bit (and e f) j l = bit-and (word e p q r s) (word f p q r s) j ∙ ap₂ min (word-bit e j l) (word-bit f j l)
  word-bit (or e f) j l = bit-or (word e p q r s) (word f p q r s) j ∙ ap₂ max (word-bit e j l) (word-bit f j l)
  word-bit (xor e f) j l = bit-xor (word e p q r s) (word f p q r s) j ∙ ap₂ differ (word-bit e j l) (word-bit f j l)

  -- the test, at digits
  at-digits : (e : Lane) (h : LogicBit → LogicBit → ℕ) → T (gives e h) → (j : ℕ)
      → digit e (bit_at p j) (bit_at q j) (bit_at r j) (bit_at s j) ≡ h (pair p q j) (pair r s j)
  at-digits e h t j =
      let a : LogicBit = pair p q j in
      let b : LogicBit = pair r s j in
      ap₂ (λ (x y : ℕ). digit e x y (bit_at r j) (bit_at s j)) (sym (value-digit-stored (bit_at p j) (bit_at q j) (bit-lt p j))) (sym (unknown-digit-stored (bit_at p j) (bit_at q j) (bit-lt q j)))
      ∙ ap₂ (λ (x y : ℕ). digit e (value_digit a) (unknown_digit a) x y) (sym (value-digit-stored (bit_at r j) (bit_at s j) (bit-lt r j))) (sym (unknown-digit-stored (bit_at r j) (bit_at s j) (bit-lt s j)))
      ∙ eqb→eq (digit e (value_digit a) (unknown_digit a) (value_digit b) (unknown_digit b)) (h a b)
      (each (λ b. eqb (digit e (value_digit a) (unknown_digit a) (value_digit b) (unknown_digit b)) (h a b)) (each (λ a. all (λ b. eqb (digit e (value_digit a) (unknown_digit a) (value_digit b) (unknown_digit b)) (h a b))) t a) b)

  pub lane : (e : Lane) (h : LogicBit → LogicBit → ℕ) → T (gives e h) → word e p q r s ≡ pack 64 (λ j. h (pair p q j) (pair r s j))
  lane e h t = pack-ext 64 (word e p q r s) (λ j. h (pair p q j) (pair r s j)) (word_lt e) (λ j l. word-bit e j l ∙ at-digits e h t j)
