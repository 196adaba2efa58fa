-- The lowest place of a word, the two words of one bit, and the first word of a vector.
--     everywhere                   a word whose places all hold one bit
--     value-word, unknown-word     the two words of a vector of one bit
--     first_word                   the lowest 64 bits of a vector are its word 0
use mathlib.Core.Path.{◌≡◌, refl, sym, ap, ◌∙◌}
use mathlib.Core.List.{[], ◌∷◌}
use Prim.Native.Nat.{ℕ, ◌%◌}
use native.Mathlib.Nat.{zero-add}
use native.Mathlib.Omega.{arith}
use Rattle.bit.specs.declared.LogicBit.{LogicBit}
use Rattle.bit.specs.declared.LogicBit.TheVariants.{Zero, One, X, Z}
use Rattle.words.specs.declared.Word.{Word}
use Rattle.words.specs.Vector.{at, bit_at, pack}
use Rattle.words.specs.Planes.{value_digit, unknown_digit, word_of, word_at, packed, bit_of}
use Rattle.words.proofs.Digits.{bit-zero, bit-lt}
use Rattle.words.proofs.Planes.{value-digit-stored, unknown-digit-stored}
use Rattle.bits.proofs.Splice.{packed-bit}

-- every place of a word holds the bit
pub everywhere : (x : Word) (b : LogicBit) → x ≡ packed (λ j. b) → bit_of x 0 ≡ b
everywhere x b e = ap (λ (x : Word). bit_of x 0) e ∙ packed-bit (λ j. b) 0 (omega arith)

one_value : (b : LogicBit) → value_digit b ≡ word_of value_digit (at (b ∷ [])) 0
unfolding pack
one_value Zero = refl
one_value One = refl
one_value X = refl
one_value Z = refl

one-unknown : (b : LogicBit) → unknown_digit b ≡ word_of unknown_digit (at (b ∷ [])) 0
unfolding pack
one-unknown Zero = refl
one-unknown One = refl
one-unknown X = refl
one-unknown Z = refl

module _ (x : Word) (b : LogicBit) (e : bit_of x 0 ≡ b) where
  pub value-word : x.value % 2 ≡ word_of value_digit (at (b ∷ [])) 0
  value-word =
      sym (bit-zero x.value)
      ∙ sym (value-digit-stored (bit_at x.value 0) (bit_at x.unknown 0) (bit-lt x.value 0))
      ∙ ap value_digit e
      ∙ one_value b

  pub unknown-word : x.unknown % 2 ≡ word_of unknown_digit (at (b ∷ [])) 0
  unknown-word =
      sym (bit-zero x.unknown)
      ∙ sym (unknown-digit-stored (bit_at x.value 0) (bit_at x.unknown 0) (bit-lt x.unknown 0))
      ∙ ap unknown_digit e
      ∙ one-unknown b

pub first_word : (f : ℕ → LogicBit) → word_at f 0 ≡ packed f
first_word f = λ k. packed (λ j. f (zero-add j k))
