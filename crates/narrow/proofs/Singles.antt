-- The planes of a vector of at most 64 bits are one word.
--     whole         every word pair is well-formed planes at width 64
--     at_most       a vector whose planes are one word has at most 64 bits
--     words64       its words have 64 bits
--     place         bit j of the word is place j of the planes
--     one_word      planes whose one word is that of a vector are the vector's
use mathlib.Core.Path.{◌≡◌, refl, sym, ap, ap₂, ◌∙◌}
use mathlib.Core.List.{[], ◌∷◌}
use Prim.Native.Nat.{ℕ, zero, suc, ◌+◌, ◌*◌, ◌/◌, ◌%◌, ◌^◌, ◌≤◌, ◌<◌}
use native.Mathlib.Omega.{arith}
use lib.ListN.{get_or, get_or-eq_default}
use lib.Pow.{pow_pos}
use Rattle.bit.specs.declared.LogicBit.{LogicBit}
use Rattle.words.specs.declared.Word.{Word}
use Rattle.words.specs.Vector.{at, bit_at, tabulate}
use Rattle.words.specs.Planes.{word_count, plane_bit, stored, bit_of, word_of, word_at, plane_of, planes_of, lent, value_digit, unknown_digit, Plane, Words64}
use Rattle.words.proofs.Digits.{bit-of-zero}
use Rattle.words.proofs.Planes.{length-tabulate, plane-bit}
use Rattle.narrow.specs.Narrow.{single}

-- one word is a plane of width 64
pub whole : (x : ℕ) → Plane 64 (x ∷ [])
whole x = record {
  count = refl;
  clear = λ i l. let h : 1 ≤ i / 64 = omega arith in ap (λ (y : ℕ). bit_at y (i % 64)) (get_or-eq_default (x ∷ []) 0 h) ∙ bit-of-zero (i % 64);
}

-- a width whose planes are one word
pub at_most : (w x : ℕ) → Plane w (x ∷ []) → w ≤ 64
at_most w x p = let e : 1 ≡ word_count w = p.count in omega arith

-- the bit that the planes hold at place i
abbrev pub place_of : Word → ℕ → LogicBit
place_of x i = stored (plane_bit (x.value ∷ []) i) (plane_bit (x.unknown ∷ []) i)

one-word-lt : (y : ℕ) → y < 2 ^ 64 → (k : ℕ) → get_or (y ∷ []) k 0 < 2 ^ 64
one-word-lt y l zero = l
one-word-lt y l (suc k) = pow_pos 64

-- the one word is all there is
pub words64 : (x : Word) → x.value < 2 ^ 64 → x.unknown < 2 ^ 64 → Words64 (single x)
words64 x hv hu = record { value-words = one-word-lt x.value hv; unknown-words = one-word-lt x.unknown hu }

-- bit j of the word stands at place j of word 0
pub place : (x : Word) (j : ℕ) → j < 64 → bit_of x j ≡ place_of x (0 * 64 + j)
place x j l = ap₂ stored (plane-bit (x.value ∷ []) 0 j l) (plane-bit (x.unknown ∷ []) 0 j l)

-- the plane of a vector of at most 64 bits, by its word
one-plane : (d : LogicBit → ℕ) (w : ℕ) (f : ℕ → LogicBit) → w ≤ 64 → word_of d (at (tabulate w f)) 0 ∷ [] ≡ plane_of d (tabulate w f)
unfolding tabulate
one-plane d w f l =
    let e : 1 ≡ word_count w = omega arith in
    ap (λ (n : ℕ). tabulate n (word_of d (at (tabulate w f)))) (e ∙ ap word_count (sym (length-tabulate w f)))

pub one_word : (w : ℕ) (f : ℕ → LogicBit) (r : Word) → w ≤ 64 → r ≡ word_at (at (tabulate w f)) 0 → single r ≡ planes_of (tabulate w f)
one_word w f r l e = ap single e ∙ ap₂ lent (one-plane value_digit w f l) (one-plane unknown_digit w f l)
