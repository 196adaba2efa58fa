-- The operators that give one bit, on one word of each plane.
--     truth-word, truth-bits                  truth of a word by two tests, and by its bits
--     and_word                                the and-reduction of its low bits by two tests
--     parity-unknown, parity-known            the parity of a word
--     or-narrow, xor_narrow, truth-narrow     the answer of a narrow vector is the answer of its words at 64 bits
use mathlib.Core.Path.{◌≡◌, refl, sym, ap, ap₂, ◌∙◌}
use mathlib.Core.Bool.{Bool, false, not, ◌||◌, or-false, cond}
use mathlib.Core.List.{List, [], ◌∷◌}
use Prim.Native.Nat.{ℕ, ◌+◌, ◌-◌, ◌%◌, ◌^◌, ◌≤◌, ◌<◌}
use native.Mathlib.Nat.{zero-add}
use native.Mathlib.Omega.{arith}
use lib.Dec.{T, eqb}
use lib.Pow.{pow_pos}
use lib.Bits.{bit_and, bit_or, xor_zero_l}
use lib.Count.{ones}
use Rattle.bit.specs.declared.LogicBit.{LogicBit}
use Rattle.bit.specs.declared.LogicBit.TheVariants.{Zero, One, X}
use Rattle.bit.specs.Rules.{same}
use Rattle.words.specs.declared.Word.{Word}
use Rattle.words.specs.Vector.{at, tabulate}
use Rattle.words.specs.Planes.{bit_of, vector_of, complement, Plane}
use Rattle.words.proofs.Planes as planes
use Rattle.words.proofs.Planes.{length-tabulate}
use Rattle.words.proofs.Lanes.{Lane, word, gives}
use Rattle.words.proofs.Lanes.Lane.{av, au, neg, or}
use Rattle.lanes.specs.Lanes.{known_ones}
use Rattle.reduce_words.specs.Fold.{any_of, count_of, is_unknown, reduce_and, reduce_or, reduce_xor, truth_of, not_zero, truth_by_words}
use Rattle.reduce_words.proofs.Gather.{gather, gather_cong, of-list}
use Rattle.reduce_words.proofs.Marks.{mark, some-low}
use Rattle.reduce_words.proofs.Places.{any-tabulate, WordPlanes}
use Rattle.reduce_words.proofs.ByWords.{told, truth-by-words}
use Rattle.reduce_words.proofs.Parity as parity
use Rattle.narrow.specs.Narrow.{single}
use Rattle.narrow.proofs.Singles.{whole, at_most, words64, place_of, place}

-- a test of the bits of a word below n, by a lane formula that gives it
any-low : (p : LogicBit → Bool) (e : Lane) → T (gives e (λ a b. mark (p a))) → (x : Word) → x.value < 2 ^ 64 → x.unknown < 2 ^ 64
    → (n m : ℕ) → n ≤ 64 → m ≡ 2 ^ n - 1 → not (eqb (bit_and (word e x.value x.unknown 0 0) m) 0) ≡ any_of p (vector_of n (single x))
any-low p e t x hv hu n m h mask =
    some-low p e t x hv hu n m h mask
    ∙ gather_cong ◌||◌ false n (λ j. p (bit_of x j)) (λ j. p (place_of x j)) (λ j l. ap p (place x j (omega arith) ∙ ap (place_of x) (zero-add j)))
    ∙ sym (any-tabulate p n (place_of x))

-- s: a known 1 stands in the word; u: an unknown bit
pub truth-word : (x : Word) (s u : Bool) → not_zero (known_ones x) ≡ s → not_zero x.unknown ≡ u → told s u ≡ truth_by_words (single x)
unfolding tabulate
truth-word x s u e f = sym (ap₂ told (or-false _ ∙ e) (or-false _ ∙ f))

module _ (x : Word) (hv : x.value < 2 ^ 64) (hu : x.unknown < 2 ^ 64) where
  -- s: a known 0 stands below n; u: an unknown bit
  pub and_word : (n m : ℕ) → n ≤ 64 → m ≡ 2 ^ n - 1 → (s u : Bool)
      → not (eqb (bit_and (complement (bit_or x.value x.unknown)) m) 0) ≡ s → not (eqb (bit_and x.unknown m) 0) ≡ u
      → cond s Zero (cond u X One) ≡ reduce_and (vector_of n (single x))
  and_word n m h mask s u e f =
      ap₂ (λ (s u : Bool). cond s Zero (cond u X One))
      (sym e ∙ any-low (same Zero) (neg (or av au)) tt x hv hu n m h mask) (sym f ∙ any-low is_unknown au tt x hv hu n m h mask)

  word-planes : WordPlanes 64 (x.value ∷ []) (x.unknown ∷ [])
  word-planes = record { value-plane = whole x.value; unknown-plane = whole x.unknown; words = words64 x hv hu }

  pub truth-bits : truth_by_words (single x) ≡ truth_of (vector_of 64 (single x))
  truth-bits = truth-by-words 64 (x.value ∷ []) (x.unknown ∷ []) word-planes

  -- parity

  pub parity-unknown : (x.unknown ≡ 0 → ⊥) → X ≡ reduce_xor (vector_of 64 (single x))
  parity-unknown = parity.unknown-found 64 _ _ word-planes 0 0 (parity.begin 64 _ _)

  pub parity-known : x.unknown ≡ 0 → (z : Bool) → eqb (ones x.value % 2) 0 ≡ z → cond z Zero One ≡ reduce_xor (vector_of 64 (single x))
  parity-known e =
      parity.parity 64 _ _ x.value 1
      (rw (xor_zero_l x.value) at (parity.another 64 _ _ word-planes 0 0 (parity.begin 64 _ _) (pow_pos 64) e)) (omega arith)

-- ---- the answer at a width is the answer at 64

module _ (w : ℕ) (x : Word) (hv : Plane w (x.value ∷ [])) (hu : Plane w (x.unknown ∷ [])) where
  same_place : (i : ℕ) → at (vector_of w (single x)) i ≡ at (vector_of 64 (single x)) i
  same_place i =
      sym (planes.whole w (x.value ∷ []) (x.unknown ∷ []) hv hu i)
      ∙ planes.whole 64 (x.value ∷ []) (x.unknown ∷ []) (whole x.value) (whole x.unknown) i

  -- what is put together from the bits, where a 0 adds nothing
  module _ {A : Type 0} (op : A → A → A) (e : A) (left : (a : A) → op e a ≡ a) (L : List LogicBit → A) (g : LogicBit → A) (nil : L [] ≡ e)
      (cons : (b : LogicBit) (bs : List LogicBit) → L (b ∷ bs) ≡ op (g b) (L bs)) (none : g Zero ≡ e) where
    gathered : (v : ℕ) → v ≤ 64 → L (vector_of v (single x)) ≡ gather op e 64 (λ i. g (at (vector_of v (single x)) i))
    gathered v l = of-list op e left L g nil cons Zero none (vector_of v (single x)) 64 (rw length-tabulate l)

    narrow : L (vector_of w (single x)) ≡ L (vector_of 64 (single x))
    narrow = gathered w (at_most w x.value hv) ∙ gather_cong op e 64 _ _ (λ j _. ap g (same_place j)) ∙ sym (gathered 64 (omega arith))

  any-narrow : (p : LogicBit → Bool) → p Zero ≡ false → any_of p (vector_of w (single x)) ≡ any_of p (vector_of 64 (single x))
  any-narrow p none = narrow ◌||◌ false (λ b. refl) (any_of p) p refl (λ b bs. refl) none

  count-narrow : (p : LogicBit → Bool) → p Zero ≡ false → count_of p (vector_of w (single x)) ≡ count_of p (vector_of 64 (single x))
  count-narrow p none = narrow ◌+◌ 0 zero-add (count_of p) (λ b. mark (p b)) refl (λ b bs. refl) (ap mark none)

  pub or-narrow : reduce_or (vector_of w (single x)) ≡ reduce_or (vector_of 64 (single x))
  or-narrow = ap₂ (λ (s u : Bool). cond s One (cond u X Zero)) (any-narrow (same One) refl) (any-narrow is_unknown refl)

  pub xor_narrow : reduce_xor (vector_of w (single x)) ≡ reduce_xor (vector_of 64 (single x))
  xor_narrow = ap₂ (λ (u : Bool) (n : ℕ). cond u X (cond (eqb (n % 2) 0) Zero One)) (any-narrow is_unknown refl) (count-narrow (same One) refl)

  pub truth-narrow : truth_of (vector_of w (single x)) ≡ truth_of (vector_of 64 (single x))
  truth-narrow = ap₂ told (any-narrow (same One) refl) (any-narrow is_unknown refl)
