-- The bits of a vector from a place on as the digits of a number, lowest first.
--     value-code, unknown-code     the code of a bit has its two digits
--     none, more, small     the number of no bit, of one bit more below the others, and its bound
--     word-done             that number as a word of a plane
use mathlib.Core.Path.{◌≡◌, refl, sym, ap, ap₂, ◌∙◌}
use mathlib.Core.Logic.{⊎_elim}
use mathlib.Core.List.{List}
use Prim.Native.Nat.{ℕ, suc, ◌+◌, ◌-◌, ◌*◌, ◌/◌, ◌%◌, ◌^◌, ◌≤◌, ◌<◌, min}
use native.Mathlib.Nat.{add-zero, pow-le-pow_right, lt_of_lt_of_le}
use native.Mathlib.Omega.{arith}
use lib.ListN.{length, get_or-eq_default}
use Rattle.bit.specs.declared.LogicBit.{LogicBit}
use Rattle.bit.specs.declared.LogicBit.TheVariants.{Zero, One, X, Z}
use Rattle.bit.specs.Rules.{code}
use Rattle.words.specs.Vector.{at, pack}
use Rattle.words.specs.Planes.{value_digit, unknown_digit, word_of}
use Rattle.words.proofs.Digits.{lt-or-ge, pack-cong, pack-lt, pack-bit, pack-ext, bit-above}

pub value-code : {c : ℕ} (b : LogicBit) → c ≡ code b → c % 2 ≡ value_digit b
value-code b e = ap (λ (x : ℕ). x % 2) e ∙ go b
  where
    go : (b : LogicBit) → code b % 2 ≡ value_digit b
    go Zero = refl
    go One = refl
    go X = refl
    go Z = refl

pub unknown-code : {c : ℕ} (b : LogicBit) → c ≡ code b → c / 2 ≡ unknown_digit b
unknown-code b e = ap (λ (x : ℕ). x / 2) e ∙ go b
  where
    go : (b : LogicBit) → code b / 2 ≡ unknown_digit b
    go Zero = refl
    go One = refl
    go X = refl
    go Z = refl

module _ (d : LogicBit → ℕ) (bs : List LogicBit) where
  -- the digits d of the bits from i on, below e
  abbrev pub number : ℕ → ℕ → ℕ
  number e i = pack (e - i) (λ j. d (at bs (i + j)))

  pub none : (e i : ℕ) → i ≡ e → 0 ≡ number e i
  unfolding pack
  none e i h =
      let z : e - i ≡ 0 = omega arith in
      sym (ap (λ (n : ℕ). pack n (λ j. d (at bs (i + j)))) z)

  pub more : (e i : ℕ) → 0 < i → i ≤ e → {x y : ℕ} → x ≡ number e i → y ≡ d (at bs (i - 1)) → x * 2 + y ≡ number e (i - 1)
  unfolding pack
  more e i p l h g =
      let z : e - (i - 1) ≡ suc (e - i) = omega arith in
      ap₂ (λ (x y : ℕ). x * 2 + y)
      (h ∙ pack-cong (e - i) _ _ (λ j _. let q : i + j ≡ i - 1 + suc j = omega arith in ap (λ (t : ℕ). d (at bs t)) q))
      (g ∙ ap (λ (t : ℕ). d (at bs t)) (sym (add-zero (i - 1))))
      ∙ sym (ap (λ (n : ℕ). pack n (λ j. d (at bs (i - 1 + j)))) z)

  module _ (below : (b : LogicBit) → d b < 2) where
    pub small : (e i : ℕ) → e - i ≤ 63 → number e i < 2 ^ 63
    small e i h = lt_of_lt_of_le (pack-lt (e - i) _ (λ j _. below _)) (pow-le-pow_right {n = 2} (omega arith) h)

    pub word-done : d Zero ≡ 0 → (e k : ℕ) → e ≡ min (k * 64 + 64) (length bs) → number e (k * 64) ≡ word_of d (at bs) k
    word-done z e k h =
        let n : ℕ = e - k * 64 in
        let f : ℕ → ℕ = λ j. d (at bs (k * 64 + j)) in
        let lt : pack n f < 2 ^ n = pack-lt n f (λ j _. below _) in
        let m : n ≤ 64 = omega arith in
        pack-ext 64 (pack n f) f (lt_of_lt_of_le lt (pow-le-pow_right {n = 2} (omega arith) m))
        (λ j l. ⊎_elim
        (λ p. pack-bit n f (λ j _. below _) j p)
        (λ p. bit-above (pack n f) n j lt p ∙ sym (ap d (get_or-eq_default bs Zero (omega arith)) ∙ z))
        (lt-or-ge j n))
