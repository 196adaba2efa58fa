-- Words by their places, and a test of every bit of a word at once.
--     nonzero, or-nonzero     a word is not 0 where some digit is 1; two words, one over the other
--     marks-bit               a lane formula that gives a test has a one at each place where the bit passes it
--     some-marked, some-low   so its word is not 0 where some bit passes; the same for the low places
use mathlib.Core.Path.{◌≡◌, refl, ap, ◌∙◌}
use mathlib.Core.Bool.{Bool, true, false, not, ◌||◌, cond}
use Prim.Native.Nat.{ℕ, ◌-◌, ◌/◌, ◌%◌, ◌^◌, ◌≤◌, ◌<◌}
use native.Mathlib.Nat.{mod-lt}
use native.Mathlib.Omega.{arith}
use borrow.Author.Tests.{eq-eqb, ne_eqb, eqb-true, eqb-false}
use lib.Dec.{T, eqb}
use lib.Pow.{pow_pos}
use lib.Bits.{bit_and, bit_or, or_add_and, and_le_l, and_le_r, and_mask}
use Rattle.bit.specs.declared.LogicBit.{LogicBit}
use Rattle.words.specs.declared.Word.{Word}
use Rattle.words.specs.Vector.{bit_at, pack}
use Rattle.words.specs.Planes.{bit_of}
use Rattle.words.proofs.Digits.{bit-mod, pack-bit, pack-lt}
use Rattle.words.proofs.Lanes.{Lane, word, gives, lane}
use Rattle.reduce_words.proofs.Gather.{some, gather_cong, of-digits}

nonzero-step : (x : ℕ) → not (eqb x 0) ≡ (eqb (x % 2) 1 || not (eqb (x / 2) 0))
nonzero-step x = go (eqb (x % 2) 1) refl (eqb (x / 2) 0) refl
  where
    go : (a : Bool) → eqb (x % 2) 1 ≡ a → (b : Bool) → eqb (x / 2) 0 ≡ b → not (eqb x 0) ≡ (a || not b)
    go true p b q = let h = eqb-true (x % 2) 1 p in ap not (ne_eqb x 0 (λ z. omega arith))
    go false p true q =
        let h = eqb-false (x % 2) 1 p in
        let k = eqb-true (x / 2) 0 q in
        ap not (eq-eqb x 0 (omega arith))
    go false p false q = let k = eqb-false (x / 2) 0 q in ap not (ne_eqb x 0 (λ z. omega arith))

pub nonzero : (n x : ℕ) → x < 2 ^ n → not (eqb x 0) ≡ some n (λ j. eqb (bit_at x j) 1)
nonzero = of-digits ◌||◌ false (λ x. not (eqb x 0)) (λ d. eqb d 1) refl nonzero-step

pub or-nonzero : (x y : ℕ) → not (eqb (bit_or x y) 0) ≡ (not (eqb x 0) || not (eqb y 0))
or-nonzero x y = go (eqb x 0) refl (eqb y 0) refl
  where
    go : (a : Bool) → eqb x 0 ≡ a → (b : Bool) → eqb y 0 ≡ b → not (eqb (bit_or x y) 0) ≡ (not a || not b)
    go true p true q =
        let h = eqb-true x 0 p in
        let k = eqb-true y 0 q in
        ap not (eq-eqb (bit_or x y) 0 (omega (arith, or_add_and x y)))
    go false p b q = let h = eqb-false x 0 p in ap not (ne_eqb (bit_or x y) 0 (λ z. omega (arith, or_add_and x y, and_le_r x y)))
    go true p false q = let k = eqb-false y 0 q in ap not (ne_eqb (bit_or x y) 0 (λ z. omega (arith, or_add_and x y, and_le_l x y)))

-- ---- a test, by a lane formula

abbrev pub mark : Bool → ℕ
mark b = cond b 1 0

mark-lt : (b : Bool) → mark b < 2
mark-lt true = omega arith
mark-lt false = omega arith

marked : (b : Bool) → eqb (mark b) 1 ≡ b
marked true = refl
marked false = refl

module _ (p : LogicBit → Bool) (e : Lane) (t : T (gives e (λ a b. mark (p a)))) (x : Word) (hv : x.value < 2 ^ 64) (hu : x.unknown < 2 ^ 64) where
  abbrev marks : ℕ
  marks = word e x.value x.unknown 0 0

  marks-are : marks ≡ pack 64 (λ j. mark (p (bit_of x j)))
  marks-are = lane x.value x.unknown 0 0 hv hu (pow_pos 64) (pow_pos 64) e (λ a b. mark (p a)) t

  pub marks-lt : marks < 2 ^ 64
  marks-lt = rw marks-are (pack-lt 64 (λ j. mark (p (bit_of x j))) (λ j _. mark-lt (p (bit_of x j))))

  pub marks-bit : (j : ℕ) → j < 64 → eqb (bit_at marks j) 1 ≡ p (bit_of x j)
  marks-bit j l =
      ap (λ (y : ℕ). eqb (bit_at y j) 1) marks-are
      ∙ ap (λ (d : ℕ). eqb d 1) (pack-bit 64 (λ j. mark (p (bit_of x j))) (λ j _. mark-lt (p (bit_of x j))) j l)
      ∙ marked (p (bit_of x j))

  pub some-marked : not (eqb marks 0) ≡ some 64 (λ j. p (bit_of x j))
  some-marked = nonzero 64 marks marks-lt ∙ gather_cong ◌||◌ false 64 (λ j. eqb (bit_at marks j) 1) (λ j. p (bit_of x j)) marks-bit

  pub some-low : (n m : ℕ) → n ≤ 64 → m ≡ 2 ^ n - 1 → not (eqb (bit_and marks m) 0) ≡ some n (λ j. p (bit_of x j))
  some-low n m h mask =
      ap (λ (y : ℕ). not (eqb y 0)) (ap (bit_and marks) mask ∙ and_mask marks n)
      ∙ nonzero n (marks % 2 ^ n) (mod-lt marks (pow_pos n))
      ∙ gather_cong ◌||◌ false n (λ j. eqb (bit_at (marks % 2 ^ n) j) 1) (λ j. p (bit_of x j))
      (λ j l. ap (λ (d : ℕ). eqb d 1) (bit-mod marks n j l) ∙ marks-bit j (omega arith))
