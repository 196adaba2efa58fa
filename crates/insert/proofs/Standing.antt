-- Whether the bits that an insert puts in stand there already.
--     told-by-words     the words that are read out and those that are put in, both cut off, tell it
--     told              the same in the numbers of the code
--     stands_none       at or above the width, they stand there
--     stands-spliced    where they stand there, putting them in changes nothing
use mathlib.Core.Path.{◌≡◌, refl, sym, ap, ap₂, ◌∙◌, subst}
use mathlib.Core.Bool.{Bool, true, false, ◌&&◌, cond}
use mathlib.Core.Logic.{⊎_elim}
use mathlib.Core.List.{List}
use Prim.Native.Nat.{ℕ, zero, suc, ◌+◌, ◌-◌, ◌^◌, ◌≤◌, ◌<◌, min, suc-le-suc}
use native.Mathlib.Nat.{not-suc-le-zero, le_of_suc-le-suc, zero-lt-suc, lt_of_le_of_lt}
use native.Mathlib.Omega.{arith}
use borrow.Author.Tests.{lt-ltb, le-ltb, leb-true, ltb-true, eq-eqb}
use lib.Dec.{T, eqb, ltb, leb, eqb→eq}
use lib.Bits.{bit_and, and_mask, and_le_l}
use lib.ListN.{length, get_or}
use Rattle.bit.specs.declared.LogicBit.{LogicBit}
use Rattle.bit.specs.declared.LogicBit.TheVariants.{Zero}
use Rattle.bit.specs.Rules.{code, same}
use Rattle.bit.proofs.Tests.{and_left, and_right, and_intro, bool-ext}
use Rattle.bit.proofs.Table.{same-eq}
use Rattle.words.specs.declared.Word.{Word}
use Rattle.words.specs.Vector.{at, bit_at, pack}
use Rattle.words.specs.Planes.{value_digit, unknown_digit, stored, bit_of, from_planes}
use Rattle.words.proofs.Digits.{bit-lt, bit-mod, bit-mod-above, pack-bit, pack-ext, lt-or-ge}
use Rattle.words.proofs.Planes.{length-tabulate, eq-tabulate, stored-bit, value-digit-lt, unknown-digit-lt, value-digit-stored, unknown-digit-stored}
use Rattle.bits.specs.Bits.{within, splice_count, spliced, extracted}
use Rattle.insert.specs.Insert.{all_below, stands}

-- ---- tests

eq-same : (a b : LogicBit) → a ≡ b → T (same a b)
eq-same a b e = subst T (sym (eq-eqb (code a) (code b) (ap code e))) tt

all-below : (n : ℕ) (p : ℕ → Bool) → T (all_below n p) → (j : ℕ) → j < n → T (p j)
unfolding all_below
all-below zero p t j l = absurd (not-suc-le-zero l)
all-below (suc n) p t zero l = and_left (p 0) (all_below n (λ i. p (suc i))) t
all-below (suc n) p t (suc j) l = all-below n (λ i. p (suc i)) (and_right (p 0) (all_below n (λ i. p (suc i))) t) j (le_of_suc-le-suc l)

below_all : (n : ℕ) (p : ℕ → Bool) → ((j : ℕ) → j < n → T (p j)) → T (all_below n p)
unfolding all_below
below_all zero p h = tt
below_all (suc n) p h =
    and_intro (p 0) (all_below n (λ i. p (suc i))) (h 0 (zero-lt-suc n)) (below_all n (λ i. p (suc i)) (λ j l. h (suc j) (suc-le-suc l)))

-- ---- words

-- a word cut off at n holds the bits of x below n, and 0 from there on
module _ (d : LogicBit → ℕ) (below : (b : LogicBit) → d b < 2) (none : d Zero ≡ 0) (x : ℕ) (f : ℕ → LogicBit) (n : ℕ) (hn : n ≤ 64) (hx : x < 2 ^ 64) where
  -- as a packed word, if the digits below n are those of f
  cut-is : ((j : ℕ) → j < n → bit_at x j ≡ d (f j)) → bit_and x (2 ^ n - 1) ≡ pack 64 (λ j. d (cond (ltb j n) (f j) Zero))
  cut-is h =
      pack-ext 64 (bit_and x (2 ^ n - 1)) _ (lt_of_le_of_lt (and_le_l x (2 ^ n - 1)) hx)
      (λ j l. ap (λ (y : ℕ). bit_at y j) (and_mask x n)
      ∙ ⊎_elim
      (λ m. bit-mod x n j m ∙ h j m ∙ ap (λ (b : Bool). d (cond b (f j) Zero)) (sym (lt-ltb j n m)))
      (λ m. bit-mod-above x n j m ∙ sym none ∙ ap (λ (b : Bool). d (cond b (f j) Zero)) (sym (le-ltb j n m)))
      (lt-or-ge j n))

  -- and the digits below n are read off it again
  cut_digit : bit_and x (2 ^ n - 1) ≡ pack 64 (λ j. d (cond (ltb j n) (f j) Zero)) → (j : ℕ) → j < n → bit_at x j ≡ d (f j)
  cut_digit e j l =
      sym (bit-mod x n j l) ∙ ap (λ (y : ℕ). bit_at y j) (sym (and_mask x n) ∙ e)
      ∙ pack-bit 64 (λ j. d (cond (ltb j n) (f j) Zero)) (λ j _. below _) j (omega arith)
      ∙ ap (λ (b : Bool). d (cond b (f j) Zero)) (lt-ltb j n l)

module _ (bs : List LogicBit) (pos n : ℕ) (x : Word) (hn : n ≤ 64) (hv : x.value < 2 ^ 64) (hu : x.unknown < 2 ^ 64) where
  abbrev old : ℕ → LogicBit
  old j = at bs (pos + j)

  pub told-by-words : (eqb (extracted bs pos n).value (bit_and x.value (2 ^ n - 1)) && eqb (extracted bs pos n).unknown (bit_and x.unknown (2 ^ n - 1)))
      ≡ all_below n (λ j. same (bit_of x j) (at bs (pos + j)))
  told-by-words = bool-ext _ _ there back
    where
      value_of : (j : ℕ) → bit_of x j ≡ old j → bit_at x.value j ≡ value_digit (old j)
      value_of j e = sym (value-digit-stored (bit_at x.value j) (bit_at x.unknown j) (bit-lt x.value j)) ∙ ap value_digit e

      unknown-of : (j : ℕ) → bit_of x j ≡ old j → bit_at x.unknown j ≡ unknown_digit (old j)
      unknown-of j e = sym (unknown-digit-stored (bit_at x.value j) (bit_at x.unknown j) (bit-lt x.unknown j)) ∙ ap unknown_digit e

      there : T (eqb (extracted bs pos n).value (bit_and x.value (2 ^ n - 1)) && eqb (extracted bs pos n).unknown (bit_and x.unknown (2 ^ n - 1)))
          → T (all_below n (λ j. same (bit_of x j) (at bs (pos + j))))
      there t =
          below_all n (λ j. same (bit_of x j) (at bs (pos + j)))
          (λ j l. eq-same (bit_of x j) (old j)
          (ap₂ stored
          (cut_digit value_digit value-digit-lt refl x.value old n hn hv (sym (eqb→eq (extracted bs pos n).value (bit_and x.value (2 ^ n - 1)) (and_left (eqb (extracted bs pos n).value (bit_and x.value (2 ^ n - 1))) (eqb (extracted bs pos n).unknown (bit_and x.unknown (2 ^ n - 1))) t))) j l)
          (cut_digit unknown_digit unknown-digit-lt refl x.unknown old n hn hu (sym (eqb→eq (extracted bs pos n).unknown (bit_and x.unknown (2 ^ n - 1)) (and_right (eqb (extracted bs pos n).value (bit_and x.value (2 ^ n - 1))) (eqb (extracted bs pos n).unknown (bit_and x.unknown (2 ^ n - 1))) t))) j l)
          ∙ stored-bit (old j)))

      back : T (all_below n (λ j. same (bit_of x j) (at bs (pos + j))))
          → T (eqb (extracted bs pos n).value (bit_and x.value (2 ^ n - 1)) && eqb (extracted bs pos n).unknown (bit_and x.unknown (2 ^ n - 1)))
      back t =
          let e : (j : ℕ) → j < n → bit_of x j ≡ old j = λ j l. same-eq (bit_of x j) (old j) (all-below n (λ j. same (bit_of x j) (at bs (pos + j))) t j l) in
          and_intro (eqb (extracted bs pos n).value (bit_and x.value (2 ^ n - 1))) (eqb (extracted bs pos n).unknown (bit_and x.unknown (2 ^ n - 1)))
          (subst T (sym (eq-eqb (extracted bs pos n).value (bit_and x.value (2 ^ n - 1)) (sym (cut-is value_digit value-digit-lt refl x.value old n hn hv (λ j l. value_of j (e j l)))))) tt)
          (subst T (sym (eq-eqb (extracted bs pos n).unknown (bit_and x.unknown (2 ^ n - 1)) (sym (cut-is unknown_digit unknown-digit-lt refl x.unknown old n hn hu (λ j l. unknown-of j (e j l)))))) tt)

-- the same, in the numbers of the code
module _ (w : ℕ) (v u : List ℕ) (pos n : ℕ) (x : Word) where
  pub told : (room count m : ℕ) (old : Word) (b : Bool) → x.value < 2 ^ 64 → x.unknown < 2 ^ 64
      → room ≡ min 64 (w - pos) → count ≡ min n room → m ≡ 2 ^ count - 1 → old ≡ extracted (from_planes w v u) pos count
      → b ≡ (eqb old.value (bit_and x.value m) && eqb old.unknown (bit_and x.unknown m))
      → b ≡ stands (from_planes w v u) pos n x
  told room count m old b hv hu er ec em eo eb =
      eb
      ∙ ap₂ (λ (y : Word) (k : ℕ). eqb y.value (bit_and x.value k) && eqb y.unknown (bit_and x.unknown k)) eo em
      ∙ told-by-words (from_planes w v u) pos count x (omega arith) hv hu
      ∙ ap (λ (k : ℕ). all_below k (λ j. same (bit_of x j) (at (from_planes w v u) (pos + j))))
      (ec ∙ ap (min n) (er ∙ ap (λ (k : ℕ). min 64 (k - pos)) (sym (length-tabulate w _))))

-- at or above the width nothing is put in
pub stands_none : (bs : List LogicBit) (pos n : ℕ) (x : Word) → length bs ≤ pos → stands bs pos n x ≡ true
unfolding all_below
stands_none bs pos n x h =
    let e : splice_count (length bs) pos n ≡ 0 = omega arith in
    ap (λ (k : ℕ). all_below k (λ j. same (bit_of x j) (at bs (pos + j)))) e

-- where the bits stand there already, the vector stays
pub stands-spliced : (bs : List LogicBit) (pos n : ℕ) (x : Word) → stands bs pos n x ≡ true → spliced bs pos n x ≡ bs
stands-spliced bs pos n x h =
    sym (eq-tabulate (length bs) _ bs Zero refl (λ i l. place i (leb pos i) refl (ltb i (pos + splice_count (length bs) pos n)) refl))
  where
    place : (i : ℕ) (b : Bool) → leb pos i ≡ b → (c : Bool) → ltb i (pos + splice_count (length bs) pos n) ≡ c
        → get_or bs i Zero ≡ cond (within pos (splice_count (length bs) pos n) i) (bit_of x (i - pos)) (at bs i)
    place i true eb true ec =
        let p : pos ≤ i = leb-true pos i eb in
        let q : i < pos + splice_count (length bs) pos n = ltb-true i _ ec in
        let k : pos + (i - pos) ≡ i = omega arith in
        sym (ap (λ (t : Bool). cond t (bit_of x (i - pos)) (at bs i)) (ap₂ ◌&&◌ eb ec)
        ∙ same-eq (bit_of x (i - pos)) (at bs (pos + (i - pos)))
        (all-below (splice_count (length bs) pos n) (λ j. same (bit_of x j) (at bs (pos + j))) (subst T (sym h) tt) (i - pos) (omega arith))
        ∙ ap (at bs) k)
    place i true eb false ec = sym (ap (λ (t : Bool). cond t (bit_of x (i - pos)) (at bs i)) (ap₂ ◌&&◌ eb ec))
    place i false eb c ec = sym (ap (λ (t : Bool). cond (t && ltb i (pos + splice_count (length bs) pos n)) (bit_of x (i - pos)) (at bs i)) eb)
