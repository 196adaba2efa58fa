-- Putting the low digits of a word into a plane at any bit: the one word, or the two, that `splice_plane` writes.
--     low_word, high_word           the digits put into the word at the place, and into the next one
--     spliced-one, spliced-two      the plane that is left where one word is written, or two
use mathlib.Core.Path.{◌≡◌, sym, ap, ap₂, ◌∙◌}
use mathlib.Core.Bool.{Bool, false, ◌&&◌, cond}
use mathlib.Core.Logic.{◌⊎◌, inl, inr, ⊎_elim}
use mathlib.Core.List.{List}
use Prim.Native.Nat.{ℕ, ◌+◌, ◌-◌, ◌*◌, ◌/◌, ◌%◌, ◌^◌, ◌≤◌, ◌<◌}
use native.Mathlib.Omega.{arith}
use borrow.Author.Tests.{lt-ltb, le-ltb, le-leb, lt-leb}
use lib.Dec.{eqb, ltb, leb}
use lib.ListN.{length, get_or, set, length-set}
use lib.Seq.{get_or-set_same, get_or-set_other}
use Rattle.words.specs.Vector.{bit_at, pack}
use Rattle.words.specs.Planes.{plane_bit}
use Rattle.bits.specs.Bits.{within, spliced_plane}
use Rattle.words.proofs.Digits.{bit-shr, pack-ext, pack-cong, lt-or-ge}
use Rattle.words.proofs.Planes.{eq-tabulate, plane-bit}
use Rattle.words.proofs.Extend.{ones-digit}
use Rattle.words.proofs.Shift.{low_digit, low-none}

-- the digit at place g after the n low digits of x stand from pos on
abbrev put : ℕ → ℕ → ℕ → ℕ → ℕ → ℕ
put pos n x old g = cond (within pos n g) (bit_at x (g - pos)) old

put-before : (pos n x old g : ℕ) → g < pos → old ≡ put pos n x old g
put-before pos n x old g l = ap (λ (b : Bool). cond (b && ltb g (pos + n)) (bit_at x (g - pos)) old) (sym (lt-leb pos g l))

put-behind : (pos n x old g : ℕ) → pos + n ≤ g → old ≡ put pos n x old g
put-behind pos n x old g l =
    ap (λ (b : Bool). cond (b && false) (bit_at x (g - pos)) old) (sym (le-leb pos g (omega arith)))
    ∙ ap (λ (b : Bool). cond (leb pos g && b) (bit_at x (g - pos)) old) (sym (le-ltb g (pos + n) l))

-- digit i of a mask of n ones decides as the place g does, i places behind pos
decided : (pos n x old g i : ℕ) → pos + i ≡ g → cond (eqb (bit_at (2 ^ n - 1) i) 1) (bit_at x i) old ≡ put pos n x old g
decided pos n x old g i e =
    ap (λ (b : Bool). cond b (bit_at x i) old) (ones-digit n i ∙ tests)
    ∙ ap (λ (k : ℕ). cond (within pos n g) (bit_at x k) old) place
  where
    place : i ≡ g - pos
    place = omega arith

    tests : ltb i n ≡ within pos n g
    tests =
        ⊎_elim
        (λ l. lt-ltb i n l ∙ sym (ap₂ ◌&&◌ (le-leb pos g (omega arith)) (lt-ltb g (pos + n) (omega arith))))
        (λ l. le-ltb i n l ∙ sym (ap₂ ◌&&◌ (le-leb pos g (omega arith)) (le-ltb g (pos + n) (omega arith))))
        (lt-or-ge i n)

module _ (p : List ℕ) (words : (q : ℕ) → get_or p q 0 < 2 ^ 64) (pos n x k j : ℕ) (e : pos ≡ k * 64 + j) (hj : j < 64) (hn : n ≤ 64) where
  abbrev after : ℕ → ℕ
  after q = pack 64 (λ i. put pos n x (plane_bit p (q * 64 + i)) (q * 64 + i))

  untouched : (q : ℕ) → (q < k) ⊎ (pos + n ≤ q * 64) → get_or p q 0 ≡ after q
  untouched q h =
      pack-ext 64 (get_or p q 0) _ (words q)
      (λ i l. plane-bit p q i l
      ∙ ⊎_elim
      (λ m. put-before pos n x (plane_bit p (q * 64 + i)) (q * 64 + i) (omega arith))
      (λ m. put-behind pos n x (plane_bit p (q * 64 + i)) (q * 64 + i) (omega arith)) h)

  pub low_word : pack 64 (λ i. cond (eqb (bit_at (((2 ^ n - 1) * 2 ^ j) % 2 ^ 64) i) 1) (bit_at ((x * 2 ^ j) % 2 ^ 64) i) (bit_at (get_or p k 0) i)) ≡ after k
  low_word =
      pack-cong 64 _ _
      (λ i l. ap (cond (eqb (bit_at (((2 ^ n - 1) * 2 ^ j) % 2 ^ 64) i) 1) (bit_at ((x * 2 ^ j) % 2 ^ 64) i)) (plane-bit p k i l)
      ∙ ⊎_elim
      (λ m. ap (λ (d : ℕ). cond (eqb d 1) (bit_at ((x * 2 ^ j) % 2 ^ 64) i) (plane_bit p (k * 64 + i))) (low-none (2 ^ n - 1) j i l m)
      ∙ put-before pos n x (plane_bit p (k * 64 + i)) (k * 64 + i) (omega arith))
      (λ m. ap₂ (λ (d b : ℕ). cond (eqb d 1) b (plane_bit p (k * 64 + i))) (low_digit (2 ^ n - 1) j i l m) (low_digit x j i l m)
      ∙ decided pos n x (plane_bit p (k * 64 + i)) (k * 64 + i) (i - j) (omega arith))
      (lt-or-ge i j))

  pub high_word : pack 64 (λ i. cond (eqb (bit_at ((2 ^ n - 1) / 2 ^ (64 - j)) i) 1) (bit_at (x / 2 ^ (64 - j)) i) (bit_at (get_or p (k + 1) 0) i)) ≡ after (k + 1)
  high_word =
      pack-cong 64 _ _
      (λ i l. ap (cond (eqb (bit_at ((2 ^ n - 1) / 2 ^ (64 - j)) i) 1) (bit_at (x / 2 ^ (64 - j)) i)) (plane-bit p (k + 1) i l)
      ∙ ap₂ (λ (d b : ℕ). cond (eqb d 1) b (plane_bit p ((k + 1) * 64 + i))) (bit-shr (2 ^ n - 1) (64 - j) i) (bit-shr x (64 - j) i)
      ∙ decided pos n x (plane_bit p ((k + 1) * 64 + i)) ((k + 1) * 64 + i) (64 - j + i) (omega arith))

  module _ (y : ℕ) (hk : k < length p) (low : y ≡ after k) where
    -- word q once word k is y, where the others are as they were
    first : (q : ℕ) → (q < k) ⊎ (pos + n ≤ q * 64) ⊎ (q ≡ k) → get_or (set p k y) q 0 ≡ after q
    first q h =
        ⊎_elim
        (λ l. get_or-set_other p k q y 0 (λ z. absurd (omega arith)) ∙ untouched q (inl l))
        (⊎_elim
        (λ l. ⊎_elim
        (λ m. get_or-set_other p k q y 0 (λ z. absurd (omega arith)) ∙ untouched q (inr l))
        (λ m. here q (omega arith))
        (lt-or-ge k q))
        (λ z. here q z)) h
      where
        here : (q : ℕ) → q ≡ k → get_or (set p k y) q 0 ≡ after q
        here q z = ap (λ (i : ℕ). get_or (set p k y) i 0) z ∙ get_or-set_same p k y 0 hk ∙ low ∙ ap after (sym z)

    pub spliced-one : j + n ≤ 64 → set p k y ≡ spliced_plane p pos n x
    spliced-one h =
        eq-tabulate (length p) after (set p k y) 0 (length-set p k y)
        (λ q _. first q (where-is q))
      where
        where-is : (q : ℕ) → (q < k) ⊎ (pos + n ≤ q * 64) ⊎ (q ≡ k)
        where-is q = ⊎_elim (λ l. inl l) (λ l. ⊎_elim (λ m. inr (inl (omega arith))) (λ m. inr (inr (omega arith))) (lt-or-ge k q)) (lt-or-ge q k)

    pub spliced-two : (z : ℕ) → k + 1 < length p → z ≡ after (k + 1) → set (set p k y) (k + 1) z ≡ spliced_plane p pos n x
    spliced-two z hk1 high =
        eq-tabulate (length p) after (set (set p k y) (k + 1) z) 0 (length-set (set p k y) (k + 1) z ∙ length-set p k y)
        (λ q _. ⊎_elim
        (λ l. get_or-set_other (set p k y) (k + 1) q z 0 (λ m. absurd (omega arith))
        ∙ first q (⊎_elim (λ m. inl m) (λ m. inr (inr (omega arith))) (lt-or-ge q k)))
        (λ l. ⊎_elim
        (λ m. get_or-set_other (set p k y) (k + 1) q z 0 (λ w. absurd (omega arith)) ∙ first q (inr (inl (omega arith))))
        (λ m. next q (omega arith))
        (lt-or-ge (k + 1) q))
        (lt-or-ge q (k + 1)))
      where
        next : (q : ℕ) → q ≡ k + 1 → get_or (set (set p k y) (k + 1) z) q 0 ≡ after q
        next q w =
            ap (λ (i : ℕ). get_or (set (set p k y) (k + 1) z) i 0) w
            ∙ get_or-set_same (set p k y) (k + 1) z 0 (rw length-set hk1) ∙ high ∙ ap after (sym w)
