-- The top word: what lies in it at or above the width.
--     top-masked    masking the last word masks the plane
--     top-clear     the last word tells whether the plane has a bit at or above the width
use mathlib.Core.Path.{◌≡◌, refl, sym, ap, ◌∙◌, subst}
use mathlib.Core.Logic.{⊎_elim}
use mathlib.Core.List.{List, [], ◌∷◌}
use Prim.Native.Nat.{ℕ, zero, suc, ◌+◌, ◌-◌, ◌*◌, ◌/◌, ◌%◌, ◌^◌, ◌≤◌, ◌<◌, min}
use native.Mathlib.Omega.{arith}
use lib.Dec.{T, eqb, eqb→eq}
use borrow.Author.Tests.{eq-eqb}
use lib.ListN.{length, get_or, set, drop, length-set, get_or-eq_default}
use lib.Seq.{get_or-set_same, get_or-set_other, get_or-drop}
use lib.Pow.{ones_lt, ones_sub-lt, pow_pos}
use lib.Bits.{bit_and, and_lt}
use Rattle.bit.proofs.Tests.{and_left, and_right, and_intro, bool-ext}
use Rattle.words.specs.Vector.{bit_at, pack}
use Rattle.words.specs.Planes.{word_count, plane_bit, plane_digits, all_zero, clear_above, cleared, masked}
use Rattle.words.proofs.Digits.{bit-and, bit_not, bit-ones, bit-above, bit-lt, bit-of-zero, pack-ext, word-ext, lt-or-ge}
use Rattle.words.proofs.Planes.{get_d_tabulate, get_d-tabulate-out, eq-tabulate, plane-bit}
use Rattle.words.proofs.Extend.{cut, mask_lt}

-- ---- masking

module _ (p : List ℕ) (w : ℕ) (words : (k : ℕ) → get_or p k 0 < 2 ^ 64) where
  pub whole_word : (k : ℕ) → k * 64 + 64 ≤ w → get_or p k 0 ≡ pack 64 (λ j. get_or (plane_digits w p) (k * 64 + j) 0)
  whole_word k h = pack-ext 64 (get_or p k 0) _ (words k) (λ j l. plane-bit p k j l ∙ sym (get_d_tabulate w (plane_bit p) (k * 64 + j) 0 (omega arith)))

  pub cut-word : (k n : ℕ) → n ≡ min 64 (w - k * 64) → bit_and (get_or p k 0) (2 ^ n - 1) ≡ pack 64 (λ j. get_or (plane_digits w p) (k * 64 + j) 0)
  cut-word k n e =
      ap (λ (x : ℕ). bit_and x (2 ^ n - 1)) (pack-ext 64 (get_or p k 0) (bit_at (get_or p k 0)) (words k) (λ j l. refl))
      ∙ cut w k n (bit_at (get_or p k 0)) (λ j. get_or (plane_digits w p) (k * 64 + j) 0) e (λ j _. bit-lt (get_or p k 0) j)
      (λ j l m. plane-bit p k j l ∙ sym (get_d_tabulate w (plane_bit p) (k * 64 + j) 0 m))
      (λ j m. get_d-tabulate-out w (plane_bit p) (k * 64 + j) 0 m)

  mask-some : (v : ℕ) → (v ≡ 0 → ⊥) → masked v p ≡ cleared v p
  mask-some zero h = absurd (h refl)
  mask-some (suc v) h = refl

  pub top-masked : (n : ℕ) → length p ≡ word_count w → (w ≡ 0 → ⊥) → n ≡ min 64 (w - (length p - 1) * 64)
      → set p (length p - 1) (bit_and (get_or p (length p - 1) 0) (2 ^ n - 1)) ≡ masked w p
  top-masked n e some m =
      let last : ℕ = length p - 1 in
      let x : ℕ = bit_and (get_or p last 0) (2 ^ n - 1) in
      eq-tabulate (length p) (λ k. pack 64 (λ j. get_or (plane_digits w p) (k * 64 + j) 0)) (set p last x) 0 (length-set p last x)
      (λ k l. ⊎_elim
      (λ h. get_or-set_other p last k x 0 (omega arith) ∙ whole_word k (omega arith))
      (λ h. let q : k ≡ last = omega arith in
      ap (λ (i : ℕ). get_or (set p last x) i 0) q ∙ get_or-set_same p last x 0 (omega arith) ∙ cut-word last n m
      ∙ ap (λ (i : ℕ). pack 64 (λ j. get_or (plane_digits w p) (i * 64 + j) 0)) (sym q))
      (lt-or-ge k last))
      ∙ sym (mask-some w some)

-- ---- testing

eq→eqb : (m n : ℕ) → m ≡ n → T (eqb m n)
eq→eqb m n e = subst T (sym (eq-eqb m n e)) tt

pub zero-all : (l : List ℕ) → ((i : ℕ) → get_or l i 0 ≡ 0) → T (all_zero l)
zero-all [] h = tt
zero-all (d ∷ ds) h = and_intro (eqb d 0) (all_zero ds) (eq→eqb d 0 (h 0)) (zero-all ds (λ i. h (suc i)))

pub all-zero : (l : List ℕ) → T (all_zero l) → (i : ℕ) → get_or l i 0 ≡ 0
all-zero [] t i = refl
all-zero (d ∷ ds) t zero = eqb→eq d 0 (and_left (eqb d 0) (all_zero ds) t)
all-zero (d ∷ ds) t (suc i) = all-zero ds (and_right (eqb d 0) (all_zero ds) t) i

-- `clear_above` is what it says
module _ (w : ℕ) (p : List ℕ) where
  beyond-digit : (i : ℕ) → get_or (plane_digits (length p * 64) p) i 0 ≡ plane_bit p i
  beyond-digit i =
      ⊎_elim
      (λ l. get_d_tabulate (length p * 64) (plane_bit p) i 0 l)
      (λ l. get_d-tabulate-out (length p * 64) (plane_bit p) i 0 l
      ∙ sym (ap (λ (x : ℕ). bit_at x (i % 64)) (get_or-eq_default p 0 (omega arith)) ∙ bit-of-zero (i % 64)))
      (lt-or-ge i (length p * 64))

  pub clear-all : ((i : ℕ) → w ≤ i → plane_bit p i ≡ 0) → T (clear_above w p)
  clear-all h = zero-all (drop w (plane_digits (length p * 64) p)) (λ i. get_or-drop w (plane_digits (length p * 64) p) i 0 ∙ beyond-digit (w + i) ∙ h (w + i) (omega arith))

  pub all-clear : T (clear_above w p) → (i : ℕ) → w ≤ i → plane_bit p i ≡ 0
  all-clear t i l =
      let e : w + (i - w) ≡ i = omega arith in
      ap (plane_bit p) (sym e) ∙ sym (beyond-digit (w + (i - w))) ∙ sym (get_or-drop w (plane_digits (length p * 64) p) (i - w) 0) ∙ all-zero (drop w (plane_digits (length p * 64) p)) t (i - w)

  module _ (n : ℕ) (e : length p ≡ word_count w) (words : (k : ℕ) → get_or p k 0 < 2 ^ 64) (m : n ≡ min 64 (w - (length p - 1) * 64)) where
    abbrev over : ℕ
    over = bit_and (get_or p (length p - 1) 0) ((2 ^ 64 - 1) - (2 ^ n - 1))

    over-bit : (j : ℕ) → j < 64 → bit_at over j ≡ min (bit_at (get_or p (length p - 1) 0) j) (1 - bit_at (2 ^ n - 1) j)
    over-bit j l = bit-and (get_or p (length p - 1) 0) _ j ∙ ap (min (bit_at (get_or p (length p - 1) 0) j)) (bit_not 64 (2 ^ n - 1) j (mask_lt n (omega arith)) l)

    over-high : (j : ℕ) → j < 64 → n ≤ j → bit_at over j ≡ bit_at (get_or p (length p - 1) 0) j
    over-high j l h = omega (arith, over-bit j l, bit-above (2 ^ n - 1) n j (ones_lt n) h, bit-lt (get_or p (length p - 1) 0) j)

    over-low : (j : ℕ) → j < 64 → j < n → bit_at over j ≡ 0
    over-low j l h = omega (arith, over-bit j l, bit-ones n j h)

    none_over : over ≡ 0 → (i : ℕ) → w ≤ i → plane_bit p i ≡ 0
    none_over z i h =
        ⊎_elim
        (λ l. let q : i / 64 ≡ length p - 1 = omega arith in
        ap (λ (k : ℕ). bit_at (get_or p k 0) (i % 64)) q ∙ sym (over-high (i % 64) (omega arith) (omega arith))
        ∙ ap (λ (x : ℕ). bit_at x (i % 64)) z ∙ bit-of-zero (i % 64))
        (λ l. ap (λ (x : ℕ). bit_at x (i % 64)) (get_or-eq_default p 0 l) ∙ bit-of-zero (i % 64))
        (lt-or-ge (i / 64) (length p))

    over_none : ((i : ℕ) → w ≤ i → plane_bit p i ≡ 0) → over ≡ 0
    over_none h =
        word-ext 64 over 0 (and_lt 64 _ _ (words (length p - 1)) (ones_sub-lt 64 (2 ^ n - 1))) (pow_pos 64)
        (λ j l. ⊎_elim
        (λ k. over-low j l k)
        (λ k. over-high j l k ∙ plane-bit p (length p - 1) j l ∙ h ((length p - 1) * 64 + j) (omega arith))
        (lt-or-ge j n) ∙ sym (bit-of-zero j))

    pub top-clear : eqb over 0 ≡ clear_above w p
    top-clear = bool-ext (eqb over 0) (clear_above w p) (λ t. clear-all (none_over (eqb→eq over 0 t))) (λ t. eq→eqb over 0 (over_none (all-clear t)))
