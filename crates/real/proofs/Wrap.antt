-- The words of a real's vector: an integer in two's complement, word by word from its size, cut off at the width.
--     shifted_up, shifted_down                         a shifted number, from a bit on
--     wrapped-lt, wrapped-positive, wrapped-negative   the integer modulo 2 to the width
--     zeros-none, zeros-next                           whether all lower words of a size are 0, from word to word
--     value-word, unknown-word, real-length            word k of both planes, and the vector's width
use Rattle.std.proofs.Common.{◌≡◌, ℕ, zero, suc, ◌+◌, ◌-◌, ◌*◌, ◌/◌, ◌%◌, ◌^◌, ◌<◌, ◌≤◌, min, Bool, true, false, cond, ◌&&◌, eqb, List, length, ℤ, pos, negsuc, sym, refl, ap, ◌∙◌, ⊎_elim, mod-lt, mul_assoc, suc-mul, zero-mul, arith, lit<, pow_pos, pow-add, shr-shr, eq-eqb, ne_eqb}
use native.Mathlib.Nat.{zero-div, zero-mod}
use lib.Arith.{digits_div}
use lib.Bits.{bit_and}
use lib.Dec.{eqb-suc-zero}
use lib.Ieee.{Float}
use lib.Pow.{shl-shr, split, mod-pow-add, ones_sub-lt}
use Rattle.bit.specs.declared.LogicBit.{LogicBit}
use Rattle.bit.specs.declared.LogicBit.TheVariants.{Zero}
use Rattle.words.specs.Vector.{tabulate, at, bit_at, pack}
use Rattle.words.specs.Planes.{value_digit, unknown_digit, stored, word_of}
use Rattle.words.proofs.Digits.{bit-mod, bit-shr, bit_not, bit-lt, bit-of-zero, pack-ext, pack-cong, lt-or-ge}
use Rattle.words.proofs.Planes.{length-tabulate, get_d_tabulate, get_d-tabulate-out, eq-tabulate, value-digit-lt, value-digit-stored, unknown-digit-stored}
use Rattle.words.proofs.Extend.{cut-vector}
use Rattle.real.specs.Round.{signed_by, rounded, wrapped, real_vector}

-- ---- d * 2 ^ s, from bit a on

pub shifted_up : (d s a : ℕ) → a ≤ s → d * 2 ^ s / 2 ^ a ≡ d * 2 ^ (s - a)
shifted_up d s a h =
    let e : s ≡ s - a + a = omega arith in
    ap (λ (x : ℕ). d * 2 ^ x / 2 ^ a) e
    ∙ ap (λ (x : ℕ). x / 2 ^ a) (ap (λ (x : ℕ). d * x) (pow-add 2 (s - a) a) ∙ sym (mul_assoc d (2 ^ (s - a)) (2 ^ a)))
    ∙ shl-shr (d * 2 ^ (s - a)) a

pub shifted_down : (d s a : ℕ) → s ≤ a → d * 2 ^ s / 2 ^ a ≡ d / 2 ^ (a - s)
shifted_down d s a h =
    let e : a ≡ s + (a - s) = omega arith in
    ap (λ (x : ℕ). d * 2 ^ s / 2 ^ x) e ∙ sym (shr-shr (d * 2 ^ s) s (a - s)) ∙ ap (λ (x : ℕ). x / 2 ^ (a - s)) (shl-shr d s)

-- ---- `wrapped` is what it says: below 2 ^ w, and away from the integer by a multiple of 2 ^ w

pub wrapped-lt : (w : ℕ) (z : ℤ) → wrapped w z < 2 ^ w
unfolding wrapped
wrapped-lt w (pos n) = mod-lt n (pow_pos w)
wrapped-lt w (negsuc n) = omega (arith, pow_pos w)

pub wrapped-positive : (w n : ℕ) → n ≡ n / 2 ^ w * 2 ^ w + wrapped w (pos n)
unfolding wrapped
wrapped-positive w n = sym (split n w)

pub wrapped-negative : (w n : ℕ) → suc n + wrapped w (negsuc n) ≡ suc (n / 2 ^ w) * 2 ^ w
unfolding wrapped
wrapped-negative w n = omega (arith, split n w, mod-lt n (pow_pos w), suc-mul (n / 2 ^ w) (2 ^ w))

-- ---- the digits of an integer in two's complement

abbrev digit : ℤ → ℕ → ℕ
digit (pos n) i = bit_at n i
digit (negsuc n) i = 1 - bit_at n i

digit_lt : (z : ℤ) (i : ℕ) → digit z i < 2
digit_lt (pos n) i = bit-lt n i
digit_lt (negsuc n) i = omega arith

wrapped-digit : (w : ℕ) (z : ℤ) (i : ℕ) → i < w → bit_at (wrapped w z) i ≡ digit z i
unfolding wrapped
wrapped-digit w (pos n) i l = bit-mod n w i l
wrapped-digit w (negsuc n) i l = bit_not w (n % 2 ^ w) i (mod-lt n (pow_pos w)) l ∙ ap (λ (x : ℕ). 1 - x) (bit-mod n w i l)

-- 64 of them, from digit a on
abbrev part : ℤ → ℕ → ℕ
part (pos n) a = n / 2 ^ a % 2 ^ 64
part (negsuc n) a = 2 ^ 64 - 1 - n / 2 ^ a % 2 ^ 64

part-digits : (z : ℤ) (a : ℕ) → part z a ≡ pack 64 (λ j. digit z (a + j))
part-digits (pos n) a = pack-ext 64 _ _ (mod-lt (n / 2 ^ a) (pow_pos 64)) (λ j l. bit-mod (n / 2 ^ a) 64 j l ∙ bit-shr n a j)
part-digits (negsuc n) a =
    pack-ext 64 _ _ (ones_sub-lt 64 (n / 2 ^ a % 2 ^ 64))
    (λ j l. bit_not 64 (n / 2 ^ a % 2 ^ 64) j (mod-lt (n / 2 ^ a) (pow_pos 64)) l ∙ ap (λ (x : ℕ). 1 - x) (bit-mod (n / 2 ^ a) 64 j l ∙ bit-shr n a j))

-- ---- the word of ±m from bit a on, from that of m

abbrev pub signed_word : Bool → Bool → ℕ → ℕ
signed_word negative zeros word = cond negative ((2 ^ 64 - 1 - word + cond zeros 1 0) % 2 ^ 64) word

-- with q and r for the quotient and the rest of suc n by p
one_less : (n p q r : ℕ) → 0 < p → suc n ≡ q * p + r → r < p
    → 2 ^ 64 - 1 - n / p % 2 ^ 64 ≡ (2 ^ 64 - 1 - q % 2 ^ 64 + cond (eqb r 0) 1 0) % 2 ^ 64
one_less n p zero zero P e h = absurd (none (zero-mul p))
  where
    none : 0 * p ≡ 0 → ⊥
    none f = omega arith
one_less n p (suc q) zero P e h = ap (λ (x : ℕ). 2 ^ 64 - 1 - x % 2 ^ 64) d ∙ count
  where
    d : n / p ≡ q
    d =
        let f : suc q * p ≡ q * p + p = suc-mul q p in
        let g : n ≡ q * p + (p - 1) = omega arith in
        let l : p - 1 < p = omega arith in
        ap (λ (x : ℕ). x / p) g ∙ digits_div q l

    count : 2 ^ 64 - 1 - q % 2 ^ 64 ≡ (2 ^ 64 - 1 - suc q % 2 ^ 64 + 1) % 2 ^ 64
    count = omega arith
one_less n p q (suc r) P e h =
    ap (λ (x : ℕ). 2 ^ 64 - 1 - x % 2 ^ 64) d ∙ count ∙ ap (λ (b : Bool). (2 ^ 64 - 1 - q % 2 ^ 64 + cond b 1 0) % 2 ^ 64) (sym (eqb-suc-zero r))
  where
    d : n / p ≡ q
    d =
        let g : n ≡ q * p + r = omega arith in
        let l : r < p = omega arith in
        ap (λ (x : ℕ). x / p) g ∙ digits_div q l

    count : 2 ^ 64 - 1 - q % 2 ^ 64 ≡ (2 ^ 64 - 1 - q % 2 ^ 64 + 0) % 2 ^ 64
    count = omega arith

signed_part : (s : Bool) (m a : ℕ) → signed_word s (eqb (m % 2 ^ a) 0) (m / 2 ^ a % 2 ^ 64) ≡ part (signed_by s m) a
signed_part false m a = refl
signed_part true zero a =
    ap (λ (x : ℕ). (2 ^ 64 - 1 - x % 2 ^ 64 + cond (eqb (0 % 2 ^ a) 0) 1 0) % 2 ^ 64) (zero-div (2 ^ a))
    ∙ ap (λ (x : ℕ). (2 ^ 64 - 1 - 0 % 2 ^ 64 + cond (eqb x 0) 1 0) % 2 ^ 64) (zero-mod (2 ^ a))
    ∙ sym (ap (λ (x : ℕ). x % 2 ^ 64) (zero-div (2 ^ a)))
signed_part true (suc n) a =
    sym (one_less n (2 ^ a) (suc n / 2 ^ a) (suc n % 2 ^ a) (pow_pos a) (sym (split (suc n) a)) (mod-lt (suc n) (pow_pos a)))

-- ---- whether all words below word k are 0

both_zero : (w p r : ℕ) → 0 < p → eqb (w * p + r) 0 ≡ (eqb r 0 && eqb w 0)
both_zero w p (suc r) P = ne_eqb (w * p + suc r) 0 (λ e. omega arith) ∙ ap (λ (b : Bool). b && eqb w 0) (sym (eqb-suc-zero r))
both_zero zero p zero P =
    let z : 0 * p ≡ 0 = zero-mul p in
    let e : 0 * p + 0 ≡ 0 = omega arith in
    eq-eqb (0 * p + 0) 0 e
both_zero (suc w) p zero P =
    let f : suc w * p ≡ w * p + p = suc-mul w p in
    ne_eqb (suc w * p + 0) 0 (λ e. omega arith) ∙ sym (eqb-suc-zero w)

pub zeros-next : (m k : ℕ) → (eqb (m % 2 ^ (k * 64)) 0 && eqb (m / 2 ^ (k * 64) % 2 ^ 64) 0) ≡ eqb (m % 2 ^ ((k + 1) * 64)) 0
zeros-next m k =
    let e : 64 + k * 64 ≡ (k + 1) * 64 = omega arith in
    sym (both_zero (m / 2 ^ (k * 64) % 2 ^ 64) (2 ^ (k * 64)) (m % 2 ^ (k * 64)) (pow_pos (k * 64)))
    ∙ ap (λ (x : ℕ). eqb x 0) (sym (mod-pow-add m 64 (k * 64)))
    ∙ ap (λ (x : ℕ). eqb (m % 2 ^ x) 0) e

pub zeros-none : (m : ℕ) → true ≡ eqb (m % 2 ^ 0) 0
zeros-none m =
    let e : m % 1 ≡ 0 = omega arith in
    sym (eq-eqb (m % 1) 0 e)

-- ---- word k of the vector, n being how many bits of it lie below the width

module _ (w : ℕ) (x : Float) (k : ℕ) where
  pub value-word : (s zeros : Bool) (m n : ℕ) → signed_by s m ≡ rounded x → zeros ≡ eqb (m % 2 ^ (k * 64)) 0 → n ≡ min 64 (w - k * 64)
      → bit_and (signed_word s zeros (m / 2 ^ (k * 64) % 2 ^ 64)) (2 ^ n - 1) ≡ word_of value_digit (at (real_vector w x)) k
  unfolding real_vector
  value-word s zeros m n e z h =
      let f : ℕ → LogicBit = λ i. stored (digit (rounded x) i) 0 in
      let same : real_vector w x ≡ tabulate w f =
      eq-tabulate w f (real_vector w x) Zero (length-tabulate w _)
      (λ i l. get_d_tabulate w _ i Zero l ∙ ap (λ (d : ℕ). stored d 0) (wrapped-digit w (rounded x) i l)) in
      ap (λ (y : ℕ). bit_and y (2 ^ n - 1))
      (ap (λ (b : Bool). signed_word s b (m / 2 ^ (k * 64) % 2 ^ 64)) z ∙ signed_part s m (k * 64) ∙ ap (λ (i : ℤ). part i (k * 64)) e
      ∙ part-digits (rounded x) (k * 64)
      ∙ pack-cong 64 _ _ (λ j l. sym (value-digit-stored (digit (rounded x) (k * 64 + j)) 0 (digit_lt (rounded x) (k * 64 + j)))))
      ∙ cut-vector value_digit value-digit-lt refl w k n f h
      ∙ ap (λ (bs : List LogicBit). word_of value_digit (at bs) k) (sym same)

  pub real-length : length (real_vector w x) ≡ w
  unfolding real_vector
  real-length = length-tabulate w _

  pub unknown-word : 0 ≡ word_of unknown_digit (at (real_vector w x)) k
  unfolding real_vector
  unknown-word =
      pack-ext 64 0 _ (pow_pos 64)
      (λ j l. bit-of-zero j
      ∙ sym (⊎_elim
      (λ h. ap unknown_digit (get_d_tabulate w _ (k * 64 + j) Zero h) ∙ unknown-digit-stored (bit_at (wrapped w (rounded x)) (k * 64 + j)) 0 (lit< tt))
      (λ h. ap unknown_digit (get_d-tabulate-out w _ (k * 64 + j) Zero h))
      (lt-or-ge (k * 64 + j) w)))
