-- Bits of numbers: the bit of each word operation, and words by their bits.
--     bit-zero, bit-suc, bit-lt     the lowest bit, the others, and a bit is 0 or 1
--     bit-and, bit-or, bit-xor, bit_not, bit-shr, bit-shl-low, bit-shl-high     the bit of an operation
--     bit-ones, bit-mod, bit-above, bit-mod-above     a mask, the k low digits, the digits above a bound
--     pack-ext, pack-bit, pack-lt, pack-cong    a word is made of its bits
--     word-ext      two words of n digits that agree at each digit are equal
use mathlib.Core.Path.{◌≡◌, refl, sym, ap, ap₂, ◌∙◌}
use Prim.Native.Nat.{ℕ, zero, suc, ◌+◌, ◌-◌, ◌*◌, ◌/◌, ◌%◌, ◌^◌, ◌≤◌, ◌<◌, min, max, zero-le, suc-le-suc}
use native.Mathlib.Nat.{mod-lt, div-one, le_of_suc-le-suc, not-suc-le-zero, zero-lt-suc, div-add-mod', pow-suc, div-eq_of_lt, lt_of_lt_of_le, mod-eq_of_lt, mul_assoc, mul-mod_left}
use mathlib.Core.Logic.{◌⊎◌, inl, inr, ⊎_elim}
use native.Mathlib.Numerals.{one-add, add-one}
use native.Mathlib.Omega.{arith}
use lib.Arith.{digits_lt, digits_div, digits_mod, lt-one}
use lib.Pow.{ones_lt, ones_split, pow_pos, pow-add, pow_mono, shr-shr, shr_lt, field, mod-mod-pow, shl-shr}
use lib.Bits.{bit_and, bit_or, bit_xor, differ, and_shr, or_shr, xor_shr, and_step, or_step, xor_step, and_mask, xor_add_and}
use Rattle.words.specs.Vector.{bit_at, pack}

two_pos : zero < 2
two_pos = zero-lt-suc 1

pub lt-or-ge : (a b : ℕ) → (a < b) ⊎ (b ≤ a)
lt-or-ge a zero = inr zero-le
lt-or-ge zero (suc b) = inl (zero-lt-suc b)
lt-or-ge (suc a) (suc b) = ⊎_elim (λ p. inl (suc-le-suc p)) (λ q. inr (suc-le-suc q)) (lt-or-ge a b)

pub bit-zero : (n : ℕ) → bit_at n 0 ≡ n % 2
bit-zero n = ap (λ (x : ℕ). x % 2) (div-one n)

pub bit-suc : (n i : ℕ) → bit_at n (suc i) ≡ bit_at (n / 2) i
bit-suc n i = ap (λ (x : ℕ). n / 2 ^ x % 2) (sym (one-add i)) ∙ ap (λ (x : ℕ). x % 2) (sym (shr-shr n 1 i))

pub bit-lt : (n i : ℕ) → bit_at n i < 2
bit-lt n i = mod-lt (n / 2 ^ i) two_pos

-- ---- a word is made of its bits

pub pack-cong : (n : ℕ) (f g : ℕ → ℕ) → ((j : ℕ) → j < n → f j ≡ g j) → pack n f ≡ pack n g
unfolding pack
pack-cong zero f g h = refl
pack-cong (suc n) f g h =
    ap₂ (λ (x y : ℕ). x * 2 + y) (pack-cong n (λ i. f (suc i)) (λ i. g (suc i)) (λ j l. h (suc j) (suc-le-suc l))) (h 0 (zero-lt-suc n))

pub pack-lt : (n : ℕ) (f : ℕ → ℕ) → ((j : ℕ) → j < n → f j < 2) → pack n f < 2 ^ n
unfolding pack
pack-lt zero f h = zero-lt-suc 0
pack-lt (suc n) f h = rw pow-suc (digits_lt (pack-lt n (λ i. f (suc i)) (λ j l. h (suc j) (suc-le-suc l))) (h 0 (zero-lt-suc n)))

pub pack-bit : (n : ℕ) (f : ℕ → ℕ) → ((j : ℕ) → j < n → f j < 2) → (j : ℕ) → j < n → bit_at (pack n f) j ≡ f j
unfolding pack
pack-bit zero f h j l = absurd (not-suc-le-zero l)
pack-bit (suc n) f h zero l = bit-zero _ ∙ digits_mod (pack n (λ i. f (suc i))) (h 0 (zero-lt-suc n))
pack-bit (suc n) f h (suc j) l =
    bit-suc _ j ∙ ap (λ (x : ℕ). bit_at x j) (digits_div (pack n (λ i. f (suc i))) (h 0 (zero-lt-suc n)))
    ∙ pack-bit n (λ i. f (suc i)) (λ j l. h (suc j) (suc-le-suc l)) j (le_of_suc-le-suc l)

half_lt : (n x : ℕ) → x < 2 ^ suc n → x / 2 < 2 ^ n
half_lt n x h = shr_lt n 1 (rw add-one h)

pub pack-ext : (n x : ℕ) (f : ℕ → ℕ) → x < 2 ^ n → ((j : ℕ) → j < n → bit_at x j ≡ f j) → x ≡ pack n f
unfolding pack
pack-ext zero x f h e = lt-one h
pack-ext (suc n) x f h e =
    sym (div-add-mod' x 2)
    ∙ ap₂ (λ (p q : ℕ). p * 2 + q)
    (pack-ext n (x / 2) (λ i. f (suc i)) (half_lt n x h) (λ j l. sym (bit-suc x j) ∙ e (suc j) (suc-le-suc l)))
    (sym (bit-zero x) ∙ e 0 (zero-lt-suc n))

pub word-ext : (n x y : ℕ) → x < 2 ^ n → y < 2 ^ n → ((j : ℕ) → j < n → bit_at x j ≡ bit_at y j) → x ≡ y
word-ext n x y p q e = pack-ext n x (bit_at y) p e ∙ sym (pack-ext n y (bit_at y) q (λ j l. refl))

-- ---- the bit of an operation

module _ (op f : ℕ → ℕ → ℕ) (below : (x y : ℕ) → x < 2 → y < 2 → f x y < 2)
    (step : (a b : ℕ) → op a b ≡ op (a / 2) (b / 2) * 2 + f (a % 2) (b % 2))
    (shr : (a b k : ℕ) → op a b / 2 ^ k ≡ op (a / 2 ^ k) (b / 2 ^ k)) where
  bit-op : (a b j : ℕ) → bit_at (op a b) j ≡ f (bit_at a j) (bit_at b j)
  bit-op a b j =
      ap (λ (x : ℕ). x % 2) (shr a b j ∙ step (a / 2 ^ j) (b / 2 ^ j))
      ∙ digits_mod (op (a / 2 ^ j / 2) (b / 2 ^ j / 2)) (below (bit_at a j) (bit_at b j) (bit-lt a j) (bit-lt b j))

pub min-lt : (x y : ℕ) → x < 2 → y < 2 → min x y < 2
min-lt x y p q = omega arith

pub max-lt : (x y : ℕ) → x < 2 → y < 2 → max x y < 2
max-lt x y p q = omega arith

-- differ of two digits
pub differ-lt : (x y : ℕ) → x < 2 → y < 2 → differ x y < 2
differ-lt zero y p q = q
differ-lt (suc x) zero p q = p
differ-lt (suc x) (suc y) p q = differ-lt x y (omega arith) (omega arith)

pub bit-and : (a b j : ℕ) → bit_at (bit_and a b) j ≡ min (bit_at a j) (bit_at b j)
bit-and = bit-op bit_and min min-lt and_step and_shr

pub bit-or : (a b j : ℕ) → bit_at (bit_or a b) j ≡ max (bit_at a j) (bit_at b j)
bit-or = bit-op bit_or max max-lt or_step or_shr

pub bit-xor : (a b j : ℕ) → bit_at (bit_xor a b) j ≡ differ (bit_at a j) (bit_at b j)
bit-xor = bit-op bit_xor differ differ-lt xor_step xor_shr

-- n + k ones without the k lowest are n ones
pub ones_shr : (n k : ℕ) → (2 ^ (n + k) - 1) / 2 ^ k ≡ 2 ^ n - 1
ones_shr n k = ap (λ (x : ℕ). x / 2 ^ k) (ones_split n k) ∙ digits_div (2 ^ n - 1) (ones_lt k)

-- the k low digits set
pub bit-ones : (k j : ℕ) → j < k → bit_at (2 ^ k - 1) j ≡ 1
bit-ones zero j l = absurd (not-suc-le-zero l)
bit-ones (suc k) zero l = bit-zero (2 ^ suc k - 1) ∙ rw pow-suc (omega (arith, pow_pos k))
bit-ones (suc k) (suc j) l =
    bit-suc (2 ^ suc k - 1) j ∙ ap (λ (x : ℕ). bit_at x j) (rw pow-suc (omega (arith, pow_pos k))) ∙ bit-ones k j (le_of_suc-le-suc l)

-- `!a` of k digits is `a ^ ones`
pub not-xor : (k a : ℕ) → a < 2 ^ k → (2 ^ k - 1) - a ≡ bit_xor a (2 ^ k - 1)
not-xor k a h = omega (arith, xor_add_and a (2 ^ k - 1), and_mask a k, mod-eq_of_lt h)

differ-one : (x : ℕ) → x < 2 → differ x 1 ≡ 1 - x
differ-one zero h = refl
differ-one (suc zero) h = refl
differ-one (suc (suc x)) h = absurd (omega arith)

pub bit_not : (k a j : ℕ) → a < 2 ^ k → j < k → bit_at ((2 ^ k - 1) - a) j ≡ 1 - bit_at a j
bit_not k a j h l =
    ap (λ (x : ℕ). bit_at x j) (not-xor k a h) ∙ bit-xor a (2 ^ k - 1) j
    ∙ ap (differ (bit_at a j)) (bit-ones k j l) ∙ differ-one (bit_at a j) (bit-lt a j)

pub bit-shr : (a k j : ℕ) → bit_at (a / 2 ^ k) j ≡ bit_at a (k + j)
bit-shr a k j = ap (λ (x : ℕ). x % 2) (shr-shr a k j)

-- the digits of a * 2 ^ k: those of a from k on, and 0 below
pub bit-shl-high : (a k j : ℕ) → bit_at (a * 2 ^ k) (k + j) ≡ bit_at a j
bit-shl-high a k j = sym (bit-shr (a * 2 ^ k) k j) ∙ ap (λ (x : ℕ). bit_at x j) (shl-shr a k)

pub bit-above : (n k j : ℕ) → n < 2 ^ k → k ≤ j → bit_at n j ≡ 0
bit-above n k j h l = ap (λ (x : ℕ). x % 2) (div-eq_of_lt (lt_of_lt_of_le h (pow_mono l)))

-- the k low digits of a number
pub bit-mod : (n k j : ℕ) → j < k → bit_at (n % 2 ^ k) j ≡ bit_at n j
bit-mod n k j l =
    let e : (k - j - 1 + 1) + j ≡ k = omega arith in
    ap (λ (x : ℕ). n % 2 ^ x / 2 ^ j % 2) (sym e) ∙ ap (λ (x : ℕ). x % 2) (field n (k - j - 1 + 1) j) ∙ mod-mod-pow (n / 2 ^ j) (k - j - 1) 1

pub bit-mod-above : (n k j : ℕ) → k ≤ j → bit_at (n % 2 ^ k) j ≡ 0
bit-mod-above n k j l = bit-above (n % 2 ^ k) k j (mod-lt n (pow_pos k)) l

pub bit-shl-low : (a k j : ℕ) → j < k → bit_at (a * 2 ^ k) j ≡ 0
bit-shl-low a k j l =
    let m : ℕ = k - j - 1 in
    let e : (m + 1) + j ≡ k = omega arith in
    ap (λ (x : ℕ). a * 2 ^ x / 2 ^ j % 2) (sym e)
    ∙ ap (λ (x : ℕ). a * x / 2 ^ j % 2) (pow-add 2 (m + 1) j)
    ∙ ap (λ (x : ℕ). x / 2 ^ j % 2) (sym (mul_assoc a (2 ^ (m + 1)) (2 ^ j)))
    ∙ ap (λ (x : ℕ). x % 2) (shl-shr (a * 2 ^ (m + 1)) j)
    ∙ ap (λ (x : ℕ). a * x % 2) (pow-add 2 m 1)
    ∙ ap (λ (x : ℕ). x % 2) (sym (mul_assoc a (2 ^ m) 2))
    ∙ mul-mod_left (a * 2 ^ m) 2

pub bit-of-zero : (j : ℕ) → bit_at 0 j ≡ 0
bit-of-zero j = bit-above 0 0 j (zero-lt-suc 0) zero-le
