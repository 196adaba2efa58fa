-- The characters of a literal that is written, and what the reader finds in them.
--     run_of        characters that all pass a test, of which there is one, are a run
--     no-underscore     a text without underscores is its own digits
--     decimal-digits, decimal-some, decimal-first, decimal-again     a number in decimal: its characters, the first of them, its number
--     bits-pass, bits-again     the bits of a vector: their characters, and the bits that these stand for
use mathlib.Core.Path.{◌≡◌, refl, sym, ap, ap₂, ◌∙◌}
use mathlib.Core.Logic.{⊎_elim}
use mathlib.Core.Bool.{Bool, true, not, ◌||◌}
use mathlib.Core.List.{List, [], ◌∷◌, ◌++◌, reverse, reverse-cons}
use Prim.Native.Nat.{ℕ, zero, suc, ◌+◌, ◌*◌, ◌/◌, ◌%◌, ◌≤◌, ◌<◌}
use native.Mathlib.Omega.{arith}
use borrow.Author.Tests.{le-leb, ne_eqb, not-true}
use lib.ListN.{length, get_or, get_or-append}
use Rattle.bit.specs.declared.LogicBit.{LogicBit}
use Rattle.bit.specs.declared.LogicBit.TheVariants.{Zero, One, X, Z}
use Rattle.bit.proofs.Tests.{and-true}
use Rattle.words.specs.Vector.{tabulate}
use Rattle.words.proofs.Digits.{lt-or-ge}
use Rattle.text.specs.Read.{is_digit}
use Rattle.text.specs.Write.{texts, decimal, bit_byte, bit_text}
use Rattle.text.proofs.Decimal.{decimal_digit, decimal-split, digit-bounds}
use Rattle.lines.proofs.Put.{length-decimal}
use Rattle.literal_words.specs.Digits.{is_underscore, digit_number, digits, number_by, decimal_number, digit_bit, digits_bits, each, is_run}
use Rattle.literal_words.proofs.Characters.{each-weaker}

-- ---- tests

each_append : (p : ℕ → Bool) (s t : List ℕ) → each p s ≡ true → each p t ≡ true → each p (s ++ t) ≡ true
unfolding each
each_append p [] t h k = k
each_append p (c ∷ s) t h k = let a = and-true (p c) (each p s) h in rw a.0 (each_append p s t a.1 k)

pub run_of : (p : ℕ → Bool) (t : List ℕ) → each p t ≡ true → 0 < length t → is_run p t ≡ true
unfolding each is_run
run_of p [] h l = absurd (omega arith)
run_of p (c ∷ t) h l = let a = and-true (p c) (each p t) h in rw a.0 (each-weaker p (λ e. p e || is_underscore e) (λ e k. rw k) t a.1)

pub no-underscore : (t : List ℕ) → each (λ c. not (is_underscore c)) t ≡ true → digits t ≡ t
unfolding each digits
no-underscore [] h = refl
no-underscore (c ∷ t) h =
    let a = and-true (not (is_underscore c)) (each (λ e. not (is_underscore e)) t) h in
    rw (not-true (is_underscore c) a.0) (ap (λ (u : List ℕ). c ∷ u) (no-underscore t a.1))

-- ---- a number in decimal

-- a digit, or a number of one digit less
by_digits : (P : ℕ → Type 0) → ((n : ℕ) → n < 10 → P n) → ((n : ℕ) → 10 ≤ n → P (n / 10) → P n) → (n : ℕ) → P n
by_digits P one more n = go (suc n) n (omega arith)
  where
    go : (f n : ℕ) → n < f → P n
    go zero n h = absurd (omega arith)
    go (suc f) n h = ⊎_elim (one n) (λ l. more n l (go f (n / 10) (omega arith))) (lt-or-ge n 10)

is-digit : (d : ℕ) → d < 10 → is_digit (48 + d) ≡ true
is-digit d h =
    let low : 48 ≤ 48 + d = omega arith in
    let high : 48 + d ≤ 57 = omega arith in
    rw (le-leb _ _ low, le-leb _ _ high)

digit-again : (d : ℕ) → d < 10 → digit_number (48 + d) ≡ d
unfolding digit_number
digit-again d h = rw (is-digit d h) (omega arith)

pub decimal-digits : (n : ℕ) → each is_digit (decimal n) ≡ true
unfolding each
decimal-digits =
    by_digits (λ n. each is_digit (decimal n) ≡ true)
    (λ n h. rw (decimal_digit n h, is-digit n h))
    (λ n h k. rw (decimal-split n h) (each_append is_digit (decimal (n / 10)) ((48 + n % 10) ∷ []) k (rw (is-digit (n % 10) (omega arith)))))

pub decimal-some : (n : ℕ) → 0 < length (decimal n)
decimal-some n = ⊎_elim (λ h. omega (arith, ap length (decimal_digit n h))) (λ h. omega (arith, length-decimal n h)) (lt-or-ge n 10)

pub decimal-first : (n : ℕ) → 0 < n → 48 < get_or (decimal n) 0 0
decimal-first =
    by_digits (λ n. 0 < n → 48 < get_or (decimal n) 0 0)
    (λ n h p. rw (decimal_digit n h) (omega arith))
    (λ n h k p. rw (decimal-split n h, get_or-append (decimal (n / 10)) ((48 + n % 10) ∷ []) 0 0 (decimal-some (n / 10))) (k (omega arith)))

number_append : (r : ℕ) (f : ℕ → ℕ) (n : ℕ) (s t : List ℕ) → number_by r f n (s ++ t) ≡ number_by r f (number_by r f n s) t
unfolding number_by
number_append r f n [] t = refl
number_append r f n (c ∷ s) t = number_append r f (n * r + f c) s t

number-again : (n : ℕ) → number_by 10 digit_number 0 (decimal n) ≡ n
unfolding number_by
number-again =
    by_digits (λ n. number_by 10 digit_number 0 (decimal n) ≡ n)
    (λ n h. rw (decimal_digit n h, digit-again n h) (omega arith))
    (λ n h k. rw (decimal-split n h, number_append 10 digit_number 0 (decimal (n / 10)) ((48 + n % 10) ∷ []), k, digit-again (n % 10) (omega arith)) (omega arith))

pub decimal-again : (n : ℕ) → decimal_number (decimal n) ≡ n
decimal-again n = ap (number_by 10 digit_number 0) (no-underscore (decimal n) (each-weaker is_digit (λ c. not (is_underscore c)) plain (decimal n) (decimal-digits n))) ∙ number-again n
  where
    plain : (c : ℕ) → is_digit c ≡ true → not (is_underscore c) ≡ true
    plain c h =
        let high = (digit-bounds c h).1 in
        let other : c ≡ 95 → ⊥ = omega arith in
        rw (ne_eqb _ _ other)

-- ---- the bits of a vector

pub bits-pass : (p : ℕ → Bool) → ((b : LogicBit) → p (bit_byte b) ≡ true) → (bs : List LogicBit) → each p (texts bit_text bs) ≡ true
unfolding each texts
bits-pass p f [] = refl
bits-pass p f (b ∷ bs) = rw (f b) (bits-pass p f bs)

bit-again : (b : LogicBit) → digit_bit (bit_byte b) 0 ≡ b
unfolding digit_bit digit_number
bit-again Zero = refl
bit-again One = refl
bit-again X = refl
bit-again Z = refl

pub bits-again : (bs : List LogicBit) → digits_bits 1 (texts bit_text bs) ≡ reverse bs
unfolding digits_bits texts tabulate
bits-again [] = refl
bits-again (b ∷ bs) = ap₂ (λ (l : List LogicBit) (x : LogicBit). l ++ (x ∷ [])) (bits-again bs) (bit-again b) ∙ sym (reverse-cons b bs)
