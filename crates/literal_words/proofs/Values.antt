-- The planes of a literal's value. A plane holds a number, which begins as ones where the leading bit stores a one and takes in one digit after
-- the other; its bits below the width are those of the value. The laws are over the plane's digit d, the value digit or the unknown digit.
--     times-bit, ones-times, low_bit, high_bit, nines     the bits of numbers
--     number-times                          a factor of each digit is one of the number
--     words-length, words-bit               the lowest words of a number hold its bits
--     by_value, by-unknown                  what a character adds to either plane, by the plane's digit
--     plane-words, start, masked-words      a vector's plane as a number, that of one bit throughout, and a number cleared above the width
--     digit_lt, digit-bit, next, reads      a number that takes in a digit, and digits, of n bits each
--     by_bits, by-lone, by-run              a value in the bases b, o and h, a decimal x or z, any other decimal
--     filled, planes-filled                 a plane, and both, that have taken in all digits and are cleared above the width
use mathlib.Core.Path.{◌≡◌, refl, sym, ap, ap₂, ◌∙◌}
use mathlib.Core.Bool.{Bool, true, false, ◌||◌, cond, false≢true}
use mathlib.Core.Logic.{⊎_elim}
use mathlib.Core.List.{List, [], ◌∷◌, ◌++◌, append_assoc, append-nil}
use Prim.Native.Nat.{ℕ, zero, suc, ◌+◌, ◌-◌, ◌*◌, ◌/◌, ◌%◌, ◌^◌, ◌≤◌, ◌<◌}
use native.Mathlib.Nat.{mod-lt, lt_of_le_of_lt, zero-mul, mul-zero, mul-one, one-mul, div-add-mod'}
use native.Mathlib.Omega.{arith}
use lib.ListN.{length, get_or, get_or-append}
use lib.Pow.{pow_pos, ones_lt, suc_ones, low, high}
use lib.Seq.{get_or-append-add}
use Rattle.bit.specs.declared.LogicBit.{LogicBit}
use Rattle.bit.specs.declared.LogicBit.TheVariants.{Zero, One, X, Z}
use Rattle.bit.proofs.Tests.{and-true}
use Rattle.words.specs.Vector.{tabulate, at, bit_at, pack}
use Rattle.words.specs.Planes.{value_digit, unknown_digit, stored, word_count, plane_bit, plane_digits, word_of, plane_of, cleared, masked, Planes, lent, planes_of}
use Rattle.words.proofs.Digits.{bit-lt, bit-shr, bit-mod, bit-ones, bit-above, bit-of-zero, pack-ext, pack-cong, lt-or-ge}
use Rattle.words.proofs.Planes.{length-tabulate, get_d_tabulate, get_d-tabulate-out, value-digit-lt, unknown-digit-lt}
use Rattle.literal_words.specs.Digits.{is_x, is_z, is_unknown, is_underscore, is_d, digit_number, radix, digit_width, digits, number_by, decimal_number}
use Rattle.literal_words.specs.Digits.{digit_bit, digits_bits, leading, decimal_bits, value_bits, is_digit_of, each, is_run, is_lone, is_value}
use Rattle.literal_words.specs.Passes.{words_of, value_number, unknown_number, Taken}
use Rattle.literal_words.proofs.Passes.{word}
use Rattle.literal_words.proofs.Characters.{Kind, an-x, a_z, known, kind, radix-bits, radix-decimal, radix-range}
use Rattle.literal_words.proofs.Characters.{digit-cases, decimal_digit, value-cases, run-digits, lone-digits}

-- ---- bits of numbers, e being 0 or 1

times-bit : (m e i : ℕ) → e < 2 → bit_at (m * e) i ≡ bit_at m i * e
times-bit m zero i h = rw (mul-zero m, mul-zero (bit_at m i)) (bit-of-zero i)
times-bit m (suc zero) i h = rw (mul-one m, mul-one (bit_at m i))
times-bit m (suc (suc e)) i h = absurd (omega arith)

times-le : (m e : ℕ) → e < 2 → m * e ≤ m
times-le m zero h = omega arith
times-le m (suc zero) h = omega arith
times-le m (suc (suc e)) h = absurd (omega arith)

ones-times : (k e i : ℕ) → e < 2 → i < k → bit_at ((2 ^ k - 1) * e) i ≡ e
ones-times k e i h l = times-bit (2 ^ k - 1) e i h ∙ ap (λ (x : ℕ). x * e) (bit-ones k i l) ∙ one-mul e

-- the bits of n * 2 ^ k + x
low_bit : (n k x i : ℕ) → x < 2 ^ k → i < k → bit_at (n * 2 ^ k + x) i ≡ bit_at x i
low_bit n k x i h l = sym (bit-mod (n * 2 ^ k + x) k i l) ∙ ap (λ (y : ℕ). bit_at y i) (low n k h)

high_bit : (n k x i : ℕ) → x < 2 ^ k → bit_at (n * 2 ^ k + x) (k + i) ≡ bit_at n i
high_bit n k x i h = sym (bit-shr (n * 2 ^ k + x) k i) ∙ ap (λ (y : ℕ). bit_at y i) (high n k h)

-- (2 ^ w - 1) * 10 + 9 is 9 * 2 ^ w + (2 ^ w - 1)
nines : (w e i : ℕ) → e < 2 → i < w → bit_at ((2 ^ w - 1) * e * 10 + 9 * e) i ≡ e
nines w e i h l =
    ap (λ (x : ℕ). bit_at x i) (again (2 ^ w - 1) ∙ ap (λ (x : ℕ). (9 * x + (2 ^ w - 1)) * e) (suc_ones w))
    ∙ times-bit (9 * 2 ^ w + (2 ^ w - 1)) e i h ∙ ap (λ (x : ℕ). x * e) (low_bit 9 w (2 ^ w - 1) i (ones_lt w) l ∙ bit-ones w i l) ∙ one-mul e
  where
    again : (m : ℕ) → m * e * 10 + 9 * e ≡ (9 * suc m + m) * e
    again m = omega arith

-- a factor of each digit is one of the number
number-times : (r e : ℕ) (f g : ℕ → ℕ) (p : ℕ → Bool) → ((c : ℕ) → p c ≡ true → f c ≡ g c * e) → (ds : List ℕ) → each p ds ≡ true
    → (m : ℕ) → number_by r f (m * e) ds ≡ number_by r g m ds * e
unfolding number_by each
number-times r e f g p h [] t m = refl
number-times r e f g p h (c ∷ ds) t m =
    let k = and-true (p c) (each p ds) t in
    let v : f c ≡ g c * e = h c k.0 in
    let q : m * e * r + f c ≡ (m * r + g c) * e = omega arith in
    ap (λ (x : ℕ). number_by r f x ds) q ∙ number-times r e f g p h ds k.1 (m * r + g c)

-- ---- words

words-length : (m n : ℕ) → length (words_of m n) ≡ m
unfolding words_of
words-length m n = length-tabulate m (word n)

words-bit : (m n i : ℕ) → i < m * 64 → plane_bit (words_of m n) i ≡ bit_at n i
unfolding words_of
words-bit m n i l =
    ap (λ (x : ℕ). bit_at x (i % 64)) (get_d_tabulate m (word n) (i / 64) 0 (omega arith))
    ∙ bit-mod (n / 2 ^ (i / 64 * 64)) 64 (i % 64) (omega arith) ∙ bit-shr n (i / 64 * 64) (i % 64) ∙ ap (bit_at n) (div-add-mod' i 64)

-- ---- characters

-- what a character adds, in base r, to the plane of the digit d
unfoldable number_in : (LogicBit → ℕ) → ℕ → ℕ → ℕ
number_in d r c = cond (is_x c) ((r - 1) * d X) (cond (is_z c) ((r - 1) * d Z) (digit_number c * d One))

by_value : (r c : ℕ) → value_number r c ≡ number_in value_digit r c
unfolding value_number number_in
by_value r c = go (kind c)
  where
    go : Kind c → value_number r c ≡ number_in value_digit r c
    go (an-x e f _ _) = rw (e, f) (sym (mul-zero (r - 1)))
    go (a_z e f _ _) = rw (e, f) (sym (mul-one (r - 1)))
    go (known e f) = rw (e, f) (sym (mul-one (digit_number c)))

by-unknown : (r c : ℕ) → unknown_number r c ≡ number_in unknown_digit r c
unfolding unknown_number number_in
by-unknown r c = go (kind c)
  where
    go : Kind c → unknown_number r c ≡ number_in unknown_digit r c
    go (an-x e f _ _) = rw e (sym (mul-one (r - 1)))
    go (a_z e f _ _) = rw (e, f) (sym (mul-one (r - 1)))
    go (known e f) = rw (e, f) (sym (mul-zero (digit_number c)))

-- ---- planes

module _ (d : LogicBit → ℕ) (below : (b : LogicBit) → d b < 2) (none : d Zero ≡ 0) where
  plane-words : (w : ℕ) (g : ℕ → LogicBit) (n : ℕ) → n < 2 ^ w → ((i : ℕ) → i < w → bit_at n i ≡ d (g i))
      → plane_of d (tabulate w g) ≡ words_of (word_count w) n
  unfolding words_of
  plane-words w g n h e =
      ap₂ (λ (m : ℕ) (f : ℕ → ℕ). tabulate m f) (ap word_count (length-tabulate w g)) (λ i k. sym (each_word k) i)
    where
      each_word : (k : ℕ) → word n k ≡ word_of d (at (tabulate w g)) k
      each_word k =
          pack-ext 64 _ _ (mod-lt (n / 2 ^ (k * 64)) (pow_pos 64))
          (λ j l. bit-mod (n / 2 ^ (k * 64)) 64 j l ∙ bit-shr n (k * 64) j
          ∙ ⊎_elim
          (λ m. e (k * 64 + j) m ∙ ap d (sym (get_d_tabulate w g (k * 64 + j) Zero m)))
          (λ m. bit-above n w (k * 64 + j) h m ∙ sym (ap d (get_d-tabulate-out w g (k * 64 + j) Zero m) ∙ none))
          (lt-or-ge (k * 64 + j) w))

  start : (w : ℕ) (b : LogicBit) → plane_of d (tabulate w (λ i. b)) ≡ words_of (word_count w) ((2 ^ w - 1) * d b)
  start w b =
      plane-words w (λ i. b) ((2 ^ w - 1) * d b) (lt_of_le_of_lt (times-le (2 ^ w - 1) (d b) (below b)) (ones_lt w))
      (λ i l. ones-times w (d b) i (below b) l)

  cleared-words : (w : ℕ) (g : ℕ → LogicBit) (n : ℕ) → ((i : ℕ) → i < w → bit_at n i ≡ d (g i))
      → cleared w (words_of (word_count w) n) ≡ plane_of d (tabulate w g)
  cleared-words w g n e =
      ap₂ (λ (m : ℕ) (f : ℕ → ℕ). tabulate m f) (words-length (word_count w) n ∙ sym (ap word_count (length-tabulate w g))) (λ i k. each_word k i)
    where
      each_word : (k : ℕ) → pack 64 (λ j. get_or (plane_digits w (words_of (word_count w) n)) (k * 64 + j) 0) ≡ word_of d (at (tabulate w g)) k
      each_word k =
          pack-cong 64 _ _
          (λ j _. ⊎_elim
          (λ m. get_d_tabulate w (plane_bit (words_of (word_count w) n)) (k * 64 + j) 0 m ∙ words-bit (word_count w) n (k * 64 + j) (omega arith)
          ∙ e (k * 64 + j) m ∙ ap d (sym (get_d_tabulate w g (k * 64 + j) Zero m)))
          (λ m. get_d-tabulate-out w (plane_bit (words_of (word_count w) n)) (k * 64 + j) 0 m
          ∙ sym (ap d (get_d-tabulate-out w g (k * 64 + j) Zero m) ∙ none))
          (lt-or-ge (k * 64 + j) w))

  masked-words : (w : ℕ) (g : ℕ → LogicBit) (n : ℕ) → 0 < w → ((i : ℕ) → i < w → bit_at n i ≡ d (g i))
      → masked w (words_of (word_count w) n) ≡ plane_of d (tabulate w g)
  masked-words zero g n h e = absurd (omega arith)
  masked-words (suc w) g n h e = cleared-words (suc w) g n e

  -- the digit of a bit that is known
  stored-times : (v : ℕ) → v < 2 → v * d One ≡ d (stored v 0)
  stored-times zero h = zero-mul (d One) ∙ sym none
  stored-times (suc zero) h = one-mul (d One)
  stored-times (suc (suc v)) h = absurd (omega arith)

  digit_lt : (base c : ℕ) → is_digit_of base c ≡ true → number_in d (radix base) c < radix base
  unfolding number_in
  digit_lt base c t = go (kind c)
    where
      least : (b : LogicBit) → (radix base - 1) * d b < radix base
      least b = omega (arith, times-le (radix base - 1) (d b) (below b), radix-range base)

      go : Kind c → number_in d (radix base) c < radix base
      go (an-x e f _ _) = rw e (least X)
      go (a_z e f _ _) = rw (e, f) (least Z)
      go (known e f) =
          rw (e, f)
          (⊎_elim (lt_of_le_of_lt (times-le (digit_number c) (d One) (below One))) (λ u. absurd (false≢true (rw (e, f) at u.1))) (digit-cases base c t))

  digit-bit : (n c i : ℕ) → i < n → bit_at (number_in d (2 ^ n) c) i ≡ d (digit_bit c i)
  unfolding number_in digit_bit
  digit-bit n c i l = go (kind c)
    where
      go : Kind c → bit_at (number_in d (2 ^ n) c) i ≡ d (digit_bit c i)
      go (an-x e f _ _) = rw e (ones-times n (d X) i (below X) l)
      go (a_z e f _ _) = rw (e, f) (ones-times n (d Z) i (below Z) l)
      go (known e f) = rw (e, f) (times-bit (digit_number c) (d One) i (below One) ∙ stored-times (bit_at (digit_number c) i) (bit-lt (digit_number c) i))

  -- digits of n bits each; the number before them has the bits bs and then b, below w
  module _ (n w : ℕ) (b : LogicBit) where
    abbrev Reads : ℕ → List LogicBit → Type 0
    Reads m bs = (i : ℕ) → i < w → bit_at m i ≡ d (get_or bs i b)

    next : (m c : ℕ) (bs : List LogicBit) → number_in d (2 ^ n) c < 2 ^ n → Reads m bs
        → Reads (m * 2 ^ n + number_in d (2 ^ n) c) (tabulate n (digit_bit c) ++ bs)
    next m c bs h e i l =
        ⊎_elim
        (λ k. low_bit m n (number_in d (2 ^ n) c) i h k ∙ digit-bit n c i k
        ∙ ap d (sym (get_or-append (tabulate n (digit_bit c)) bs b i (rw length-tabulate k) ∙ get_d_tabulate n (digit_bit c) i b k)))
        (λ k. let q : n + (i - n) ≡ i = omega arith in
        ap (bit_at (m * 2 ^ n + number_in d (2 ^ n) c)) (sym q) ∙ high_bit m n (number_in d (2 ^ n) c) (i - n) h ∙ e (i - n) (omega arith)
        ∙ ap d (sym (get_or-append-add (tabulate n (digit_bit c)) bs (i - n) b)
        ∙ ap (λ (j : ℕ). get_or (tabulate n (digit_bit c) ++ bs) j b) (ap (λ (x : ℕ). x + (i - n)) (length-tabulate n (digit_bit c)) ∙ q)))
        (lt-or-ge i n)

    reads : (p : ℕ → Bool) → ((c : ℕ) → p c ≡ true → number_in d (2 ^ n) c < 2 ^ n) → (ds : List ℕ) → each p ds ≡ true
        → (m : ℕ) (bs : List LogicBit) → Reads m bs → Reads (number_by (2 ^ n) (number_in d (2 ^ n)) m ds) (digits_bits n ds ++ bs)
    unfolding each number_by digits_bits
    reads p h [] t m bs e = e
    reads p h (c ∷ ds) t m bs e =
        let q = and-true (p c) (each p ds) t in
        rw append_assoc (reads p h ds q.1 (m * 2 ^ n + number_in d (2 ^ n) c) (tabulate n (digit_bit c) ++ bs) (next m c bs (h c q.0) e))

  -- ---- a value by its base

  -- its number, with ones beyond the digits where the leading bit stores a one
  abbrev taken : ℕ → ℕ → List ℕ → ℕ
  taken base w t = number_by (radix base) (number_in d (radix base)) ((2 ^ w - 1) * d (leading t)) (digits t)

  abbrev Filled : ℕ → ℕ → List ℕ → Type 0
  Filled base w t = masked w (words_of (word_count w) (taken base w t)) ≡ plane_of d (value_bits base w t)

  -- b, o, h
  by_bits : (base w : ℕ) (t : List ℕ) → is_d base ≡ false → is_run (is_digit_of base) t ≡ true → 0 < w → Filled base w t
  unfolding value_bits
  by_bits base w t h r l = masked-words w (λ i. get_or (digits_bits (digit_width base) (digits t)) i (leading t)) (taken base w t) l bits ∙ rw h
    where
      f : radix base ≡ 2 ^ digit_width base
      f = radix-bits base h

      bits : Reads (digit_width base) w (leading t) (taken base w t) (digits_bits (digit_width base) (digits t))
      bits =
          rw f
          (rw append-nil at
          (reads (digit_width base) w (leading t) (is_digit_of base) (λ c e. rw f at (digit_lt base c e)) (digits t)
          (run-digits (is_digit_of base) t r) ((2 ^ w - 1) * d (leading t)) []
          (λ i k. ones-times w (d (leading t)) i (below (leading t)) k)))

  -- d with x or z
  nine : (c : ℕ) (t : List ℕ) → is_unknown c ≡ true → Kind c → (is_underscore c ≡ false) × (number_in d 10 c ≡ 9 * d (leading (c ∷ t)))
  unfolding number_in leading
  nine c t u (an-x e f g _) = (g, rw e)
  nine c t u (a_z e f g _) = (g, rw (e, f))
  nine c t u (known e f) = absurd (false≢true (rw (e, f) at u))

  by-lone : (base w : ℕ) (t : List ℕ) → is_d base ≡ true → is_lone t ≡ true → 0 < w → Filled base w t
  unfolding is_lone digits number_by value_bits decimal_bits
  by-lone base w [] h r l = absurd (false≢true r)
  by-lone base w (c ∷ t) h r l =
      let k = and-true (is_unknown c) (each is_underscore t) r in
      let v = nine c t k.0 (kind c) in
      let b : LogicBit = leading (c ∷ t) in
      masked-words w (λ i. b) (taken base w (c ∷ t)) l
      (λ i m. rw (radix-decimal base h, v.0, lone-digits t k.1, v.1) (nines w (d b) i (below b) m))
      ∙ rw (h, k.0)

  -- d without
  by-run : (base w : ℕ) (t : List ℕ) → is_d base ≡ true → is_run (is_digit_of base) t ≡ true → 0 < w → Filled base w t
  unfolding is_run leading value_bits decimal_bits number_in
  by-run base w [] h r l = absurd (false≢true r)
  by-run base w (c ∷ t) h r l = masked-words w (λ i. stored (bit_at (m % 2 ^ w) i) 0) (taken base w (c ∷ t)) l bits ∙ rw (h, q.0, q.1)
    where
      m : ℕ
      m = decimal_number (c ∷ t)

      q : (is_x c ≡ false) × (is_z c ≡ false)
      q = decimal_digit base c h (and-true (is_digit_of base c) (each (λ e. is_digit_of base e || is_underscore e) t) r).0

      zeros : (2 ^ w - 1) * d (leading (c ∷ t)) ≡ 0 * d One
      zeros = rw (q.0, q.1, none) (omega arith)

      number : taken base w (c ∷ t) ≡ m * d One
      number =
          ap₂ (λ (r n : ℕ). number_by r (number_in d r) n (digits (c ∷ t))) (radix-decimal base h) zeros
          ∙ number-times 10 (d One) (number_in d 10) digit_number (is_digit_of base) (λ e p. let k = decimal_digit base e h p in rw (k.0, k.1))
          (digits (c ∷ t)) (run-digits (is_digit_of base) (c ∷ t) r) 0

      bits : (i : ℕ) → i < w → bit_at (taken base w (c ∷ t)) i ≡ d (stored (bit_at (m % 2 ^ w) i) 0)
      bits i k =
          ap (λ (x : ℕ). bit_at x i) number ∙ times-bit m (d One) i (below One) ∙ stored-times (bit_at m i) (bit-lt m i)
          ∙ ap (λ (x : ℕ). d (stored x 0)) (sym (bit-mod m w i k))

  by-base : (base w : ℕ) (t : List ℕ) → is_value base t ≡ true → 0 < w → Filled base w t
  by-base base w t h l = ⊎_elim (run (is_d base) refl) (λ r. by-lone base w t r.0 r.1 l) (value-cases base t h)
    where
      run : (z : Bool) → is_d base ≡ z → is_run (is_digit_of base) t ≡ true → Filled base w t
      run true e r = by-run base w t e r l
      run false e r = by_bits base w t e r l

  -- a plane that begins as the leading bit throughout, p, and has taken the digits, q
  filled : (base w : ℕ) (t p q : List ℕ) (f : ℕ → ℕ) → ((c : ℕ) → f c ≡ number_in d (radix base) c) → is_value base t ≡ true → 0 < w
      → p ≡ plane_of d (tabulate w (λ i. leading t)) → Taken (λ n. number_by (radix base) f n (digits t)) p q
      → masked w q ≡ plane_of d (value_bits base w t)
  filled base w t p q f same h l e go =
      let n : ℕ = (2 ^ w - 1) * d (leading t) in
      let long : length p ≡ word_count w = ap length (e ∙ start w (leading t)) ∙ words-length (word_count w) n in
      ap (masked w)
      (go n (e ∙ start w (leading t) ∙ ap (λ (m : ℕ). words_of m n) (sym long))
      ∙ ap₂ (λ (m : ℕ) (g : ℕ → ℕ). words_of m (number_by (radix base) g n (digits t))) long (λ i c. same c i))
      ∙ by-base base w t h l

pub planes-filled : (base w : ℕ) (t : List ℕ) (b : LogicBit) (p q : Planes) → is_value base t ≡ true → 0 < w
    → b ≡ leading t → p ≡ planes_of (tabulate w (λ i. b))
    → Taken (λ n. number_by (radix base) (value_number (radix base)) n (digits t)) p.value q.value
    → Taken (λ n. number_by (radix base) (unknown_number (radix base)) n (digits t)) p.unknown q.unknown
    → lent (masked w q.value) (masked w q.unknown) ≡ planes_of (value_bits base w t)
planes-filled base w t b p q h l e f v u =
    let g : p ≡ planes_of (tabulate w (λ i. leading t)) = f ∙ ap (λ (c : LogicBit). planes_of (tabulate w (λ i. c))) e in
    ap₂ lent
    (filled value_digit value-digit-lt refl base w t p.value q.value (value_number (radix base)) (by_value (radix base)) h l (λ i. (g i).value) v)
    (filled unknown_digit unknown-digit-lt refl base w t p.unknown q.unknown (unknown_number (radix base)) (by-unknown (radix base)) h l
    (λ i. (g i).unknown) u)
