-- The characters of a literal's value, and its base.
--     kind                                        an x, a z, or neither
--     radix-bits, radix-decimal, radix-range      the radix is 2 to the bits of a digit, for d 10, and from 2 to 16
--     digit-cases, decimal_digit                  what a digit of a base is; one of a decimal is no x and no z
--     value-cases, value-some, value-readable     what a value is; it has a character, and each is read
--     run-digits, lone-digits                     a value without its underscores
--     leading_at                                  the leading bit goes by the first character
use mathlib.Core.Path.{◌≡◌, refl, sym, ap, ◌∙◌, subst}
use mathlib.Core.Bool.{Bool, true, false, not, ◌&&◌, ◌||◌, cond, true≢false, false≢true}
use mathlib.Core.Logic.{◌⊎◌, inl, inr, ⊎_elim}
use mathlib.Core.List.{List, [], ◌∷◌}
use Prim.Native.Nat.{ℕ, ◌^◌, ◌≤◌, ◌<◌}
use native.Mathlib.Omega.{arith}
use borrow.Author.Tests.{eqb-true, ltb-true, not-true}
use lib.Dec.{eqb, ltb}
use lib.ListN.{length, get_or, drop, length-drop}
use lib.Seq.{drop-cons}
use Rattle.bit.proofs.Tests.{and-true}
use Rattle.literal_words.specs.Digits.{is_x, is_z, is_unknown, is_underscore, is_b, is_o, is_d, digit_number, radix, digit_width, digits, leading}
use Rattle.literal_words.specs.Digits.{is_digit_of, each, is_run, is_lone, is_value}
use Rattle.literal_words.specs.Passes.{readable}

or_cases : (a b : Bool) → (a || b) ≡ true → (a ≡ true) ⊎ (b ≡ true)
or_cases true b h = inl refl
or_cases false b h = inr h

or_right : (a b : Bool) → b ≡ true → (a || b) ≡ true
or_right true b h = refl
or_right false b h = h

-- ---- x and z

pub data Kind (c : ℕ) : Type 0 where
  an-x : is_x c ≡ true → is_z c ≡ false → is_underscore c ≡ false → digit_number c ≡ 16 → Kind c
  a_z : is_x c ≡ false → is_z c ≡ true → is_underscore c ≡ false → digit_number c ≡ 16 → Kind c
  known : is_x c ≡ false → is_z c ≡ false → Kind c

pub kind : (c : ℕ) → Kind c
unfolding digit_number
kind c = go (is_x c) refl (is_z c) refl
  where
    same : (n : ℕ) → Kind n → eqb c n ≡ true → Kind c
    same n k e = subst Kind (sym (eqb-true c n e)) k

    go : (x : Bool) → is_x c ≡ x → (z : Bool) → is_z c ≡ z → Kind c
    go true e z f = ⊎_elim (same 120 (an-x refl refl refl refl)) (same 88 (an-x refl refl refl refl)) (or_cases (eqb c 120) (eqb c 88) e)
    go false e true f =
        ⊎_elim
        (same 122 (a_z refl refl refl refl))
        (λ g. ⊎_elim (same 90 (a_z refl refl refl refl)) (same 63 (a_z refl refl refl refl)) (or_cases (eqb c 90) (eqb c 63) g))
        (or_cases (eqb c 122) (eqb c 90 || eqb c 63) f)
    go false e false f = known e f

-- ---- bases

pub radix-bits : (base : ℕ) → is_d base ≡ false → radix base ≡ 2 ^ digit_width base
unfolding radix digit_width
radix-bits base h = rw h (go (is_b base) (is_o base))
  where
    go : (b o : Bool) → cond b 2 (cond o 8 16) ≡ 2 ^ cond b 1 (cond o 3 4)
    go true o = refl
    go false true = refl
    go false false = refl

pub radix-decimal : (base : ℕ) → is_d base ≡ true → radix base ≡ 10
unfolding radix
radix-decimal base h =
    ⊎_elim (λ e. ap radix (eqb-true base 100 e)) (λ e. ap radix (eqb-true base 68 e)) (or_cases (eqb base 100) (eqb base 68) h)

pub radix-range : (base : ℕ) → (2 ≤ radix base) × (radix base ≤ 16)
unfolding radix
radix-range base = go (is_b base) (is_o base) (is_d base)
  where
    go : (b o d : Bool) → (2 ≤ cond b 2 (cond o 8 (cond d 10 16))) × (cond b 2 (cond o 8 (cond d 10 16)) ≤ 16)
    go true o d = omega arith
    go false true d = omega arith
    go false false true = omega arith
    go false false false = omega arith

pub digit-cases : (base c : ℕ) → is_digit_of base c ≡ true → (digit_number c < radix base) ⊎ ((is_d base ≡ false) × (is_unknown c ≡ true))
unfolding is_digit_of
digit-cases base c h =
    ⊎_elim (λ l. inl (ltb-true (digit_number c) (radix base) l))
    (λ u. let k = and-true (not (is_d base)) (is_unknown c) u in inr (not-true (is_d base) k.0, k.1))
    (or_cases (ltb (digit_number c) (radix base)) (not (is_d base) && is_unknown c) h)

pub decimal_digit : (base c : ℕ) → is_d base ≡ true → is_digit_of base c ≡ true → (is_x c ≡ false) × (is_z c ≡ false)
decimal_digit base c h t = ⊎_elim (go (kind c)) (λ u. absurd (true≢false (sym h ∙ u.0))) (digit-cases base c t)
  where
    go : Kind c → digit_number c < radix base → (is_x c ≡ false) × (is_z c ≡ false)
    go (an-x _ _ _ e) l = absurd (omega (arith, radix-range base))
    go (a_z _ _ _ e) l = absurd (omega (arith, radix-range base))
    go (known e f) l = (e, f)

-- ---- values

pub value-cases : (base : ℕ) (t : List ℕ) → is_value base t ≡ true → (is_run (is_digit_of base) t ≡ true) ⊎ ((is_d base ≡ true) × (is_lone t ≡ true))
unfolding is_value
value-cases base t h = ⊎_elim inl (λ l. inr (and-true (is_d base) (is_lone t) l)) (or_cases (is_run (is_digit_of base) t) (is_d base && is_lone t) h)

some : (base : ℕ) (t : List ℕ) → is_value base t ≡ true → 0 < length t
unfolding is_run is_lone
some base [] h = absurd (⊎_elim false≢true (λ l. false≢true l.1) (value-cases base [] h))
some base (c ∷ t) h = omega arith

pub value-some : (base : ℕ) (s : List ℕ) (from : ℕ) → is_value base (drop from s) ≡ true → from < length s
value-some base s from h = omega (arith, some base (drop from s) h, length-drop from s)

pub leading_at : (s : List ℕ) (from : ℕ) → from < length s → leading (get_or s from 0 ∷ []) ≡ leading (drop from s)
unfolding leading
leading_at s from l = rw (drop-cons s from 0 l)

pub each-weaker : (p q : ℕ → Bool) → ((c : ℕ) → p c ≡ true → q c ≡ true) → (t : List ℕ) → each p t ≡ true → each q t ≡ true
unfolding each
each-weaker p q h [] e = refl
each-weaker p q h (c ∷ t) e =
    let k = and-true (p c) (each p t) e in
    rw (h c k.0) (each-weaker p q h t k.1)

run-each : (p : ℕ → Bool) (t : List ℕ) → is_run p t ≡ true → each (λ c. p c || is_underscore c) t ≡ true
unfolding each is_run
run-each p [] h = absurd (false≢true h)
run-each p (c ∷ t) h =
    let k = and-true (p c) (each (λ e. p e || is_underscore e) t) h in
    rw k.0 k.1

lone-run : (t : List ℕ) → is_lone t ≡ true → is_run is_unknown t ≡ true
unfolding is_run is_lone
lone-run [] h = h
lone-run (c ∷ t) h =
    let k = and-true (is_unknown c) (each is_underscore t) h in
    rw k.0 (each-weaker is_underscore (λ e. is_unknown e || is_underscore e) (λ e. or_right (is_unknown e) (is_underscore e)) t k.1)

digit_or : (a n u s : Bool) → ((a || (n && u)) || s) ≡ true → (a || (u || s)) ≡ true
digit_or true n u s h = refl
digit_or false n true s h = refl
digit_or false true false s h = h
digit_or false false false s h = h

pub value-readable : (base : ℕ) (t : List ℕ) → is_value base t ≡ true → readable (radix base) t ≡ true
unfolding is_digit_of readable
value-readable base t h =
    let q : ℕ → Bool = λ c. ltb (digit_number c) (radix base) || (is_unknown c || is_underscore c) in
    ⊎_elim
    (λ r. each-weaker (λ c. is_digit_of base c || is_underscore c) q
    (λ c. digit_or (ltb (digit_number c) (radix base)) (not (is_d base)) (is_unknown c) (is_underscore c)) t (run-each (is_digit_of base) t r))
    (λ l. each-weaker (λ c. is_unknown c || is_underscore c) q
    (λ c. or_right (ltb (digit_number c) (radix base)) (is_unknown c || is_underscore c)) t (run-each is_unknown t (lone-run t l.1)))
    (value-cases base t h)

-- ---- without the underscores

digits-each : (p : ℕ → Bool) (t : List ℕ) → each (λ c. p c || is_underscore c) t ≡ true → each p (digits t) ≡ true
unfolding each digits
digits-each p [] h = refl
digits-each p (c ∷ t) h =
    let k = and-true (p c || is_underscore c) (each (λ e. p e || is_underscore e) t) h in
    go (is_underscore c) refl k.0 (digits-each p t k.1)
  where
    go : (u : Bool) → is_underscore c ≡ u → (p c || is_underscore c) ≡ true → each p (digits t) ≡ true → each p (digits (c ∷ t)) ≡ true
    go true e k r = rw e r
    go false e k r = rw e (⊎_elim (λ q. rw q r) (λ q. absurd (true≢false (sym q ∙ e))) (or_cases (p c) (is_underscore c) k))

pub run-digits : (p : ℕ → Bool) (t : List ℕ) → is_run p t ≡ true → each p (digits t) ≡ true
run-digits p t h = digits-each p t (run-each p t h)

pub lone-digits : (t : List ℕ) → each is_underscore t ≡ true → digits t ≡ []
unfolding each digits
lone-digits [] h = refl
lone-digits (c ∷ t) h =
    let k = and-true (is_underscore c) (each is_underscore t) h in
    rw k.0 (lone-digits t k.1)
