-- Passes over the words of a number.
--     word-at                              word k of a plane that holds the lowest words of a number
--     carry-none, word-turn, carry-turn    word k of n * f + a and what is carried out of it, from word k of n and what is carried into it
--     half-small, halves                   a word times f by its halves of 32 bits
--     readable-parts                       the first character of a text that is read, and the others
--     goes_none, goes_over, goes-digit     an empty chunk, and one with an underscore or a digit more
--     has-number                           a character that is read, but for an underscore, is a digit, an x or a z
--     value-lt, unknown-lt                 a digit's numbers are below the base
use mathlib.Core.Path.{◌≡◌, refl, sym, ap, ◌∙◌}
use mathlib.Core.Bool.{Bool, true, false, ◌||◌, cond}
use mathlib.Core.List.{List, ◌∷◌}
use Prim.Native.Nat.{ℕ, ◌+◌, ◌-◌, ◌*◌, ◌/◌, ◌%◌, ◌^◌, ◌≤◌, ◌<◌}
use native.Mathlib.Nat.{zero-mul, mod-one, add_assoc, mul_assoc, add-mul, mul_right_comm, mul-le-mul, div-add-mod', mul-add-div_right}
use native.Mathlib.Omega.{arith}
use borrow.Author.Tests.{ltb-true}
use Rattle.std.specs.Prelude.{Option, Some, None, unwrap_or, is_some}
use lib.Dec.{ltb}
use lib.ListN.{length, get_or}
use lib.Pow.{pow_pos, split, shr-shr, mod-pow-add}
use Rattle.bit.proofs.Tests.{and-true}
use Rattle.words.proofs.Planes.{get_d_tabulate}
use Rattle.literal_words.specs.Digits.{is_z, is_unknown, is_underscore, digit_of, digit_number, digits, number_by, each}
use Rattle.literal_words.specs.Passes.{words_of, has_number, value_number, unknown_number, readable, Goes}

-- word k of a number
abbrev pub word : ℕ → ℕ → ℕ
word n k = n / 2 ^ (k * 64) % 2 ^ 64

-- what n * f + a carries into word k
abbrev pub carried : (f a n k : ℕ) → ℕ
carried f a n k = (n % 2 ^ (k * 64) * f + a) / 2 ^ (k * 64)

pub word-at : (p : List ℕ) (n k : ℕ) → p ≡ words_of (length p) n → k < length p → get_or p k 0 ≡ word n k
unfolding words_of
word-at p n k e l = ap (λ (q : List ℕ). get_or q k 0) e ∙ get_d_tabulate (length p) (word n) k 0 l

-- a product by the quotient and the rest of its first factor
by_parts : (x m f : ℕ) → x * f ≡ x / m * f * m + x % m * f
by_parts x m f =
    ap (λ (y : ℕ). y * f) (sym (div-add-mod' x m)) ∙ add-mul (x / m * m) (x % m) f ∙ ap (λ (y : ℕ). y + x % m * f) (mul_right_comm (x / m) m f)

module _ (f a n k : ℕ) where
  -- from bit k * 64 on, with q for what n has there
  from-word : (q : ℕ) → ((q * 2 ^ (k * 64) + n % 2 ^ (k * 64)) * f + a) / 2 ^ (k * 64) ≡ q * f + carried f a n k
  from-word q =
      let p : ℕ = 2 ^ (k * 64) in
      let r : ℕ = n % p * f in
      ap (λ (y : ℕ). (y + a) / p) (add-mul (q * p) (n % p) f ∙ ap (λ (y : ℕ). y + r) (mul_right_comm q p f))
      ∙ ap (λ (y : ℕ). y / p) (add_assoc (q * f * p) r a)
      ∙ mul-add-div_right (pow_pos (k * 64)) (q * f) (r + a)

  pub word-turn : word (n * f + a) k ≡ (word n k * f + carried f a n k) % 2 ^ 64
  word-turn =
      let q : ℕ = n / 2 ^ (k * 64) in
      let c : ℕ = carried f a n k in
      let cut : (q * f + c) % 2 ^ 64 ≡ (q % 2 ^ 64 * f + c) % 2 ^ 64 = omega (arith, by_parts q (2 ^ 64) f) in
      ap (λ (y : ℕ). (y * f + a) / 2 ^ (k * 64) % 2 ^ 64) (sym (split n (k * 64))) ∙ ap (λ (y : ℕ). y % 2 ^ 64) (from-word q) ∙ cut

  pub carry-turn : carried f a n (k + 1) ≡ (word n k * f + carried f a n k) / 2 ^ 64
  carry-turn =
      let up : (k + 1) * 64 ≡ 64 + k * 64 = omega arith in
      let on : (k + 1) * 64 ≡ k * 64 + 64 = omega arith in
      let rest = ap (λ (y : ℕ). n % 2 ^ y) up ∙ mod-pow-add n 64 (k * 64) in
      ap (λ (y : ℕ). (y * f + a) / 2 ^ ((k + 1) * 64)) rest
      ∙ ap (λ (y : ℕ). ((word n k * 2 ^ (k * 64) + n % 2 ^ (k * 64)) * f + a) / 2 ^ y) on
      ∙ sym (shr-shr ((word n k * 2 ^ (k * 64) + n % 2 ^ (k * 64)) * f + a) (k * 64) 64)
      ∙ ap (λ (y : ℕ). y / 2 ^ 64) (from-word (word n k))

pub carry-none : (f a n : ℕ) → a ≡ carried f a n 0
carry-none f a n =
    let z : n % 1 * f ≡ 0 = ap (λ (y : ℕ). y * f) (mod-one n) ∙ zero-mul f in
    omega arith

-- a word times f, plus what is carried into it
module _ (x f : ℕ) where
  pub half-small : f ≤ 2 ^ 32 → x < 2 ^ 64 → (x % 2 ^ 32 * f ≤ (2 ^ 32 - 1) * 2 ^ 32) × (x / 2 ^ 32 * f ≤ (2 ^ 32 - 1) * 2 ^ 32)
  half-small F X =
      let l : x % 2 ^ 32 ≤ 2 ^ 32 - 1 = omega arith in
      let h : x / 2 ^ 32 ≤ 2 ^ 32 - 1 = omega arith in (mul-le-mul l F, mul-le-mul h F)

  pub halves : (c : ℕ) → let low = x % 2 ^ 32 * f + c in let high = x / 2 ^ 32 * f + low / 2 ^ 32 in
      (high % 2 ^ 32 * 2 ^ 32 + low % 2 ^ 32 ≡ (x * f + c) % 2 ^ 64) × (high / 2 ^ 32 ≡ (x * f + c) / 2 ^ 64)
  halves c = let e = by_parts x (2 ^ 32) f in (omega arith, omega arith)

-- ---- digits

pub readable-parts : (r c : ℕ) (t : List ℕ) → readable r (c ∷ t) ≡ true
    → ((ltb (digit_number c) r || (is_unknown c || is_underscore c)) ≡ true) × (readable r t ≡ true)
unfolding readable each
readable-parts r c t e = and-true _ _ e

pub goes_none : (r : ℕ) (f : ℕ → ℕ) (t : List ℕ) → Goes r f 1 0 t t
goes_none r f t n =
    let e : n ≡ n * 1 + 0 = omega arith in
    ap (λ (m : ℕ). number_by r f m (digits t)) e

module _ (r : ℕ) (f : ℕ → ℕ) (p v : ℕ) (t : List ℕ) (c : ℕ) (u : List ℕ) (h : Goes r f p v t (c ∷ u)) where
  pub goes_over : is_underscore c ≡ true → Goes r f p v t u
  unfolding digits
  goes_over e n = simp e at (h n)

  pub goes-digit : {d : ℕ} → d ≡ f c → is_underscore c ≡ false → Goes r f (p * r) (v * r + d) t u
  unfolding digits number_by
  goes-digit {d} k e n =
      let sum : (n * p + v) * r + f c ≡ n * (p * r) + (v * r + d) = omega (arith, add-mul (n * p) v r, mul_assoc n p r) in
      simp e at (h n) ∙ ap (λ (m : ℕ). number_by r f m (digits u)) sum

pub has-number : (r c : ℕ) → r ≤ 16 → (ltb (digit_number c) r || (is_unknown c || is_underscore c)) ≡ true → is_underscore c ≡ false
    → has_number c ≡ true
unfolding digit_number
has-number r c R = go (digit_of c) (is_unknown c) (is_underscore c)
  where
    go : (o : Option ℕ) (b m : Bool) → (ltb (unwrap_or o 16) r || (b || m)) ≡ true → m ≡ false → (is_some o || b) ≡ true
    go (Some d) b m k e = refl
    go None true m k e = refl
    go None false true k e = let q : ◌≡◌ {A = ℕ} 0 1 = cc in absurd (omega arith)
    go None false false k e = go-far (ltb 16 r) refl k
      where
        go-far : (l : Bool) → ltb 16 r ≡ l → (l || false) ≡ true → false ≡ true
        go-far true f k = let n : 16 < r = ltb-true _ _ f in absurd (omega arith)
        go-far false f k = k

pub unknown-lt : (r c : ℕ) → 0 < r → unknown_number r c < r
unfolding unknown_number
unknown-lt r c P = go (is_unknown c)
  where
    go : (b : Bool) → cond b (r - 1) 0 < r
    go true = omega arith
    go false = omega arith

pub value-lt : (r c : ℕ) → 0 < r → (ltb (digit_number c) r || (is_unknown c || is_underscore c)) ≡ true → is_underscore c ≡ false → value_number r c < r
unfolding value_number
value-lt r c P = go (ltb (digit_number c) r) (is_unknown c) (is_underscore c) (is_z c) refl
  where
    go : (l b m z : Bool) → ltb (digit_number c) r ≡ l → (l || (b || m)) ≡ true → m ≡ false → cond b (cond z (r - 1) 0) (digit_number c) < r
    go l true m true k e u = omega arith
    go l true m false k e u = omega arith
    go true false m z k e u = ltb-true _ _ k
    go false false true z k e u = let q : ◌≡◌ {A = ℕ} 0 1 = cc in absurd (omega arith)
    go false false false z k e u = let q : ◌≡◌ {A = ℕ} 0 1 = cc in absurd (omega arith)
