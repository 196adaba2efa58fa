-- The characters of a value, one after the other, and the values of a base by their first.
--     each-list      every character passes, in the library's word
--     not-below      no digit below a bound
--     value_none, value-lone, value-off, value-run      one law for each way through `is_value`
use mathlib.Core.Path.{◌≡◌, refl, sym, ap, ap₂, ◌∙◌}
use mathlib.Core.Bool.{Bool, true, false, not, ◌&&◌, ◌||◌, false≢true}
use mathlib.Core.List.{List, [], ◌∷◌}
use Prim.Native.Nat.{ℕ, ◌≤◌}
use native.Mathlib.Omega.{arith}
use lib.Dec.{leb, ltb}
use borrow.Author.Tests.{le-ltb, lt-ltb, le-leb, lt-leb, ltb-true, ltb-false, leb-true, leb-false, not-true}
use Rattle.std.specs.List.{list_all}
use Rattle.bit.proofs.Tests.{and-true, and_none, or-none}
use Rattle.literal_words.specs.Digits.{is_underscore, is_unknown, digit_number, is_d, radix, is_digit_of, each, is_run, is_lone, is_value}
use Rattle.literal_words.proofs.Characters.{Kind, an-x, a_z, known, kind, radix-range}
use Rattle.literal_read.specs.Answers.{follows}

-- every character passes, in the library's word
pub each-list : (p : ℕ → Bool) (t : List ℕ) → each p t ≡ list_all p t
unfolding each
each-list p [] = refl
each-list p (c ∷ t) = ap (λ (x : Bool). p c && x) (each-list p t)

-- tests that agree
each_same : (p q : ℕ → Bool) (t : List ℕ) → ((c : ℕ) → p c ≡ q c) → each p t ≡ each q t
unfolding each
each_same p q [] h = refl
each_same p q (c ∷ t) h = ap₂ (λ (x y : Bool). x && y) (h c) (each_same p q t h)

-- an x or z is no digit of a number
unknown-number : (c : ℕ) → is_unknown c ≡ true → digit_number c ≡ 16
unknown-number c h = go (kind c)
  where
    go : Kind c → digit_number c ≡ 16
    go (an-x _ _ _ e) = e
    go (a_z _ _ _ e) = e
    go (known e f) = absurd (false≢true (rw (e, f) at h))

-- no digit below a bound
pub not-below : (r c : ℕ) → not (ltb (digit_number c) r) ≡ leb r (digit_number c)
not-below r c = go (ltb (digit_number c) r) refl
  where
    go : (b : Bool) → ltb (digit_number c) r ≡ b → not b ≡ leb r (digit_number c)
    go true e = sym (lt-leb r (digit_number c) (ltb-true _ _ e))
    go false e = sym (le-leb r (digit_number c) (ltb-false _ _ e))

-- ---- the values of a base

-- whether a text is a value, by its first character: a digit's number, a decimal base, an x or z; and the others: as digits, as underscores
abbrev valued : (n d u E L : Bool) → Bool
valued n d u E L = ((n || (not d && u)) && E) || (d && (u && L))

valued-off : (d E L : Bool) → valued false d false E L ≡ false
valued-off true E L = refl
valued-off false E L = refl

valued-run : (n d u E L l : Bool) → (d && u) ≡ false → (not u && l) ≡ false → (l ≡ false → n ≡ true) → valued n d u E L ≡ E
valued-run n true true E L l x h k = let z : ◌≡◌ {A = ℕ} 0 1 = cc in absurd (omega arith)
valued-run n true false E L l x h k = rw (k h) (or-none E)
valued-run true false true E L l x h k = or-none E
valued-run false false true E L l x h k = or-none E
valued-run n false false E L l x h k = rw (k h) (or-none E)

pub value_none : (base : ℕ) → is_value base [] ≡ false
unfolding is_value is_run is_lone
value_none base = and_none (is_d base)

module _ (base c : ℕ) (t : List ℕ) where
  value_as : is_value base (c ∷ t)
      ≡ valued (ltb (digit_number c) (radix base)) (is_d base) (is_unknown c) (each (follows (radix base) (not (is_d base))) t) (each is_underscore t)
  unfolding is_value is_run is_lone is_digit_of
  value_as = refl

  -- a decimal that begins with an x or z
  pub value-lone : is_d base ≡ true → is_unknown c ≡ true → is_value base (c ∷ t) ≡ each (follows 0 false) t
  value-lone d u =
      let h : radix base ≤ digit_number c = rw (unknown-number c u) (radix-range base).1 in
      let e : each is_underscore t ≡ each (follows 0 false) t = each_same is_underscore (follows 0 false) t (λ k. rw (le-ltb (digit_number k) 0 (omega arith))) in
      value_as ∙ lone (ltb (digit_number c) (radix base)) (is_d base) (is_unknown c) (le-ltb (digit_number c) (radix base) h) d u ∙ e
    where
      lone : (n d u : Bool) → n ≡ false → d ≡ true → u ≡ true
          → valued n d u (each (follows (radix base) (not (is_d base))) t) (each is_underscore t) ≡ each is_underscore t
      lone n d u x y z = rw (x, y, z)

  -- a first character that is no digit
  pub value-off : (not (is_unknown c) && leb (radix base) (digit_number c)) ≡ true → is_value base (c ∷ t) ≡ false
  value-off h =
      let p = and-true (not (is_unknown c)) (leb (radix base) (digit_number c)) h in
      value_as
      ∙ off (ltb (digit_number c) (radix base)) (is_unknown c) (le-ltb (digit_number c) (radix base) (leb-true (radix base) (digit_number c) p.1))
      (not-true (is_unknown c) p.0)
    where
      off : (n u : Bool) → n ≡ false → u ≡ false
          → valued n (is_d base) u (each (follows (radix base) (not (is_d base))) t) (each is_underscore t) ≡ false
      off n u x y = rw (x, y) (valued-off (is_d base) (each (follows (radix base) (not (is_d base))) t) (each is_underscore t))

  -- any other value
  pub value-run : (is_d base && is_unknown c) ≡ false → (not (is_unknown c) && leb (radix base) (digit_number c)) ≡ false
      → is_value base (c ∷ t) ≡ each (follows (radix base) (not (is_d base))) t
  value-run x h =
      value_as
      ∙ valued-run (ltb (digit_number c) (radix base)) (is_d base) (is_unknown c) (each (follows (radix base) (not (is_d base))) t) (each is_underscore t)
      (leb (radix base) (digit_number c)) x h (λ e. lt-ltb (digit_number c) (radix base) (leb-false (radix base) (digit_number c) e))
