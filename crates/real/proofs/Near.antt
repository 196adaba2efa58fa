-- The whole number nearest to a fraction. Nothing here turns on what happens at a half.
--     compare-is                           what `compare` gives, from how two numbers lie
--     near_same, near-zero, near-whole     equal fractions give the same, a fraction below a half gives 0, and a whole number itself
use Rattle.std.proofs.Common.{◌≡◌, ℕ, ◌+◌, ◌*◌, ◌/◌, ◌%◌, ◌<◌, ◌≤◌, not, T, eqb, sym, refl, ap, ◌∙◌, subst, ap₂, mod-eq_of_lt, mul_comm, add-mul, mul-lt-mul_of_pos_right, div-add-mod', mul_right_comm, arith, eqb→eq, leb→le}
use Prim.Native.Nat.{compare, Ordering}
use native.Mathlib.Nat.{div-eq_of_lt}
use lib.Dec.{is_le, compare_is_eq, nleb→lt, eqb_refl}
use lib.Arith.{lt_of_le-ne}
use lib.Ieee.Nearest.{div_same}
use Rattle.real.specs.Round.{whole_by, whole_near}

-- ---- what `compare` says

abbrev pub Cmp : Ordering → ℕ → ℕ → Type 0
Cmp Ordering.lt a b = a < b
Cmp Ordering.eq a b = a ≡ b
Cmp Ordering.gt a b = b < a

cmp : (a b : ℕ) → Cmp (compare a b) a b
cmp a b = go (compare a b) (leb→le a b) (nleb→lt a b) (eqb→eq a b) (λ (e : a ≡ b). subst (λ (x : ℕ). T (eqb a x)) e (eqb_refl a))
  where
    go : (o : Ordering) → (T (is_le o) → a ≤ b) → (T (not (is_le o)) → b < a) → (T (compare_is_eq o) → a ≡ b) → (a ≡ b → T (compare_is_eq o)) → Cmp o a b
    go Ordering.lt h k e n = lt_of_le-ne (h tt) n
    go Ordering.eq h k e n = e tt
    go Ordering.gt h k e n = k tt

one-order : (o p : Ordering) (a b : ℕ) → Cmp o a b → Cmp p a b → o ≡ p
one-order Ordering.lt Ordering.lt a b x y = refl
one-order Ordering.lt Ordering.eq a b x y = absurd (omega arith)
one-order Ordering.lt Ordering.gt a b x y = absurd (omega arith)
one-order Ordering.eq Ordering.lt a b x y = absurd (omega arith)
one-order Ordering.eq Ordering.eq a b x y = refl
one-order Ordering.eq Ordering.gt a b x y = absurd (omega arith)
one-order Ordering.gt Ordering.lt a b x y = absurd (omega arith)
one-order Ordering.gt Ordering.eq a b x y = absurd (omega arith)
one-order Ordering.gt Ordering.gt a b x y = refl

pub compare-is : (o : Ordering) (a b : ℕ) → Cmp o a b → compare a b ≡ o
compare-is o a b h = one-order (compare a b) o a b (cmp a b) h

compare-scaled : (a b k : ℕ) → 0 < k → compare (a * k) (b * k) ≡ compare a b
compare-scaled a b k K = compare-is (compare a b) (a * k) (b * k) (scale (compare a b) (cmp a b))
  where
    scale : (o : Ordering) → Cmp o a b → Cmp o (a * k) (b * k)
    scale Ordering.lt h = mul-lt-mul_of_pos_right h K
    scale Ordering.eq h = ap (λ (x : ℕ). x * k) h
    scale Ordering.gt h = mul-lt-mul_of_pos_right h K

-- ---- the nearest whole number

-- the rests of equal fractions with the same whole part are equal fractions
rest-same : (a b c d : ℕ) → a / b ≡ c / d → a * d ≡ c * b → a % b * d ≡ c % d * b
rest-same a b c d w h =
    let q = c / d in
    let x : q * b * d + a % b * d ≡ a * d = sym (add-mul (q * b) (a % b) d) ∙ ap (λ (z : ℕ). z * d) (ap (λ (z : ℕ). z * b + a % b) (sym w) ∙ div-add-mod' a b) in
    let y : q * d * b + c % d * b ≡ c * b = sym (add-mul (q * d) (c % d) b) ∙ ap (λ (z : ℕ). z * b) (div-add-mod' c d) in
    let s : q * b * d ≡ q * d * b = mul_right_comm q b d in
    omega arith

pub near_same : (a b c d : ℕ) → 0 < b → 0 < d → a * d ≡ c * b → whole_near a b ≡ whole_near c d
near_same a b c d B D e =
    let w : a / b ≡ c / d = div_same a b c d B D e in
    let r : a % b * 2 * d ≡ c % d * 2 * b = mul_right_comm (a % b) 2 d ∙ ap (λ (x : ℕ). x * 2) (rest-same a b c d w e) ∙ mul_right_comm (c % d) b 2 in
    ap₂ whole_by w (sym (compare-scaled (a % b * 2) b d D) ∙ ap₂ compare r (mul_comm b d) ∙ compare-scaled (c % d * 2) d b B)

pub near-zero : (a b : ℕ) → a * 2 < b → whole_near a b ≡ 0
near-zero a b h =
    let l : a < b = omega arith in
    ap₂ whole_by (div-eq_of_lt l) (ap (λ (r : ℕ). compare (r * 2) b) (mod-eq_of_lt l) ∙ compare-is Ordering.lt (a * 2) b h)

pub near-whole : (n : ℕ) → whole_near n 1 ≡ n
near-whole n =
    let e : n / 1 ≡ n = omega arith in
    let z : n % 1 ≡ 0 = omega arith in
    ap₂ whole_by e (ap (λ (r : ℕ). compare (r * 2) 1) z)
