-- The rounded real of a bit pattern, by its fields: the sign s, the exponent's field x and the digits t.
--     pattern-fields                                           the fields of a pattern
--     fields-small, fields-middle, fields-large, fields-none   below a half, with digits to cut off, a whole number, infinite or NaN
use Rattle.std.proofs.Common.{◌≡◌, ℕ, zero, suc, ◌+◌, ◌-◌, ◌*◌, ◌/◌, ◌%◌, ◌^◌, ◌<◌, ◌≤◌, Bool, true, false, cond, eqb, leb, pos, sym, refl, ap, ◌∙◌, subst, le_trans, le_of_eq, lt_of_lt_of_le, mul_assoc, mul-one, arith, lit<, eqb→eq, pow_pos, pow_mono, pow-add, shl_lt}
use lib.Dec.{not_T}
use lib.Pow.{field}
use lib.Ieee.{Float, nan, inf, fin, binary64, up, down, odd, of_fields, of_bits}
use lib.Ieee.Bits.{cond_no}
use lib.Ieee.Fits.{down_pos}
use lib.Ieee.Exact.{HasValue, odd_sign}
use Rattle.real.specs.Round.{whole_near, signed_by, rounded}
use Rattle.real.proofs.Near.{near_same, near-zero, near-whole}

-- a real that is ±a / c
value-rounds : (v : Float) (s : Bool) (a c n : ℕ) → 0 < c → HasValue v s a c → whole_near a c ≡ n → rounded v ≡ signed_by s n
unfolding rounded
value-rounds nan s a c n C h e = absurd h
value-rounds (inf t) s a c n C h e = absurd h
value-rounds (fin t m x) s a c n C h e =
    ap (λ (b : Bool). signed_by b (whole_near (m * up x) (down x))) h.0
    ∙ ap (signed_by s) (near_same (m * up x) (down x) a c (down_pos x) C h.1 ∙ e)

-- ---- q * 2 ^ k / 2 ^ l

-- from the weight of the digits on it is a whole number
scaled-up : (q k l j : ℕ) → k ≡ j + l → whole_near (q * 2 ^ k) (2 ^ l) ≡ q * 2 ^ j
scaled-up q k l j e =
    near_same (q * 2 ^ k) (2 ^ l) (q * 2 ^ j) 1 (pow_pos l) (lit< tt)
    (mul-one (q * 2 ^ k) ∙ ap (λ (x : ℕ). q * 2 ^ x) e ∙ ap (λ (x : ℕ). q * x) (pow-add 2 j l) ∙ sym (mul_assoc q (2 ^ j) (2 ^ l)))
    ∙ near-whole (q * 2 ^ j)

-- below it d digits are cut off
scaled-down : (q k l d : ℕ) → l ≡ k + d → whole_near (q * 2 ^ k) (2 ^ l) ≡ whole_near q (2 ^ d)
scaled-down q k l d e =
    near_same (q * 2 ^ k) (2 ^ l) q (2 ^ d) (pow_pos l) (pow_pos d)
    (mul_assoc q (2 ^ k) (2 ^ d) ∙ ap (λ (x : ℕ). q * x) (sym (pow-add 2 k d) ∙ ap (λ (x : ℕ). 2 ^ x) (sym e)))

-- and where all p digits of q lie below a half, it is 0
scaled-away : (q p k l : ℕ) → q < 2 ^ p → p + k + 1 ≤ l → whole_near (q * 2 ^ k) (2 ^ l) ≡ 0
scaled-away q p k l h r =
    near-zero (q * 2 ^ k) (2 ^ l)
    (lt_of_lt_of_le (two (q * 2 ^ k) (2 ^ (p + k)) (shl_lt p k h)) (le_trans (le_of_eq (sym (pow-add 2 (p + k) 1))) (pow_mono r)))
  where
    two : (a b : ℕ) → a < b → a * 2 < b * 2
    two a b h = omega arith

-- ---- by the fields

zero-sign : (b : Bool) → signed_by b 0 ≡ pos 0
zero-sign true = refl
zero-sign false = refl

module _ (s : Bool) (t : ℕ) (small : t < 2 ^ 52) where
  ordinary : (x : ℕ) → suc x < 2047 → HasValue (of_fields binary64 s (suc x) t) s ((2 ^ 52 + t) * 2 ^ x) (2 ^ 1074)
  unfolding of_fields
  ordinary x h =
      subst (λ (v : Float). HasValue v s ((2 ^ 52 + t) * 2 ^ x) (2 ^ 1074))
      (sym (cond_no (eqb (suc x) 2047) (cond (eqb t 0) (inf s) nan) (odd 53 s (2 ^ 52 + t) x 1074) (not_T (eqb (suc x) 2047) (λ u. differ (eqb→eq (suc x) 2047 u)))))
      (odd_sign 53 s (2 ^ 52 + t) x 1074)
    where
      differ : suc x ≡ 2047 → ⊥
      differ e = omega arith

  subnormal : HasValue (of_fields binary64 s 0 t) s (t * 2 ^ 0) (2 ^ 1074)
  unfolding of_fields
  subnormal = odd_sign 53 s t 0 1074

  digits_lt : 2 ^ 52 + t < 2 ^ 53
  digits_lt = omega arith

  pub fields-large : (x : ℕ) → 1075 ≤ x → x < 2047 → rounded (of_fields binary64 s x t) ≡ signed_by s ((2 ^ 52 + t) * 2 ^ (x - 1075))
  fields-large zero g h = absurd (omega arith)
  fields-large (suc x) g h =
      let e : x ≡ suc x - 1075 + 1074 = omega arith in
      value-rounds (of_fields binary64 s (suc x) t) s ((2 ^ 52 + t) * 2 ^ x) (2 ^ 1074) ((2 ^ 52 + t) * 2 ^ (suc x - 1075)) (pow_pos 1074) (ordinary x h)
      (scaled-up (2 ^ 52 + t) x 1074 (suc x - 1075) e)

  pub fields-middle : (x : ℕ) → 1022 ≤ x → x < 1075 → rounded (of_fields binary64 s x t) ≡ signed_by s (whole_near (2 ^ 52 + t) (2 ^ (1075 - x)))
  fields-middle zero g h = absurd (omega arith)
  fields-middle (suc x) g h =
      let e : 1074 ≡ x + (1075 - suc x) = omega arith in
      let b : suc x < 2047 = omega arith in
      value-rounds (of_fields binary64 s (suc x) t) s ((2 ^ 52 + t) * 2 ^ x) (2 ^ 1074) (whole_near (2 ^ 52 + t) (2 ^ (1075 - suc x))) (pow_pos 1074) (ordinary x b)
      (scaled-down (2 ^ 52 + t) x 1074 (1075 - suc x) e)

  pub fields-small : (x : ℕ) → x < 1022 → rounded (of_fields binary64 s x t) ≡ pos 0
  fields-small zero h =
      value-rounds (of_fields binary64 s 0 t) s (t * 2 ^ 0) (2 ^ 1074) 0 (pow_pos 1074) subnormal (scaled-away t 52 0 1074 small (omega arith)) ∙ zero-sign s
  fields-small (suc x) h =
      let b : suc x < 2047 = omega arith in
      let g : 53 + x + 1 ≤ 1074 = omega arith in
      value-rounds (of_fields binary64 s (suc x) t) s ((2 ^ 52 + t) * 2 ^ x) (2 ^ 1074) 0 (pow_pos 1074) (ordinary x b) (scaled-away (2 ^ 52 + t) 53 x 1074 digits_lt g) ∙ zero-sign s

  pub fields-none : (x : ℕ) → x ≡ 2047 → rounded (of_fields binary64 s x t) ≡ pos 0
  unfolding of_fields rounded
  fields-none x e = ap (λ (y : ℕ). rounded (of_fields binary64 s y t)) e ∙ at_ones (eqb t 0)
    where
      at_ones : (b : Bool) → rounded (cond b (inf s) nan) ≡ pos 0
      at_ones true = refl
      at_ones false = refl

pub pattern-fields : (b : ℕ) → of_bits binary64 b ≡ of_fields binary64 (leb (2 ^ 63) b) (b / 2 ^ 52 % 2 ^ 11) (b % 2 ^ 52)
unfolding of_bits
pattern-fields b = ap (λ (x : ℕ). of_fields binary64 (leb (2 ^ 63) b) x (b % 2 ^ 52)) (field b 11 52)
