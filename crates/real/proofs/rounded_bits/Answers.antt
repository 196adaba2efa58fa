-- `real::rounded_bits`: by the fields of the pattern.
use Rattle.std.proofs.Common.{◌≡◌, ℕ, ◌+◌, ◌-◌, ◌*◌, ◌/◌, ◌^◌, ◌<◌, ◌≤◌, Bool, leb, pos, sym, ap, ◌∙◌, ap₂, add_comm, mul-one, arith}
use lib.Bits.{bit_and, and_mask, mask_lt}
use lib.Ieee.{binary64, of_bits, of_fields}
use Rattle.real.specs.Round.{whole_near, rounded, signed_by}
use Rattle.real.proofs.Fields.{pattern-fields, fields-large, fields-middle, fields-small, fields-none}
use Rattle.real.proofs.rounded_bits.Goals as goal

-- the fields, as the code has them
module _ (b : ℕ) where
  abbrev negative : Bool
  negative = leb (2 ^ 63) b

  abbrev exponent : ℕ
  exponent = bit_and (b / 2 ^ 52) 2047

  abbrev fraction : ℕ
  fraction = bit_and b 4503599627370495

  exponent_lt : exponent < 2048
  exponent_lt = mask_lt (b / 2 ^ 52) 11

  fraction-lt : fraction < 2 ^ 52
  fraction-lt = mask_lt b 52

  by-fields : rounded (of_bits binary64 b) ≡ rounded (of_fields binary64 negative exponent fraction)
  by-fields =
      ap rounded
      (pattern-fields b
      ∙ ap₂ (of_fields binary64 negative) (sym (and_mask (b / 2 ^ 52) 11)) (sym (and_mask b 52)))

  small : exponent < 1022 → pos 0 ≡ rounded (of_bits binary64 b)
  small h = sym (by-fields ∙ fields-small negative fraction fraction-lt exponent h)

  none : exponent ≡ 2047 → pos 0 ≡ rounded (of_bits binary64 b)
  none h = sym (by-fields ∙ fields-none negative fraction fraction-lt exponent h)

  large : (exponent ≡ 2047 → ⊥) → 1075 ≤ exponent → signed_by negative ((fraction + 2 ^ 52) * 2 ^ (exponent - 1075)) ≡ rounded (of_bits binary64 b)
  large n h =
      let l : exponent < 2047 = omega (arith, exponent_lt) in
      ap (λ (q : ℕ). signed_by negative (q * 2 ^ (exponent - 1075))) (add_comm fraction (2 ^ 52))
      ∙ sym (by-fields ∙ fields-large negative fraction fraction-lt exponent h l)

  middle : (r : ℕ) → 1022 ≤ exponent → exponent < 1075 → r ≡ whole_near (fraction + 2 ^ 52) (2 ^ (1075 - exponent))
      → signed_by negative (r * 2 ^ 0) ≡ rounded (of_bits binary64 b)
  middle r g h e =
      ap (signed_by negative) (mul-one r ∙ e ∙ ap (λ (q : ℕ). whole_near q (2 ^ (1075 - exponent))) (add_comm fraction (2 ^ 52)))
      ∙ sym (by-fields ∙ fields-middle negative fraction fraction-lt exponent g h)

pub returns-then-exponent-lt1022 : goal.returns-then-exponent-lt1022
returns-then-exponent-lt1022 c = small c.args.bits c.if-exponent-lt1022.true

pub returns-then-exponent-eq2047 : goal.returns-then-exponent-eq2047
returns-then-exponent-eq2047 c = none c.args.bits c.if-exponent-eq2047.true

pub returns-then-exponent-ge1075 : goal.returns-then-exponent-ge1075
returns-then-exponent-ge1075 c = large c.args.bits c.if-exponent-eq2047.false c.if-exponent-ge1075.true

pub returns : goal.returns
returns c = middle c.args.bits c.cut_near-near.result c.if-exponent-lt1022.false c.if-exponent-ge1075.false c.cut_near-near.ensures
