-- The results of the ops.
--     arms-alike      arms that are not refused have one width
--     result-width    the result has as many bits as its header says
use mathlib.Core.Path.{◌≡◌, refl, sym, ap, ◌∙◌, subst}
use mathlib.Core.Bool.{Bool, true, false, not, ◌||◌}
use Prim.Native.Nat.{ℕ}
use native.Mathlib.Omega.{arith}
use borrow.Author.Tests.{eqb-true}
use lib.Dec.{T, eqb}
use lib.ListN.{length}
use Rattle.words.proofs.Planes.{length-tabulate}
use Rattle.value.specs.declared.Header.{Header}
use Rattle.value.specs.Checks.{Vector}
use Rattle.reduce_words.specs.declared.Truth.{Truth}
use Rattle.reduce_words.specs.declared.Truth.TheVariants as truth
use Rattle.reduce_words.specs.Fold.{truth_of}
use Rattle.ops.specs.declared.Op.{Op}
use Rattle.ops.specs.declared.Family.{Family}
use Rattle.ops.specs.declared.Family.TheVariants as family
use Rattle.ops.specs.Ops.{family_of, arms_differ, family_refused, arms_refused, family_header, family_bits, selected, op_vector}

pub arms-alike : (b c : Header) → arms_differ b c ≡ false → c.width ≡ b.width
arms-alike b c h = go (eqb b.width c.width) refl
  where
    go : (z : Bool) → eqb b.width c.width ≡ z → c.width ≡ b.width
    go true e = sym (eqb-true b.width c.width e)
    go false e = absurd (subst T (sym (ap (λ (z : Bool). not z || (b.is_fill || c.is_fill)) e) ∙ h) tt)

module _ (a b c : Vector) (pos : ℕ) (ha : length a.bits ≡ a.header.width) (hb : length b.bits ≡ b.header.width) (hc : length c.bits ≡ c.header.width) where
  select-width : (t : Truth) → arms_differ b.header c.header ≡ false → length (selected t b c) ≡ b.header.width
  select-width truth.True h = hb
  select-width truth.False h = hc ∙ arms-alike b.header c.header h
  select-width truth.Unknown h = length-tabulate _ _ ∙ omega (arith, arms-alike b.header c.header h)

  family-width : (k : Family) → family_refused k b.header c.header ≡ false
      → length (family_bits k a b c pos) ≡ (family_header k a.header b.header c.header).width
  family-width (family.Join j) h = length-tabulate _ _
  family-width family.Not h = length-tabulate _ _ ∙ ha
  family-width (family.Answer q) h = refl
  family-width family.Select h = select-width (truth_of a.bits) h
  family-width family.Insert h = length-tabulate _ _ ∙ ha

  pub result-width : (op : Op) → arms_refused op b.header c.header ≡ false
      → length (op_vector op a b c pos).bits ≡ (op_vector op a b c pos).header.width
  result-width op h = family-width (family_of op) h
