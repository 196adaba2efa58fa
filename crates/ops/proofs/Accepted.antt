-- The result of an op on accepted operands is a vector that is accepted again.
use mathlib.Core.Path.{◌≡◌, sym, subst}
use mathlib.Core.Bool.{true, false}
use Prim.Native.Nat.{ℕ, ◌≤◌}
use native.Mathlib.Omega.{arith}
use lib.Dec.{T}
use lib.ListN.{length}
use Rattle.words.specs.Planes.{Planes, Plane, value_plane, unknown_plane, planes_of}
use Rattle.words.proofs.Planes.{length-tabulate, value-plane, unknown-plane}
use Rattle.value.specs.Checks.{max_width, vector}
use Rattle.value.specs.declared.Header.{Header}
use Rattle.value.proofs.Checks.{Sound}
use Rattle.ops.specs.declared.Op.{Op}
use Rattle.ops.specs.declared.Family.{Family}
use Rattle.ops.specs.declared.Family.TheVariants as family
use Rattle.ops.specs.Ops.{family_of, arms_refused, family_header, op_header, op_bits}
use Rattle.ops.proofs.Results.{result-width}

module _ (a b c : Header) (p q r : Planes) (pos : ℕ) (ha : Sound a p) (hb : Sound b q) (hc : Sound c r) where
  narrow : (k : Family) → (family_header k a b c).width ≤ max_width
  narrow (family.Join j) = omega (arith, ha.planes.narrow, hb.planes.narrow)
  narrow family.Not = ha.planes.narrow
  narrow (family.Answer q) = omega arith
  narrow family.Select = hb.planes.narrow
  narrow family.Insert = ha.planes.narrow

  -- only insert gives a fill, which has the width of its operand
  no-empty-fill : (k : Family) → (family_header k a b c).is_fill ≡ true → (family_header k a b c).width ≡ 0 → ⊥
  no-empty-fill (family.Join j) e z = subst T (sym e) tt
  no-empty-fill family.Not e z = subst T (sym e) tt
  no-empty-fill (family.Answer q) e z = subst T (sym e) tt
  no-empty-fill family.Select e z = subst T (sym e) tt
  no-empty-fill family.Insert e z = ha.fill e z

  pub result-sound : (op : Op) → arms_refused op b c ≡ false
      → Sound (op_header op a b c) (planes_of (op_bits op (vector a p) (vector b q) (vector c r) pos))
  result-sound op h =
      let bs = op_bits op (vector a p) (vector b q) (vector c r) pos in
      let e : length bs ≡ (op_header op a b c).width =
      result-width (vector a p) (vector b q) (vector c r) pos (length-tabulate _ _) (length-tabulate _ _) (length-tabulate _ _) op h in
      record {
        planes = record {
          narrow = narrow (family_of op);
          value-plane = subst (λ (w : ℕ). Plane w (value_plane bs)) e (value-plane bs);
          unknown-plane = subst (λ (w : ℕ). Plane w (unknown_plane bs)) e (unknown-plane bs);
        };
        fill = no-empty-fill (family_of op);
      }
