-- What the entries answer.
--     vectors                            two vectors are decided by the scan
--     real-left, real-right              where one operand is a real, the rule is "numeric"
--     equal-settled, wildcard-settled    as stated in specs/Decide
use mathlib.Core.Path.{◌≡◌, refl, sym, ap, ap₂, ◌∙◌, subst}
use mathlib.Core.Bool.{Bool, true, false}
use Prim.Native.Nat.{ℕ}
use native.Mathlib.Omega.{arith}
use lib.Ieee.{Float}
use lib.Ieee as Ieee
use Rattle.bit.specs.declared.LogicBit.{LogicBit}
use Rattle.bit.specs.Rules.{known}
use Rattle.refusal.specs.Outcome.{Answer, after}
use Rattle.refusal.specs.Outcome.Answer.{given, refused}
use Rattle.words.specs.Planes.{Planes}
use Rattle.value.specs.declared.Header.{Header}
use Rattle.value.specs.declared.Operand.{Operand}
use Rattle.value.specs.declared.Operand.TheVariants as operand
use Rattle.value.specs.Checks.{Vector, vector, check_pair, check_operand}
use Rattle.reduce_words.specs.Fold.{known_bit}
use Rattle.real_equal.specs.Numeric.{real_of, real_equality}
use Rattle.compare_words.specs.declared.Comparison.TheVariants.{Equal}
use Rattle.compare.specs.Compare.{equal_operands}
use Rattle.compare.proofs.Reals as compare
use Rattle.decide.specs.declared.Rule.{Rule}
use Rattle.decide.specs.declared.Rule.TheVariants.{Numeric}
use Rattle.decide.specs.declared.Decision.{Decision}
use Rattle.decide.specs.Rule.{every_place, right_known, rule_of, Fits, GoesWith}
use Rattle.decide.specs.Decide.{decision, with_rule, equal_rule, decide_equal, decide_scanned, FitsOperands, Settles, EqualSettled, WildcardSettled}
use Rattle.decide.proofs.Fits.{one-fits}
use Rattle.decide.proofs.Scan.{equal_told, equal-goes, wildcard-goes}

-- ---- the calls

pub vectors : (a b : Header) (p q : Planes) → decide_scanned Equal a p b q ≡ decide_equal (operand.Vector a) p (operand.Vector b) q
vectors a b p q = ap₂ with_rule (equal_told (vector a p) (vector b q)) (compare.vectors a b p q)

pub real-left : (a b : Operand) (p q : Planes) (x : Float) → a ≡ operand.Real x → with_rule Numeric (real_equality a p b q) ≡ decide_equal a p b q
real-left a b p q x e = ap₂ with_rule (sym (ap (λ (a : Operand). equal_rule a p b q) e ∙ by b)) (compare.real-left a b p q x e)
  where
    by : (b : Operand) → equal_rule (operand.Real x) p b q ≡ Numeric
    by (operand.Vector g) = refl
    by (operand.Real y) = refl

pub real-right : (a b : Operand) (p q : Planes) (y : Float) → b ≡ operand.Real y → with_rule Numeric (real_equality a p b q) ≡ decide_equal a p b q
real-right a b p q y e = ap₂ with_rule (sym (ap (λ (b : Operand). equal_rule a p b q) e ∙ by a)) (compare.real-right a b p q y e)
  where
    by : (a : Operand) → equal_rule a p (operand.Real y) q ≡ Numeric
    by (operand.Vector h) = refl
    by (operand.Real x) = refl

-- ---- what holds of the answers

module _ {A : Type 0} where
  abbrev or_else : A → Answer A → A
  or_else a (given d) = d
  or_else a (refused n) = a

-- a decision that was given is made of the bit behind the checks and of the rule
taken : (r : Rule) (x y : Answer Unit) (b : LogicBit) (d : Decision) → with_rule r (after x (after y (given b))) ≡ given d → decision b r ≡ d
taken r (given u) (given v) b d e = ap (or_else (decision b r)) e
taken r (given u) (refused n) b d e = let z : ◌≡◌ {A = ℕ} 0 1 = cc in absurd (omega arith)
taken r (refused n) y b d e = let z : ◌≡◌ {A = ℕ} 0 1 = cc in absurd (omega arith)

known-bit : (z : Bool) → known (known_bit z) ≡ true
known-bit true = refl
known-bit false = refl

of-reals : (z : Bool) → Settles (λ r. r ≡ Numeric) (decision (known_bit z) Numeric)
of-reals z = record { only = record { fitting = refl; alone = λ s h. h }; goes = known-bit z }

of-vectors : (compares : LogicBit → LogicBit → Bool) (a b : Vector) (x : LogicBit) → GoesWith (rule_of compares a b) x
    → Settles (Fits compares a b) (decision x (rule_of compares a b))
of-vectors compares a b x g = record { only = one-fits compares a b; goes = g }

of-operands : (a b : Operand) (p q : Planes) → Settles (FitsOperands a p b q) (decision (equal_operands a p b q) (equal_rule a p b q))
of-operands (operand.Vector a) (operand.Vector b) p q = of-vectors every_place (vector a p) (vector b q) _ (equal-goes (vector a p) (vector b q))
of-operands (operand.Vector a) (operand.Real y) p q = of-reals (Ieee.eq (real_of (operand.Vector a) p) y)
of-operands (operand.Real x) (operand.Vector b) p q = of-reals (Ieee.eq x (real_of (operand.Vector b) q))
of-operands (operand.Real x) (operand.Real y) p q = of-reals (Ieee.eq x y)

pub equal-settled : EqualSettled
equal-settled a b p q d e =
    subst (Settles (FitsOperands a p b q)) (taken (equal_rule a p b q) (check_operand a p) (check_operand b q) _ d e) (of-operands a b p q)

pub wildcard-settled : WildcardSettled
wildcard-settled a b p q d e =
    subst (Settles (Fits right_known (vector a p) (vector b q)))
    (taken (rule_of right_known (vector a p) (vector b q)) (given tt) (check_pair a p b q) _ d e)
    (of-vectors right_known (vector a p) (vector b q) _ (wildcard-goes (vector a p) (vector b q)))
