-- Equality by the operands' cases.
--     vectors                   two vectors are compared, and refused one after the other
--     real-left, real-right     where one operand is a real, both count as reals
use mathlib.Core.Path.{◌≡◌, refl}
use lib.Ieee.{Float}
use Rattle.bit.specs.declared.LogicBit.{LogicBit}
use Rattle.refusal.specs.Outcome.{Answer, after}
use Rattle.refusal.specs.Outcome.Answer.{given, refused}
use Rattle.words.specs.Planes.{Planes}
use Rattle.value.specs.declared.Header.{Header}
use Rattle.value.specs.declared.Operand.{Operand}
use Rattle.value.specs.declared.Operand.TheVariants as operand
use Rattle.value.specs.Checks.{vector, check_vector, check_operand}
use Rattle.compare_words.specs.declared.Comparison.TheVariants.{Equal}
use Rattle.compare_words.specs.Compared.{compared}
use Rattle.real_equal.specs.Numeric.{real_equality}
use Rattle.compare.specs.Compare.{comparison, is_equal}

in-turn : (x y : Answer Unit) (z : Answer LogicBit) → after (after x y) z ≡ after x (after y z)
in-turn (given u) y z = refl
in-turn (refused n) y z = refl

pub vectors : (a b : Header) (p q : Planes) → comparison Equal a p b q ≡ is_equal (operand.Vector a) p (operand.Vector b) q
unfolding check_operand
vectors a b p q = in-turn (check_vector a p) (check_vector b q) (given (compared Equal (vector a p) (vector b q)))

pub real-left : (a b : Operand) (p q : Planes) (x : Float) → a ≡ operand.Real x → real_equality a p b q ≡ is_equal a p b q
real-left a (operand.Vector g) p q x e = rw e refl
real-left a (operand.Real y) p q x e = rw e refl

pub real-right : (a b : Operand) (p q : Planes) (y : Float) → b ≡ operand.Real y → real_equality a p b q ≡ is_equal a p b q
real-right (operand.Vector h) b p q y e = rw e refl
real-right (operand.Real x) b p q y e = rw e refl
