-- Document 01, "Answer bit", and document 02, point 2: the entries of equality (IEEE 1800-2017, 11.4.5), case, casez and casex equality (12.5) and
-- wildcard equality (11.4.6), over the comparisons of `compare_words`.
use Rattle.bit.specs.declared.LogicBit.{LogicBit}
use Rattle.refusal.specs.Outcome.{Answer, after}
use Rattle.refusal.specs.Outcome.Answer.{given}
use Rattle.words.specs.Planes.{Planes}
use Rattle.value.specs.declared.Header.{Header}
use Rattle.value.specs.declared.Operand.{Operand}
use Rattle.value.specs.declared.Operand.TheVariants as operand
use Rattle.value.specs.Checks.{vector, check_pair, check_operand}
use Rattle.real_equal.specs.Numeric.{equal_reals}
use Rattle.compare_words.specs.declared.Comparison.{Comparison}
use Rattle.compare_words.specs.declared.Comparison.TheVariants.{Equal}
use Rattle.compare_words.specs.Compared.{compared}

-- `case_eq`, `casez_eq`, `casex_eq`, `wildcard_eq`: 1 to 4 for the left operand, then for the right
abbrev pub comparison : Comparison → Header → Planes → Header → Planes → Answer LogicBit
comparison op a p b q = after (check_pair a p b q) (given (compared op (vector a p) (vector b q)))

-- where either is a real, both count as reals
abbrev pub equal_operands : Operand → Planes → Operand → Planes → LogicBit
equal_operands (operand.Vector a) p (operand.Vector b) q = compared Equal (vector a p) (vector b q)
equal_operands (operand.Vector a) p (operand.Real y) q = equal_reals (operand.Vector a) p (operand.Real y) q
equal_operands (operand.Real x) p (operand.Vector b) q = equal_reals (operand.Real x) p (operand.Vector b) q
equal_operands (operand.Real x) p (operand.Real y) q = equal_reals (operand.Real x) p (operand.Real y) q

-- `is_equal`: the left operand is refused first
abbrev pub is_equal : Operand → Planes → Operand → Planes → Answer LogicBit
is_equal a p b q = after (check_operand a p) (after (check_operand b q) (given (equal_operands a p b q)))
