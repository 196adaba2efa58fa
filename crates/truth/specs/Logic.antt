-- Document 01, "Answer bit": the logical operators (IEEE 1800-2017, 11.4.7).
use Rattle.bit.specs.declared.LogicBit.{LogicBit}
use Rattle.bit.specs.Rules.{and_bit, or_bit}
use Rattle.refusal.specs.Outcome.{Answer, after}
use Rattle.refusal.specs.Outcome.Answer.{given}
use Rattle.words.specs.Planes.{Planes}
use Rattle.value.specs.declared.Operand.{Operand}
use Rattle.value.specs.Checks.{check_operand}
use Rattle.reduce_words.specs.Fold.{truth_bit}
use Rattle.truth.specs.Truth.{operand_truth}

-- the truths of two operands, combined by the rule of single bits; the left operand is refused first
abbrev pub combined : (LogicBit → LogicBit → LogicBit) → Operand → Planes → Operand → Planes → Answer LogicBit
combined f a p b q =
    after (check_operand a p)
    (after (check_operand b q) (given (f (truth_bit (operand_truth a p)) (truth_bit (operand_truth b q)))))

-- `logic_and`: 0 if either is false, 1 if both are true, else x
abbrev pub logic_and : Operand → Planes → Operand → Planes → Answer LogicBit
logic_and = combined and_bit

-- `logic_or`: 1 if either is true, 0 if both are false, else x
abbrev pub logic_or : Operand → Planes → Operand → Planes → Answer LogicBit
logic_or = combined or_bit
