-- Document 01, "Answer bit": the reductions (IEEE 1800-2017, 11.4.9).
use Rattle.std.specs.Prelude.{List}
use Rattle.bit.specs.declared.LogicBit.{LogicBit}
use Rattle.refusal.specs.Outcome.{Answer, after}
use Rattle.refusal.specs.Outcome.Answer.{given}
use Rattle.words.specs.Planes.{Planes, vector_of}
use Rattle.value.specs.declared.Header.{Header}
use Rattle.value.specs.Checks.{check_vector}

-- `reduce_and`, `reduce_or`, `reduce_xor`: 1 to 4, or the reduction of the bits
abbrev pub reduction : (List LogicBit → LogicBit) → Header → Planes → Answer LogicBit
reduction f h p = after (check_vector h p) (given (f (vector_of h.width p)))
