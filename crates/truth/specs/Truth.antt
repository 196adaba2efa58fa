-- Document 01, "Answer bit", and document 02, point 4: the truth of an operand (IEEE 1800-2017, 11.4.7).
use Rattle.std.specs.Prelude.{◌≡◌, false, cond, pos, Float}
use Rattle.std.specs.Float.Ieee as Ieee
use Rattle.std.specs.Float.{fin}
use Rattle.refusal.specs.Outcome.{Answer, after}
use Rattle.refusal.specs.Outcome.Answer.{given}
use Rattle.words.specs.Planes.{Planes, vector_of, Words64}
use Rattle.value.specs.declared.Header.{Header}
use Rattle.value.specs.declared.Operand.{Operand}
use Rattle.value.specs.declared.Operand.TheVariants.{Vector, Real}
use Rattle.value.specs.Checks.{check_vector, check_operand}
use Rattle.reduce_words.specs.declared.Truth.{Truth}
use Rattle.reduce_words.specs.declared.Truth.TheVariants.{False, True}
use Rattle.reduce_words.specs.Fold.{truth_of, truth_by_words}

-- the code's 0.0
abbrev pub real_zero : Float
real_zero = fin false 0 (pos 0)

-- a real is true if not equal to 0, so NaN is true
abbrev pub real_truth : Float → Truth
real_truth x = cond (Ieee.ne x real_zero) True False

-- a fill counts as its own bits
abbrev pub operand_truth : Operand → Planes → Truth
operand_truth (Vector h) p = truth_of (vector_of h.width p)
operand_truth (Real x) p = real_truth x

-- `is_nonzero`: 1 to 4 for a vector, 2 for a real whose planes are not empty, or the truth
abbrev pub is_nonzero : Operand → Planes → Answer Truth
is_nonzero o p = after (check_operand o p) (given (operand_truth o p))

-- of a vector it is the truth of its words (document 02, point 4): stated of every call, since the words of what is lent have 64 bits
abbrev pub TruthByWords : Type 0
TruthByWords = (h : Header) (p : Planes) → Words64 p → is_nonzero (Vector h) p ≡ after (check_vector h p) (given (truth_by_words p))
