-- Document 01, "Step list": the ops. Each is worked out as the section "Result vector" or "Answer bit" has it, or document 02, point 2; select and
-- insert are told in "Step list" itself.
use Rattle.std.specs.Prelude.{Bool, false, not, ◌&&◌, ◌||◌, List, [], ◌∷◌, ℕ, eqb}
use Rattle.bit.specs.declared.LogicBit.{LogicBit}
use Rattle.bit.specs.Rules.{and_bit, or_bit}
use Rattle.words.specs.Vector.{at}
use Rattle.words.specs.Planes.{packed}
use Rattle.bits.specs.Bits.{spliced}
use Rattle.value.specs.declared.Header.{Header}
use Rattle.value.specs.Checks.{plain, Vector}
use Rattle.lanes.specs.declared.Bitwise.TheVariants as bitwise
use Rattle.bitwise_words.specs.Joined.{joined, inverted, result_header, not_header}
use Rattle.reduce_words.specs.declared.Truth.{Truth}
use Rattle.reduce_words.specs.declared.Truth.TheVariants as truth
use Rattle.reduce_words.specs.Fold.{reduce_and, reduce_or, reduce_xor, truth_of, truth_bit}
use Rattle.compare_words.specs.declared.Comparison.TheVariants as comparison
use Rattle.compare_words.specs.Compared.{compared}
use Rattle.ops.specs.declared.Op.{Op}
use Rattle.ops.specs.declared.Op.TheVariants.{And, Or, Xor, Not, Merge, ReduceAnd, ReduceOr, ReduceXor, Equal, CaseEqual, CasezEqual, CasexEqual, WildcardEqual, LogicAnd, LogicOr, Select, Insert}
use Rattle.ops.specs.declared.Step.{Step}
use Rattle.ops.specs.declared.Question.{Question}
use Rattle.ops.specs.declared.Question.TheVariants as question
use Rattle.ops.specs.declared.Family.{Family}
use Rattle.ops.specs.declared.Family.TheVariants as family

-- the step that is read past the end of a list
abbrev pub no_step : Step
no_step = record { op = And; a = 0; b = 0; c = 0 }

-- and, or, xor and merge join two vectors; an op of "Answer bit" asks a question
abbrev pub family_of : Op → Family
family_of And = family.Join bitwise.And
family_of Or = family.Join bitwise.Or
family_of Xor = family.Join bitwise.Xor
family_of Not = family.Not
family_of Merge = family.Join bitwise.Merge
family_of ReduceAnd = family.Answer question.ReduceAnd
family_of ReduceOr = family.Answer question.ReduceOr
family_of ReduceXor = family.Answer question.ReduceXor
family_of Equal = family.Answer (question.Compare comparison.Equal)
family_of CaseEqual = family.Answer (question.Compare comparison.CaseEqual)
family_of CasezEqual = family.Answer (question.Compare comparison.CasezEqual)
family_of CasexEqual = family.Answer (question.Compare comparison.CasexEqual)
family_of WildcardEqual = family.Answer (question.Compare comparison.WildcardEqual)
family_of LogicAnd = family.Answer question.LogicAnd
family_of LogicOr = family.Answer question.LogicOr
family_of Select = family.Select
family_of Insert = family.Insert

-- ---- how many cells an op names

-- a reduction names one, the others two
abbrev pub question_operands : Question → ℕ
question_operands question.ReduceAnd = 1
question_operands question.ReduceOr = 1
question_operands question.ReduceXor = 1
question_operands (question.Compare q) = 2
question_operands question.LogicAnd = 2
question_operands question.LogicOr = 2

-- the c of insert is a position
abbrev pub family_operands : Family → ℕ
family_operands (family.Join j) = 2
family_operands family.Not = 1
family_operands (family.Answer q) = question_operands q
family_operands family.Select = 3
family_operands family.Insert = 2

abbrev pub operands : Op → ℕ
operands op = family_operands (family_of op)

-- how many of a, b and c an op uses, the first ones: the cells that it names, and the position of insert
abbrev pub family_uses : Family → ℕ
family_uses (family.Join j) = 2
family_uses family.Not = 1
family_uses (family.Answer q) = question_operands q
family_uses family.Select = 3
family_uses family.Insert = 3

abbrev pub uses : Op → ℕ
uses op = family_uses (family_of op)

-- ---- "Numbers for what is not done", 7

-- arms of different width, or an arm that is a fill
abbrev pub arms_differ : Header → Header → Bool
arms_differ b c = not (eqb b.width c.width) || (b.is_fill || c.is_fill)

-- only select has arms
abbrev pub family_refused : Family → Header → Header → Bool
family_refused (family.Join j) b c = false
family_refused family.Not b c = false
family_refused (family.Answer q) b c = false
family_refused family.Select b c = arms_differ b c
family_refused family.Insert b c = false

abbrev pub arms_refused : Op → Header → Header → Bool
arms_refused op b c = family_refused (family_of op) b c

-- ---- the header of the result, by the headers of the operands alone

-- signed if both arms are, at any width; no fill
abbrev pub select_header : Header → Header → Header
select_header b c = record { width = b.width; is_signed = b.is_signed && c.is_signed; is_fill = false }

-- an answer is unsigned and has one bit; insert keeps the header, a fill stays a fill
abbrev pub family_header : Family → Header → Header → Header → Header
family_header (family.Join j) a b c = result_header j a b
family_header family.Not a b c = not_header a
family_header (family.Answer q) a b c = plain 1
family_header family.Select a b c = select_header b c
family_header family.Insert a b c = a

abbrev pub op_header : Op → Header → Header → Header → Header
op_header op a b c = family_header (family_of op) a b c

-- ---- the bits of the result

-- the truth of a vector as a bit
abbrev pub vector_truth : Vector → LogicBit
vector_truth a = truth_bit (truth_of a.bits)

-- "Answer bit": the reductions of a, a comparison of a and b, the truths of both combined
abbrev pub answer_bit : Question → Vector → Vector → LogicBit
answer_bit question.ReduceAnd a b = reduce_and a.bits
answer_bit question.ReduceOr a b = reduce_or a.bits
answer_bit question.ReduceXor a b = reduce_xor a.bits
answer_bit (question.Compare q) a b = compared q a b
answer_bit question.LogicAnd a b = and_bit (vector_truth a) (vector_truth b)
answer_bit question.LogicOr a b = or_bit (vector_truth a) (vector_truth b)

-- true gives the first arm, false the second; only an unknown truth goes on to the merge
abbrev pub selected : Truth → Vector → Vector → List LogicBit
selected truth.True b c = b.bits
selected truth.False b c = c.bits
selected truth.Unknown b c = joined bitwise.Merge b c

-- the lowest n bits of b stand in a from the position on, n being the width of b, at most 64
abbrev pub inserted : Vector → Vector → ℕ → List LogicBit
inserted a b pos = spliced a.bits pos b.header.width (packed (at b.bits))

-- "Result vector" for the ops that join, and for not
abbrev pub family_bits : Family → Vector → Vector → Vector → ℕ → List LogicBit
family_bits (family.Join j) a b c pos = joined j a b
family_bits family.Not a b c pos = inverted a.bits
family_bits (family.Answer q) a b c pos = answer_bit q a b ∷ []
family_bits family.Select a b c pos = selected (truth_of a.bits) b c
family_bits family.Insert a b c pos = inserted a b pos

-- the last argument is the position of insert, c as a number
abbrev pub op_bits : Op → Vector → Vector → Vector → ℕ → List LogicBit
op_bits op a b c pos = family_bits (family_of op) a b c pos

abbrev pub op_vector : Op → Vector → Vector → Vector → ℕ → Vector
op_vector op a b c pos = record { header = op_header op a.header b.header c.header; bits = op_bits op a b c pos }
