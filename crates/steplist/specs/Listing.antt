-- Document 01, "Step list": what a text says as a step list, the text of a list, and that the two agree. Lines in fixed order, each ended by
-- one LF; a text is a list of bytes.
use Rattle.std.specs.Prelude.{ℕ, ◌≤◌, ◌≡◌, ◌↔◌, true, false, ◌&&◌, cond, List, [], ◌∷◌, ◌++◌, leb, length}
use Rattle.refusal.specs.Outcome.{Answer}
use Rattle.refusal.specs.Outcome.Answer.{given, refused}
use Rattle.text.specs.Read.{bytes, Got, next, line_end, number_line, bits_key, bits_line, many}
use Rattle.text.specs.Read.Got.{found, broken}
use Rattle.text.specs.Write.{texts, number_text, bits_text}
use Rattle.text.specs.Exact.{All}
use Rattle.value.specs.declared.Header.{Header}
use Rattle.value.specs.Checks.{Vector}
use Rattle.ops.specs.declared.Op.{Op}
use Rattle.ops.specs.declared.Step.{Step}
use Rattle.steplist.specs.OpLine.{op_text, choice_line, op_key, op_line, largest}

-- a list: its inputs and its steps, in order
pub record StepList : Type 0 where
  pub inputs : List Vector
  pub steps : List Step

-- ---- an input: width=, kind=, bits=

abbrev pub width_key : List ℕ
width_key = bytes "width="

abbrev pub kind_key : List ℕ
kind_key = bytes "kind="

-- unsigned, signed, unsigned fill
pub data Kind : Type 0 where
  unsigned : Kind
  signed : Kind
  fill : Kind

abbrev pub all_kinds : List Kind
all_kinds = unsigned ∷ signed ∷ fill ∷ []

abbrev pub kind_name : Kind → List ℕ
kind_name unsigned = bytes "u"
kind_name signed = bytes "s"
kind_name fill = bytes "f"

abbrev pub kind_header : ℕ → Kind → Header
kind_header w unsigned = record { width = w; is_signed = false; is_fill = false }
kind_header w signed = record { width = w; is_signed = true; is_fill = false }
kind_header w fill = record { width = w; is_signed = false; is_fill = true }

abbrev pub kind_of : Header → Kind
kind_of h = cond h.is_fill fill (cond h.is_signed signed unsigned)

-- width= 0 to 4,096, kind=, bits= exactly that many of 0 1 x z
unfoldable pub input : List ℕ → Got Vector
input t =
    next (number_line width_key 4096 t) (λ w t.
    next (choice_line kind_key kind_name all_kinds unsigned t) (λ m t.
    next (bits_line bits_key w t) (λ bs.
    found (record { header = kind_header w m; bits = bs }))))

unfoldable pub input_text : Vector → List ℕ
input_text x =
    (width_key ++ number_text x.header.width) ++ ((kind_key ++ (kind_name (kind_of x.header) ++ line_end)) ++ (bits_key ++ bits_text x.bits))

-- as many bits as the width says, which is at most 4,096; no fill is signed
unfoldable pub InputWithin : Vector → Type 0
InputWithin x = (x.header.width ≤ 4096) × (length x.bits ≡ x.header.width) × ((x.header.is_signed && x.header.is_fill) ≡ false)

-- ---- a step: op=, a=, b=, c=

abbrev pub a_key : List ℕ
a_key = bytes "a="

abbrev pub b_key : List ℕ
b_key = bytes "b="

abbrev pub c_key : List ℕ
c_key = bytes "c="

-- the numbers of a step with the op o
unfoldable pub numbers : Op → List ℕ → Got Step
numbers o t =
    next (number_line a_key (largest o 0) t) (λ a t.
    next (number_line b_key (largest o 1) t) (λ b t.
    next (number_line c_key (largest o 2) t) (λ c.
    found (record { op = o; a = a; b = b; c = c }))))

unfoldable pub step : List ℕ → Got Step
step t = next (op_line t) numbers

unfoldable pub step_text : Step → List ℕ
step_text x =
    (op_key ++ (op_text x.op ++ line_end)) ++ ((a_key ++ number_text x.a) ++ ((b_key ++ number_text x.b) ++ (c_key ++ number_text x.c)))

unfoldable pub StepWithin : Step → Type 0
StepWithin x = (x.a ≤ largest x.op 0) × (x.b ≤ largest x.op 1) × (x.c ≤ largest x.op 2)

-- ---- the whole list: inputs=, steps=, then the inputs, then the steps

abbrev pub inputs_key : List ℕ
inputs_key = bytes "inputs="

abbrev pub steps_key : List ℕ
steps_key = bytes "steps="

-- inputs= 0 to 64, steps= 0 to 256
unfoldable pub list : List ℕ → Got StepList
list t =
    next (number_line inputs_key 64 t) (λ n t.
    next (number_line steps_key 256 t) (λ m t.
    next (many input n t) (λ is t.
    next (many step m t) (λ ss.
    found (record { inputs = is; steps = ss })))))

unfoldable pub list_text : StepList → List ℕ
list_text l =
    (inputs_key ++ number_text (length l.inputs))
    ++ ((steps_key ++ number_text (length l.steps)) ++ (texts input_text l.inputs ++ texts step_text l.steps))

unfoldable pub InLimits : StepList → Type 0
InLimits l = (length l.inputs ≤ 64) × (length l.steps ≤ 256) × All InputWithin l.inputs × All StepWithin l.steps

-- nothing follows; 6 where the format is broken
abbrev pub read_to_end : Got StepList → Answer StepList
read_to_end (found l []) = given l
read_to_end (found l (c ∷ t)) = refused 6
read_to_end broken = refused 6

-- at most 65,536 bytes
unfoldable pub whole : List ℕ → Answer StepList
whole t = cond (leb (length t) 65536) (read_to_end (list t)) (refused 6)

-- a text is accepted as the list l exactly where it is l's text, l is within the limits and the text is not too long
abbrev pub WholeExactly : Type 0
WholeExactly = (t : List ℕ) (l : StepList) → (whole t ≡ given l) ↔ ((t ≡ list_text l) × InLimits l × (length t ≤ 65536))
