-- What the code's answers say of the text that they were read from: the bits of an input stay in the text, at its place. Document 01, "Which places
-- take which form": where an answer is an enum, a definition gives this paper's number and values for each case.
use Rattle.std.specs.Prelude.{ℕ, List, Option, Some, None, drop, get_or}
use Rattle.words.specs.Vector.{tabulate}
use Rattle.text.specs.Read.{Got}
use Rattle.text.specs.Read.Got.{found, broken}
use Rattle.text.specs.Answers.{bits_in}
use Rattle.value.specs.Checks.{plain, Vector}
use Rattle.ops.specs.declared.Step.{Step}
use Rattle.ops.specs.Ops.{no_step}
use Rattle.steplist.specs.Listing.{StepList}
use Rattle.steplist.specs.declared.Found.{Found}
use Rattle.steplist.specs.declared.Input.{Input}
use Rattle.steplist.specs.declared.StepList as code

-- what the code finds, as a reader finds it: its value as f says, and the text s from the place on
abbrev pub got : {A B : Type 0} → (A → B) → List ℕ → Option (Found A) → Got B
got f s (Some x) = found (f x.value) (drop x.next s)
got f s None = broken

-- an input's bits are the characters of its width from its place on
abbrev pub input_in : List ℕ → Input → Vector
input_in s x = record { header = x.header; bits = bits_in s x.place x.header.width }

-- the input that is read past the end of a list
abbrev pub no_input : Input
no_input = record { header = plain 0; place = 0 }

-- the first n inputs of an array, and the first n steps
abbrev pub inputs_in : List ℕ → ℕ → List Input → List Vector
inputs_in s n xs = tabulate n (λ i. input_in s (get_or xs i no_input))

abbrev pub steps_in : ℕ → List Step → List Step
steps_in n xs = tabulate n (λ i. get_or xs i no_step)

abbrev pub list_in : List ℕ → code.StepList → StepList
list_in s l = record { inputs = inputs_in s l.input_count l.inputs; steps = steps_in l.step_count l.steps }
