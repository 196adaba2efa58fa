-- Document 01, "Step list": the inputs of a list, added one behind the other. The text is read whole before.
use Rattle.std.specs.Prelude.{List, [], ◌∷◌, ℕ, Result, Ok, Err}
use Rattle.refusal.specs.declared.Refusal.{Refusal}
use Rattle.refusal.specs.Refusals.{refusal_number}
use Rattle.refusal.specs.Outcome.{Answer, Outcome, outcome, refuse}
use Rattle.refusal.specs.Outcome.Answer.{given, refused}
use Rattle.words.specs.Planes.{planes_of}
use Rattle.value.specs.Checks.{Vector}
use Rattle.steplist.specs.Listing.{StepList}
use Rattle.store.specs.Store.{State, add_input}

-- an input of a list is handed over as its header and its planes
abbrev pub add_listed : State → Vector → Outcome ℕ State
add_listed s v = add_input s v.header (planes_of v.bits)

abbrev pub after_input : Answer ℕ → State → Outcome Unit State → Outcome Unit State
after_input (given n) left rest = rest
after_input (refused n) left rest = refuse n left

-- all inputs in order, up to the first that is refused
unfoldable pub add_inputs : State → List Vector → Outcome Unit State
add_inputs s [] = outcome (given tt) s
add_inputs s (v ∷ vs) =
    let left = (add_listed s v).left in
    after_input (add_listed s v).answer left (add_inputs left vs)

-- the inputs of the list that a text says; a text that says none leaves all
abbrev pub load_list : State → Answer StepList → Outcome Unit State
load_list s (given l) = add_inputs s l.inputs
load_list s (refused n) = refuse n s

module _ {A : Type 0} where
  -- whether a result was given, and what refused it if not
  abbrev pub verdict : Result A Refusal → Answer Unit
  verdict (Ok a) = given tt
  verdict (Err r) = refused (refusal_number r)
