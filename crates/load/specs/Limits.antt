-- What adding the inputs asks of a list that was read from a text, and what it keeps of the store: document 01, "Step list", the limits.
use Rattle.std.specs.Prelude.{◌≡◌, ℕ, ◌-◌, ◌≤◌, ◌<◌, List, length, get_or}
use Rattle.words.specs.Planes.{Planes}
use Rattle.value.specs.declared.Header.{Header}
use Rattle.cells.specs.declared.Fields.{Fields}
use Rattle.store.specs.declared.Store.{Store}
use Rattle.cells.specs.Places.{Whole, no_cell}
use Rattle.store.specs.Store.{store_of, next_word}
use Rattle.store.specs.Taken.{Laid}
use Rattle.steplist.specs.declared.Input.{Input}
use Rattle.steplist.specs.declared.StepList.{StepList}
use Rattle.steplist.specs.Answers.{no_input}

-- at most as wide as an input may be
abbrev pub Thin : Header → Type 0
Thin h = h.width ≤ 4096

-- no cell is wider
abbrev pub AllThin : Store → Type 0
AllThin s = (j : ℕ) → Thin (get_or s.cells j no_cell).header

-- nor one of f, whose first n cells take k words; these agree with the arenas, if the arenas are of one length
pub record Fitted (f : Fields) (n k : ℕ) (a : Planes) : Type 0 where
  pub whole : Whole f
  pub thin : AllThin (store_of n f)
  pub words : k ≡ next_word (store_of n f)
  pub laid : length a.value ≡ length a.unknown → Laid f n k a

-- the input's bits stand in the text s
abbrev pub InputReadable : List ℕ → Input → Type 0
InputReadable s x = (x.header.width ≤ length s - x.place) × Thin x.header

-- at most 64 inputs, each of which can be read in the text s
pub record InputsReadable (s : List ℕ) (l : StepList) : Type 0 where
  pub few-inputs : l.input_count ≤ 64
  pub inputs : (i : ℕ) → i < l.input_count → InputReadable s (get_or l.inputs i no_input)
