-- Document 01, "Cell store" and "Numbers for what is not done": what an input and a step do where store and arenas agree, so that 14 is not asked.
use Rattle.std.specs.Prelude.{◌≡◌, true, ℕ, Result, Ok, Err}
use Rattle.refusal.specs.declared.Refusal.{Refusal}
use Rattle.refusal.specs.Refusals.{refusal_number}
use Rattle.refusal.specs.Outcome.{Answer, Outcome, outcome, or_refuse}
use Rattle.refusal.specs.Outcome.Answer.{given, refused}
use Rattle.words.specs.Planes.{Planes, planes_of, vector_of}
use Rattle.value.specs.declared.Header.{Header}
use Rattle.value.specs.Checks.{check_vector}
use Rattle.machine.specs.Machine.{check_input_behind}
use Rattle.cells.specs.declared.Cell.{Cell}
use Rattle.cells.specs.declared.Fields.{Fields}
use Rattle.cells.specs.Cells.{put_planes}
use Rattle.store.specs.declared.Store.{Store}
use Rattle.store.specs.Store.{state, store_of, next_word, agrees, with_cell, room_of, no_scratch}

-- the first n cells of f agree with the arenas a, and take their first k words
pub record Laid (f : Fields) (n k : ℕ) (a : Planes) : Type 0 where
  pub agreed : agrees (state (store_of n f) a) ≡ true
  pub words : k ≡ next_word (store_of n f)

-- 12, then 1 to 4 for the input, then 13, where n cells take the first k words; else the input's words stand behind those
abbrev pub take_input : (n k : ℕ) → Header → Planes → Planes → Outcome ℕ Planes
take_input n k h p arenas =
    or_refuse (check_input_behind (room_of arenas no_scratch) n k (check_vector h p) h.width) arenas
    (outcome (given k) (put_planes k (planes_of (vector_of h.width p)) arenas))

-- an input or a step is refused, or its cell is added behind n others
abbrev pub taken_answer : ℕ → Result Cell Refusal → Answer ℕ
taken_answer n (Ok c) = given n
taken_answer n (Err r) = refused (refusal_number r)

abbrev pub taken_store : Result Cell Refusal → Store → Store
taken_store (Ok c) s = with_cell c s
taken_store (Err r) s = s
