-- Document 01, "Cell store", "Step list" and "Numbers for what is not done": what adding a step does to the store, its arenas and the two lent
-- scratch planes.
use Rattle.std.specs.Prelude.{List, ℕ}
use Rattle.refusal.specs.Outcome.{Answer, Outcome, outcome, after, or_refuse}
use Rattle.refusal.specs.Outcome.Answer.{given}
use Rattle.words.specs.Planes.{Planes, lent_by, planes_of}
use Rattle.ops.specs.declared.Step.{Step}
use Rattle.machine.specs.Machine as machine
use Rattle.machine.specs.Machine.{check_step, step_cell}
use Rattle.cells.specs.Cells.{put_planes}
use Rattle.store.specs.declared.Store.{Store}
use Rattle.store.specs.Store.{State, state_by, store_headers, cells_of, check_store, room_of, appended}

-- all that a call can change: the store, its arenas, and the scratch planes
pub record Memory : Type 0 where
  pub state : State
  pub scratch : Planes

abbrev pub memory : State → Planes → Memory
memory s p = record { state = s; scratch = p }

-- by what is lent
abbrev pub memory_by : Store → (av au sv su : List ℕ) → Memory
memory_by s av au sv su = memory (state_by s av au) (lent_by sv su)

-- 14, then 12, 11, 7 and 13, which go by the headers of the filled cells
abbrev pub check_memory : Memory → Step → Answer Unit
check_memory m step =
    after (check_store m.state) (check_step (room_of m.state.arenas m.scratch) (store_headers m.state.store) step)

-- what document 01 gives for the step and the cells it names
abbrev pub step_result : State → Step → machine.Cell
step_result s step = step_cell (cells_of s) step

-- each scratch plane begins with the result and is unchanged beyond it
abbrev pub worked : machine.Cell → Planes → Planes
worked c scratch = put_planes 0 (planes_of c.vector.bits) scratch

-- the result is the next cell
abbrev pub stepped : machine.Cell → Memory → Memory
stepped c m = memory (appended c m.state) (worked c m.scratch)

-- `add_step`: the answer is the new cell's number; a refusal leaves all
abbrev pub add_step : Memory → Step → Outcome ℕ Memory
add_step m step = or_refuse (check_memory m step) m (outcome (given m.state.store.count) (stepped (step_result m.state step) m))
