-- What the calls of the store give and leave as they cross to C: the answer in the numbers of document 01, "Numbers for what is not done", the fields
-- of the store ("Cell store"), and the lent planes.
use Rattle.std.specs.Prelude.{ℕ, Option, Some, None}
use Rattle.refusal.specs.Outcome.{Outcome, refuse}
use Rattle.words.specs.Planes.{Planes}
use Rattle.ops.specs.declared.Op.{Op}
use Rattle.store.specs.Store.{State}
use Rattle.store.specs.Step.{Memory, add_step}
use Rattle.store_abi.specs.declared.CellResult.{CellResult}
use Rattle.cells.specs.declared.Fields.{Fields}
use Rattle.store_abi.specs.Settled.{no_such_op, settled_by, Crossed, crossed}

-- what `add_input` does to the store that the fields f say
abbrev pub crossed_input : Fields → Outcome ℕ State → Crossed CellResult Planes
crossed_input f o = crossed (settled_by o.answer o.left.store f) o.left.arenas

-- `add_step` with the op of a code; where no op has the code, the memory is left as it is
abbrev pub add_step_of : Option Op → (a b c : ℕ) → Memory → Outcome ℕ Memory
add_step_of (Some op) a b c m = add_step m (record { op = op; a = a; b = b; c = c })
add_step_of None a b c m = refuse no_such_op m

-- what `add_step` does to it; arenas, then scratch
abbrev pub crossed_step : Fields → Outcome ℕ Memory → Crossed CellResult (Planes × Planes)
crossed_step f o = crossed (settled_by o.answer o.left.state.store f) (o.left.state.arenas, o.left.scratch)
