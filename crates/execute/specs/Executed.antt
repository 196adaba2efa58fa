-- Document 01, "Cell store" and "Step list": a step works in two lent scratch planes, and its result is then copied behind the last filled cell.
use Rattle.std.specs.Prelude.{◌≡◌, true, false, List, ℕ, ◌+◌, ◌≤◌, ◌<◌, length}
use Rattle.words.specs.Planes.{word_count, Planes, lent_by, planes_of}
use Rattle.value.specs.Checks.{Vector}
use Rattle.ops.specs.declared.Op.{Op}
use Rattle.ops.specs.Ops.{arms_refused, op_header, op_vector}
use Rattle.cells.specs.declared.Fields.{Fields}
use Rattle.cells.specs.Cells.{cell_vector, cell_agrees, put_planes}
use Rattle.cells.specs.Places.{cell_of}
use Rattle.plan.specs.declared.PlannedStep.{PlannedStep}
use Rattle.execute.specs.declared.Operands.{Operands}

-- the op on cells, in operand order; insert takes its position
abbrev pub op_cells : Op → Operands → ℕ → Planes → Vector
op_cells op o pos a = op_vector op (cell_vector a o.a) (cell_vector a o.b) (cell_vector a o.c) pos

-- the arenas and the scratch planes that are lent
pub record LentMemory : Type 0 where
  pub arenas : Planes
  pub scratch : Planes

-- by what is lent
abbrev pub lent_memory_by : (av au sv su : List ℕ) → LentMemory
lent_memory_by av au sv su = record { arenas = lent_by av au; scratch = lent_by sv su }

-- the cells that a planned step names, among those of f
abbrev pub operands_of : PlannedStep → Fields → Operands
operands_of p f = record { a = cell_of f p.a; b = cell_of f p.b; c = cell_of f p.c }

-- what document 01 gives for it
abbrev pub planned_result : PlannedStep → Fields → Planes → Vector
planned_result p f a = op_cells p.op (operands_of p f) p.pos a

-- each scratch plane begins with the result, which is copied to where its cell begins; all other words stay
abbrev pub executed : PlannedStep → Fields → LentMemory → LentMemory
executed p f m =
    let r = planes_of (planned_result p f m.arenas).bits in
    record { arenas = put_planes p.start r m.arenas; scratch = put_planes 0 r m.scratch }

-- what a plan and the agreement of cells and arenas give: the cells named are there and in order, and there is room for the result
pub record Executable (p : PlannedStep) (f : Fields) (m : LentMemory) : Type 0 where
  pub level : length m.arenas.value ≡ length m.arenas.unknown
  pub a-there : p.a < 320
  pub b_there : p.b < 320
  pub c-there : p.c < 320
  pub a-agrees : cell_agrees m.arenas (cell_of f p.a).start (cell_of f p.a) ≡ true
  pub b-agrees : cell_agrees m.arenas (cell_of f p.b).start (cell_of f p.b) ≡ true
  pub c-agrees : cell_agrees m.arenas (cell_of f p.c).start (cell_of f p.c) ≡ true
  pub arms : arms_refused p.op (cell_of f p.b).header (cell_of f p.c).header ≡ false
  pub header : p.header ≡ op_header p.op (cell_of f p.a).header (cell_of f p.b).header (cell_of f p.c).header
  pub room : p.start + word_count p.header.width ≤ length m.arenas.value
  pub value_room : word_count p.header.width ≤ length m.scratch.value
  pub unknown-room : word_count p.header.width ≤ length m.scratch.unknown
