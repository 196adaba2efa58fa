-- The cells that a step names: what the machine works out is the op on what they hold.
--     header-vector   the header of the result, as the machine has it
--     vector-named    the result
use mathlib.Core.Path.{◌≡◌, sym, ap, ◌∙◌}
use Prim.Native.Nat.{ℕ}
use lib.ListN.{get_or, get_or-map}
use Rattle.words.specs.Vector.{tabulate}
use Rattle.ops.specs.declared.Step.{Step}
use Rattle.ops.specs.Ops.{family_of, op_header, op_vector}
use Rattle.machine.specs.Machine as machine
use Rattle.machine.specs.Machine.{holding, cell_at, vector_at, header_at, step_header}
use Rattle.cells.specs.declared.Cell.{Cell}
use Rattle.cells.specs.Cells.{cell_vector}
use Rattle.cells.specs.Places.{no_cell}
use Rattle.plan.specs.Planned.{named}
use Rattle.plan.proofs.Named.{unread}
use Rattle.store.specs.declared.Store.{Store}
use Rattle.store.specs.Store.{State, filled, store_headers, cells_of}
use Rattle.store.specs.Step.{step_result}

-- the filled cell of number i
abbrev pub filled_at : Store → ℕ → Cell
filled_at s i = get_or (filled s) i no_cell

pub header-filled : (s : Store) (i : ℕ) → header_at (store_headers s) i ≡ (filled_at s i).header
header-filled s i = get_or-map (λ (c : Cell). c.header) (filled s) i no_cell

module _ (s : State) where
  cell-filled : (i : ℕ) → cell_at (cells_of s) i ≡ holding (cell_vector s.arenas (filled_at s.store i))
  unfolding tabulate
  cell-filled i = get_or-map (λ (c : Cell). holding (cell_vector s.arenas c)) (filled s.store) i no_cell

  header_read : (i : ℕ) → header_at (store_headers s.store) i ≡ (vector_at (cells_of s) i).header
  header_read i = header-filled s.store i ∙ sym (ap (λ (c : machine.Cell). c.vector.header) (cell-filled i))

  pub header-vector : (step : Step) → step_header (store_headers s.store) step ≡ (step_result s step).vector.header
  header-vector step = λ k. op_header step.op (header_read step.a k) (header_read step.b k) (header_read step.c k)

  pub vector-named : (step : Step) → (step_result s step).vector
      ≡ op_vector step.op (cell_vector s.arenas (filled_at s.store (named step).a)) (cell_vector s.arenas (filled_at s.store (named step).b))
      (cell_vector s.arenas (filled_at s.store (named step).c)) step.c
  vector-named step =
      (unread (vector_at (cells_of s)) step.a step.b step.c step.c (family_of step.op)).1
      ∙ (λ k. op_vector step.op (cell-filled (named step).a k).vector (cell-filled (named step).b k).vector (cell-filled (named step).c k).vector step.c)
