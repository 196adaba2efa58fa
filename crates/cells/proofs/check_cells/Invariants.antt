-- `cells::check_cells`: what is left of the check at a cell.
use Prim.Native.Nat.{◌≤◌}
use lib.ListN.{length}
use Rattle.words.specs.Planes.{lent}
use Rattle.cells.proofs.Walk.{Left}
use Rattle.cells.proofs.check_cells.Given as goal

abbrev pub invariant-loop-c : goal.invariant-loop-c
invariant-loop-c l = (l.at ≤ length l.value) × Left (lent l.value l.unknown) l.c-items l.c-index l.at
