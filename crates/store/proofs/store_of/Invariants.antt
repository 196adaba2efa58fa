-- `store::store_of`: the first i places are filled.
use Rattle.words.specs.Vector.{FilledTo}
use Rattle.cells.specs.Places.{fields, cell_of, no_cell}
use Rattle.store.proofs.store_of.Given as goal

abbrev pub invariant-loop-i : goal.invariant-loop-i
invariant-loop-i l = FilledTo no_cell (cell_of (fields l.starts l.widths l.signs l.fills)) 320 l.i l.c-items
