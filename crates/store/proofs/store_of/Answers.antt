-- `store::store_of`: all places are filled.
use mathlib.Core.Path.{ap}
use mathlib.Core.List.{List}
use Rattle.words.proofs.Fill.{done}
use Rattle.cells.specs.declared.Cell.{Cell}
use Rattle.store.proofs.store_of.Goals as goal

pub returns : goal.returns
returns c = ap (λ (cs : List Cell). record { cells = cs; count = c.args.count }) (done c.loop-i.invariant c.loop-i-test.false)
