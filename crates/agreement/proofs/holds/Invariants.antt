-- The invariant: the rest of the plane is as the whole.
use mathlib.Core.Path.{◌≡◌}
use lib.ListN.{drop}
use Rattle.agreement.specs.Holds.{holds_from}
use Rattle.agreement.proofs.holds.Given as goal

abbrev pub invariant-loop-k : goal.invariant-loop-k
invariant-loop-k l = holds_from 0 l.plane l.words ≡ holds_from l.k (drop l.k l.plane) l.words
