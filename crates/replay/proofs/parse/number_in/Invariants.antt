-- The invariant: the names left.
use Rattle.std.proofs.Common.{◌≡◌, ◌-◌}
use Rattle.replay.specs.Calls.{name_from}
use Rattle.replay.proofs.parse.number_in.Given as goal

abbrev pub invariant-loop-k : goal.invariant-loop-k
invariant-loop-k l = name_from 0 l.n l.names l.name ≡ name_from l.k (l.n - l.k) l.names l.name
