-- The invariant: no more calls agree than there are bytes passed.
use Rattle.std.proofs.Common.{◌≤◌, ◌-◌, length}
use Rattle.worked_cases.proofs.count.Given as goal

abbrev pub invariant-loop-at : goal.invariant-loop-at
invariant-loop-at g l = (l.agreed ≤ l.at) × (l.at ≤ length l.s)

abbrev pub decreases-loop-at : goal.decreases-loop-at
decreases-loop-at g l = length l.s - l.at
