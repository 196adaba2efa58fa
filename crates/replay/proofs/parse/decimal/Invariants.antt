-- The invariant: the digits that are left.
use Rattle.std.proofs.Common.{◌≡◌, drop}
use Rattle.replay.specs.Text.{digits_from}
use Rattle.replay.proofs.parse.decimal.Given as goal

abbrev pub invariant-loop-c : goal.invariant-loop-c
invariant-loop-c l = digits_from 0 l.s ≡ digits_from l.n (drop l.c-index l.s)
