-- The invariant: the first k words are those of the bits, and `left` characters are not yet read.
use Rattle.std.proofs.Common.{◌≡◌, ◌-◌, ◌*◌, length}
use Rattle.replay.specs.Fields.{bits_of, loaded}
use Rattle.replay.proofs.parse.load.Given as goal

abbrev pub invariant-loop-k : goal.invariant-loop-k
invariant-loop-k l = (l.left ≡ length l.bits - l.k * 64) × (l.plane ≡ loaded l.is_unknown (bits_of l.bits) l.k l.initial.plane)
