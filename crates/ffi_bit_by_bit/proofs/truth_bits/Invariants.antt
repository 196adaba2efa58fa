-- `truth_bits`: no bit below i is a known 1, and `seen` tells whether one is unknown.
use Rattle.words.specs.Planes.{from_planes}
use Rattle.ffi_bit_by_bit.proofs.Scan.{Read}
use Rattle.ffi_bit_by_bit.proofs.truth_bits.Given as goal

abbrev pub invariant-loop-i : goal.invariant-loop-i
invariant-loop-i l = Read (from_planes l.width l.value l.unknown) l.seen l.i
