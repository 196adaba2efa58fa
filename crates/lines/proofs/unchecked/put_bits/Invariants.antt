-- `lines::unchecked::put_bits`: the k highest bits are written.
use mathlib.Core.Path.{◌≡◌}
use Prim.Native.Nat.{◌+◌, ◌-◌}
use Rattle.words.specs.Planes.{from_planes}
use Rattle.lines.specs.Buffer.{buffer}
use Rattle.lines.proofs.Put.{with_bits}
use Rattle.lines.proofs.unchecked.put_bits.Given as goal

abbrev pub invariant-loop-k : goal.invariant-loop-k
invariant-loop-k l = buffer l.out (l.at + (l.width - l.k)) ≡ with_bits l.initial.out l.at (from_planes l.width l.value l.unknown) l.k
