-- `lines::unchecked::put_bytes`: the first j bytes are written.
use mathlib.Core.Path.{◌≡◌}
use Prim.Native.Nat.{◌+◌}
use lib.ListN.{take}
use Rattle.lines.specs.Buffer.{buffer, put}
use Rattle.lines.proofs.unchecked.put_bytes.Given as goal

abbrev pub invariant-loop-j : goal.invariant-loop-j
invariant-loop-j l = buffer l.out (l.at + l.j) ≡ put (buffer l.initial.out l.at) (take l.j l.bytes)
