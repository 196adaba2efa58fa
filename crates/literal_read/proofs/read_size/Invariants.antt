-- `literal_read::read_size`: what is left of the text at the place reached is a literal as all of it is.
use mathlib.Core.Path.{◌≡◌}
use Prim.Native.Nat.{◌≤◌}
use lib.ListN.{drop}
use Rattle.literal_read.specs.Literal.{literal}
use Rattle.literal_read.proofs.Sizes.{size_left}
use Rattle.literal_read.proofs.read_size.Given as goal

abbrev pub invariant-loop-i : goal.invariant-loop-i
invariant-loop-i l = (l.width ≤ 4096) × (literal l.s ≡ size_left l.width (drop l.i l.s))
