-- `text::number_line`: what is left of the number at the place reached reads as all of it does behind the key.
use mathlib.Core.Path.{◌≡◌}
use mathlib.Core.Bool.{false}
use Prim.Native.Nat.{◌≤◌}
use lib.Dec.{ltb}
use lib.ListN.{drop}
use Rattle.text.specs.Read.{number}
use Rattle.text.proofs.Turns.{rest}
use Rattle.text.proofs.number_line.Given as goal

abbrev pub invariant-loop-i : goal.invariant-loop-i
invariant-loop-i l =
    (l.v ≤ l.limit)
    × (ltb l.from l.i ≡ false → l.v ≡ 0)
    × (number l.limit (drop l.from l.s) ≡ rest l.limit (ltb l.from l.i) l.v (drop l.i l.s))
