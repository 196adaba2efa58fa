-- `text::unchecked::one_of`: the lines that were not tried yet give what all of them do.
use mathlib.Core.Path.{◌≡◌}
use Prim.Native.Nat.{◌≤◌}
use lib.ListN.{drop}
use Rattle.text.specs.Read.{one_of, lines_in}
use Rattle.text.proofs.Names.{left}
use Rattle.text.proofs.unchecked.one_of.Given as goal

abbrev pub invariant-loop-j : goal.invariant-loop-j
invariant-loop-j l =
    (l.number ≤ l.start)
    × (l.start ≤ l.j)
    × (one_of (lines_in l.lines) 0 (drop l.at l.s) ≡ left l.lines (drop l.at l.s) l.start l.j l.number)
