-- `words::unchecked::copy_front`: the first i words are copied (`paste`).
use mathlib.Core.Path.{◌≡◌}
use lib.ListN.{length}
use lib.Seq.{paste}
use Rattle.words.proofs.unchecked.copy_front.Given as goal

abbrev pub invariant-loop-i : goal.invariant-loop-i
invariant-loop-i l = l.plane ≡ paste l.initial.plane 0 l.from l.i
