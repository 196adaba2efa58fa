-- `compare_words::unchecked::scan_extents`: no place below word k mismatches; `doubt` is not 0 where one of them is unsure, and the lowest of these is that
-- of `first` in word `at`. The bits of a word that are left after j of them, times 2 ^ j, are the word.
use Rattle.std.proofs.Common.{None}
use mathlib.Core.Path.{◌≡◌}
use Prim.Native.Nat.{◌*◌, ◌^◌, ◌<◌}
use Rattle.words.specs.Planes.{lent}
use Rattle.compare_words.specs.Compared.{places_over}
use Rattle.compare_words.proofs.Places.{Scanned}
use Rattle.compare_words.proofs.unchecked.scan_extents.Given as goal

abbrev pub invariant-loop-bits : goal.invariant-loop-bits
invariant-loop-bits l =
    (l.mismatch ≡ None) × (l.initial.bits ≡ l.bits * 2 ^ l.j) × (l.bits * 2 ^ l.j < 2 ^ 64)

abbrev pub decreases-loop-bits : goal.decreases-loop-bits
decreases-loop-bits l = l.bits

abbrev pub invariant-words : goal.invariant-words
invariant-words l =
    (l.mismatch ≡ None) × Scanned l.op (places_over l.width l.a (lent l.av l.au) l.b (lent l.bv l.bu)) l.doubt l.first l.at l.k
