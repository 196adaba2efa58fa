-- `text::unchecked::fill_planes`: the words below k are those of the vector, and `left` characters are not yet read.
use mathlib.Core.Path.{◌≡◌}
use Prim.Native.Nat.{◌-◌, ◌*◌}
use lib.ListN.{length}
use Rattle.words.specs.Vector.{at, FilledTo}
use Rattle.words.specs.Planes.{value_digit, unknown_digit, word_of}
use Rattle.text.specs.Answers.{bits_in}
use Rattle.text.proofs.unchecked.fill_planes.Given as goal

abbrev pub invariant-loop-k : goal.invariant-loop-k
invariant-loop-k l =
    (l.left ≡ l.width - l.k * 64)
    × FilledTo 0 (word_of value_digit (at (bits_in l.s l.place l.width))) (length l.initial.value) l.k l.value
    × FilledTo 0 (word_of unknown_digit (at (bits_in l.s l.place l.width))) (length l.initial.unknown) l.k l.unknown
