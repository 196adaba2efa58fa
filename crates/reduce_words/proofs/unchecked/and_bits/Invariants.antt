-- `reduce_words::unchecked::and_bits`: what is left to be told behind k words is whether a known 0 stands in the vector, else an unknown bit.
use mathlib.Core.Path.{◌≡◌}
use Rattle.bit.specs.declared.LogicBit.TheVariants.{Zero}
use Rattle.words.specs.Planes.{from_planes, lent}
use Rattle.reduce_words.specs.Fold.{contains}
use Rattle.reduce_words.proofs.ByWords.{known_zeros}
use Rattle.reduce_words.proofs.Scan.{left}
use Rattle.reduce_words.proofs.unchecked.and_bits.Given as goal

abbrev pub invariant-loop-k : goal.invariant-loop-k
invariant-loop-k l =
    contains Zero (from_planes l.width l.value l.unknown) ≡ left (known_zeros l.width (lent l.value l.unknown)) l.unknown l.seen l.k
