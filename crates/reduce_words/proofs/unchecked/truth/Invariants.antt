-- `reduce_words::unchecked::truth`: what is left to be told behind k words is the truth by words.
use mathlib.Core.Path.{◌≡◌}
use Rattle.words.specs.Planes.{lent}
use Rattle.reduce_words.specs.Fold.{ones_by_words, truth_by_words}
use Rattle.reduce_words.proofs.Scan.{left}
use Rattle.reduce_words.proofs.unchecked.truth.Given as goal

abbrev pub invariant-loop-k : goal.invariant-loop-k
invariant-loop-k l = truth_by_words (lent l.value l.unknown) ≡ left (ones_by_words (lent l.value l.unknown)) l.unknown l.seen l.k
