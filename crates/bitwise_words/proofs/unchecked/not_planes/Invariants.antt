-- `bitwise_words::unchecked::not_planes`: the words below k are those of not, by words; at the end the last one is, and the law gives the bits.
use lib.ListN.{length}
use Rattle.words.specs.Vector.{FilledTo}
use Rattle.words.specs.Planes.{lent}
use Rattle.bitwise_words.specs.Joined.{inverted_word}
use Rattle.bitwise_words.proofs.unchecked.not_planes.Given as goal

abbrev pub invariant-loop-k : goal.invariant-loop-k
invariant-loop-k l =
    FilledTo 0 (λ i. (inverted_word l.width (lent l.av l.au) i).value) (length l.initial.ov) l.k l.ov
    × FilledTo 0 (λ i. (inverted_word l.width (lent l.av l.au) i).unknown) (length l.initial.ou) l.k l.ou
