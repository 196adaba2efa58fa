-- `bitwise_words::unchecked::join_words`: the words below k are the lanes of the operands' words.
use lib.ListN.{length}
use Rattle.words.specs.Planes.{lent}
use Rattle.words.specs.Vector.{FilledTo}
use Rattle.bitwise_words.specs.Joined.{joined_word}
use Rattle.bitwise_words.proofs.unchecked.join_words.Given as goal

abbrev pub invariant-loop-k : goal.invariant-loop-k
invariant-loop-k l =
    FilledTo 0 (λ i. (joined_word l.op (lent l.av l.au) (lent l.bv l.bu) i).value) (length l.initial.ov) l.k l.ov
    × FilledTo 0 (λ i. (joined_word l.op (lent l.av l.au) (lent l.bv l.bu) i).unknown) (length l.initial.ou) l.k l.ou
