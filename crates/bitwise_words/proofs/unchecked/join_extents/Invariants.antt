-- `bitwise_words::unchecked::join_extents`: whole words straight from the planes; behind them the words below k are those of the result.
use Rattle.words.specs.Vector.{at, FilledTo}
use Rattle.words.specs.Planes.{value_digit, unknown_digit, word_count, word_of, lent}
use Rattle.bitwise_words.specs.Joined.{joined_over}
use Rattle.bitwise_words.proofs.unchecked.join_extents.Given as goal

abbrev pub invariant-loop-k : goal.invariant-loop-k
invariant-loop-k l =
    FilledTo 0 (word_of value_digit (at (joined_over l.op l.width l.x (lent l.av l.au) l.y (lent l.bv l.bu)))) (word_count l.width) l.k l.ov
    × FilledTo 0 (word_of unknown_digit (at (joined_over l.op l.width l.x (lent l.av l.au) l.y (lent l.bv l.bu)))) (word_count l.width) l.k l.ou
