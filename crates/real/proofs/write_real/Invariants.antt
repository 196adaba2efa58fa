-- `real::write_real`: the words below k are those of the vector, and `zeros` says whether those of the size are all 0.
use Rattle.std.proofs.Common.{◌≡◌, ◌*◌, ◌%◌, ◌^◌, eqb, length}
use Rattle.words.specs.Vector.{at, FilledTo}
use Rattle.words.specs.Planes.{value_digit, unknown_digit, word_of}
use Rattle.real.specs.Round.{real_vector}
use Rattle.real.proofs.write_real.Given as goal

abbrev pub invariant-loop-k : goal.invariant-loop-k
invariant-loop-k l =
    (l.zeros ≡ eqb (l.digits * 2 ^ l.shift % 2 ^ (l.k * 64)) 0)
    × FilledTo 0 (word_of value_digit (at (real_vector l.width l.f))) (length l.initial.value) l.k l.value
    × FilledTo 0 (word_of unknown_digit (at (real_vector l.width l.f))) (length l.initial.unknown) l.k l.unknown
