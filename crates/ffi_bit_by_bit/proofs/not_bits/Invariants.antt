-- `not_bits`: the words below k are those of the inverted vector.
use mathlib.Core.List.{List}
use Prim.Native.Nat.{ℕ}
use lib.ListN.{length}
use Rattle.bit.specs.declared.LogicBit.{LogicBit}
use Rattle.words.specs.Vector.{at, FilledTo}
use Rattle.words.specs.Planes.{value_digit, unknown_digit, from_planes, word_of}
use Rattle.bitwise_words.specs.Joined.{inverted}
use Rattle.ffi_bit_by_bit.proofs.not_bits.Given as goal

-- the result
abbrev pub result : ℕ → List ℕ → List ℕ → List LogicBit
result w v u = inverted (from_planes w v u)

abbrev pub invariant-loop-k : goal.invariant-loop-k
invariant-loop-k l =
    FilledTo 0 (word_of value_digit (at (result l.width l.av l.au))) (length l.initial.ov) l.k l.ov
    × FilledTo 0 (word_of unknown_digit (at (result l.width l.av l.au))) (length l.initial.ou) l.k l.ou
