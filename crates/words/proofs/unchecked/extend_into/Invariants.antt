-- `words::unchecked::extend_into`: the words below k are those of the vector.
use mathlib.Core.List.{List}
use Prim.Native.Nat.{ℕ}
use lib.ListN.{length, get_or}
use Rattle.bit.specs.declared.LogicBit.{LogicBit}
use Rattle.words.specs.Vector.{tabulate, at, FilledTo}
use Rattle.words.specs.Planes.{value_digit, unknown_digit, from_planes, word_of}
use Rattle.words.proofs.unchecked.extend_into.Given as goal

-- what is written
abbrev pub vector : ℕ → List ℕ → List ℕ → ℕ → LogicBit → List LogicBit
vector w v u from b = tabulate w (λ i. get_or (from_planes from v u) i b)

abbrev pub invariant-loop-k : goal.invariant-loop-k
invariant-loop-k l =
    FilledTo 0 (word_of value_digit (at (vector l.width l.from_value l.from_unknown l.from_width l.beyond))) (length l.initial.value) l.k l.value
    × FilledTo 0 (word_of unknown_digit (at (vector l.width l.from_value l.from_unknown l.from_width l.beyond))) (length l.initial.unknown) l.k l.unknown
