-- `text::unchecked::read_word`: value and unknown are the numbers of the characters read.
use mathlib.Core.Path.{◌≡◌}
use Prim.Native.Nat.{◌-◌}
use Rattle.words.specs.Planes.{value_digit, unknown_digit}
use Rattle.text.proofs.Characters.{number_in}
use Rattle.text.proofs.unchecked.read_word.Given as goal

abbrev pub invariant-loop-k : goal.invariant-loop-k
invariant-loop-k l =
    (l.value ≡ number_in value_digit l.s l.from (l.k - l.from)) × (l.unknown ≡ number_in unknown_digit l.s l.from (l.k - l.from))
