-- `not_word`: value and unknown are the numbers of the inverted bits from i on.
use mathlib.Core.Path.{◌≡◌}
use Prim.Native.Nat.{◌*◌, ◌≤◌}
use Rattle.words.specs.Planes.{value_digit, unknown_digit, from_planes}
use Rattle.bitwise_words.specs.Joined.{inverted}
use Rattle.ffi_bit_by_bit.proofs.Number.{number}
use Rattle.ffi_bit_by_bit.proofs.not_word.Given as goal

abbrev pub invariant-loop-i : goal.invariant-loop-i
invariant-loop-i l = record {
  from : l.k * 64 ≤ l.i;
  value : l.value ≡ number value_digit (inverted (from_planes l.width l.av l.au)) l.end l.i;
  unknown : l.unknown ≡ number unknown_digit (inverted (from_planes l.width l.av l.au)) l.end l.i;
}
