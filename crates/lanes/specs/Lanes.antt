-- The rules on single bits (document 01, "Bit code"; IEEE 1800-2017, 11.4.8 and 11.4.11) at each of the 64 places of a word of both planes
-- (document 01, "Planes"); not, and where a known 1 stands, in the numbers of the words (document 02, point 4).
use Rattle.std.specs.Prelude.{ℕ}
use Rattle.std.specs.Int.Bits.{bit_and, bit_or}
use Rattle.bit.specs.declared.LogicBit.{LogicBit}
use Rattle.bit.specs.Rules.{and_bit, or_bit, xor_bit, merge_bit}
use Rattle.words.specs.declared.Word.{Word}
use Rattle.words.specs.Planes.{packed, bit_of, word_by, complement}
use Rattle.lanes.specs.declared.Bitwise.{Bitwise}
use Rattle.lanes.specs.declared.Bitwise.TheVariants.{And, Or, Xor, Merge}

-- the operator's rule on single bits
abbrev pub op_bit : Bitwise → LogicBit → LogicBit → LogicBit
op_bit And = and_bit
op_bit Or = or_bit
op_bit Xor = xor_bit
op_bit Merge = merge_bit

-- a rule at each place of two words
unfoldable pub lane_word : (LogicBit → LogicBit → LogicBit) → Word → Word → Word
lane_word f a b = packed (λ j. f (bit_of a j) (bit_of b j))

-- not at the places where the mask has a one, and 0 elsewhere: 1 where neither number has a one, x where the second has one
abbrev pub not_word : Word → (mask : ℕ) → Word
not_word x mask = word_by (bit_and (complement (bit_or x.value x.unknown)) mask) (bit_and x.unknown mask)

-- a one at each place that is set in value and clear in unknown
abbrev pub known_ones : Word → ℕ
known_ones x = bit_and x.value (complement x.unknown)
