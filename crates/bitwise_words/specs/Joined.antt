-- Two vectors joined place by place, and not of one, with the header of each result: document 01, "Result vector", and document 02, points 2 and 4
-- (IEEE 1800-2017, 11.4.8 and 11.4.11; 11.8.1 for the sign of merge).
use Rattle.std.specs.Prelude.{Bool, false, List, ℕ, length}
use Rattle.bit.specs.declared.LogicBit.{LogicBit}
use Rattle.bit.specs.Rules.{not_bit}
use Rattle.words.specs.declared.Word.{Word}
use Rattle.words.specs.Vector.{tabulate, at}
use Rattle.words.specs.Planes.{Planes, lent, word_count, word_in, width_mask}
use Rattle.value.specs.declared.Header.{Header}
use Rattle.value.specs.Checks.{Vector}
use Rattle.extension.specs.declared.Extent.{Extent}
use Rattle.extension.specs.Extension.{larger_width, both_signed, operand_at, extent_at}
use Rattle.lanes.specs.Lanes.{op_bit, lane_word, not_word}
use Rattle.lanes.specs.declared.Bitwise.{Bitwise}
use Rattle.lanes.specs.declared.Bitwise.TheVariants.{And, Or, Xor, Merge}

-- word k of two pairs of planes, joined at each of its 64 places (document 01, "Planes")
abbrev pub joined_word : Bitwise → Planes → Planes → ℕ → Word
joined_word op p q k = lane_word (op_bit op) (word_in p k) (word_in q k)

-- the rule at each place of two settled operands, each read by its extent, at width w (document 01, "Result vector"; what is settled is told by
-- `extent_of`)
abbrev pub joined_over : Bitwise → ℕ → Extent → Planes → Extent → Planes → List LogicBit
joined_over op w a p b q =
    tabulate w (λ i. op_bit op (extent_at a p i) (extent_at b q i))

-- the rule at each place of the larger width
abbrev pub joined : Bitwise → Vector → Vector → List LogicBit
joined op a b =
    tabulate (larger_width a.header b.header)
    (λ i. op_bit op (operand_at a b.header i) (operand_at b a.header i))

-- 0 and 1 exchanged, x and z give x
abbrev pub inverted : List LogicBit → List LogicBit
inverted bs = tabulate (length bs) (λ i. not_bit (at bs i))

-- the same by words (document 02, point 4): word k of not, by the operand's word k and the width
abbrev pub inverted_word : ℕ → Planes → ℕ → Word
inverted_word w p k = not_word (word_in p k) (width_mask w k)

-- every word that a vector of width w has
abbrev pub inverted_planes : ℕ → Planes → Planes
inverted_planes w p =
    lent (tabulate (word_count w) (λ k. (inverted_word w p k).value)) (tabulate (word_count w) (λ k. (inverted_word w p k).unknown))

-- ---- the header of a result

-- and, or and xor are unsigned; merge is signed if both operands are read as signed
abbrev pub result_signed : Bitwise → Header → Header → Bool
result_signed And a b = false
result_signed Or a b = false
result_signed Xor a b = false
result_signed Merge a b = both_signed a b

-- no result is a fill
abbrev pub result_header : Bitwise → Header → Header → Header
result_header op a b = record { width = larger_width a b; is_signed = result_signed op a b; is_fill = false }

-- not: width and sign kept, no fill
abbrev pub not_header : Header → Header
not_header a = record { width = a.width; is_signed = a.is_signed; is_fill = false }
