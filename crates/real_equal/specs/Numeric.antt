-- Document 01, "Real equality": the real that an operand counts as beside a real, and equality by it.
use Rattle.std.specs.Prelude.{ℕ, ◌-◌, ◌^◌, min, max, Bool, false, cond, List, length, ℤ, pos, nat_le, Float}
use Rattle.std.proofs.Math.IntN.{sub_ℕ}
use Rattle.std.specs.Float.Ieee as Ieee
use Rattle.std.specs.Float.{binary64}
use Rattle.refusal.specs.Outcome.{Answer, after}
use Rattle.refusal.specs.Outcome.Answer.{given}
use Rattle.bit.specs.declared.LogicBit.{LogicBit}
use Rattle.bit.specs.declared.LogicBit.TheVariants.{Zero, One, X, Z}
use Rattle.words.specs.Vector.{tabulate, at, pack}
use Rattle.words.specs.Planes.{Planes, Plane}
use Rattle.value.specs.declared.Operand.{Operand}
use Rattle.value.specs.declared.Operand.TheVariants as operand
use Rattle.value.specs.Checks.{Vector, vector, check_operand}
use Rattle.reduce_words.specs.Fold.{known_bit}

-- unknown bits count as 0
abbrev pub counted : LogicBit → ℕ
counted Zero = 0
counted One = 1
counted X = 0
counted Z = 0

-- the number of a vector's low 64 bits (beyond its width `at` is 0)
abbrev pub low_number : List LogicBit → ℕ
low_number bs = pack 64 (λ i. counted (at bs i))

-- w bits in two's complement: from 2 ^ (w - 1) on, the number n stands for n - 2 ^ w
abbrev pub twos_complement : ℕ → ℕ → ℤ
twos_complement w n = cond (nat_le (2 ^ (w - 1)) n) (sub_ℕ n (2 ^ w)) (pos n)

-- only the low 64 bits count, in two's complement if signed
abbrev pub integer_of : Bool → List LogicBit → ℤ
integer_of signed bs = cond signed (twos_complement (min 64 (length bs)) (low_number bs)) (pos (low_number bs))

-- a fill stretched to the larger of 64 and its width: all its bits become its bit 0
abbrev pub stretched_fill : List LogicBit → List LogicBit
stretched_fill bs = tabulate (max 64 (length bs)) (λ i. at bs 0)

-- the integer of a vector; a fill is first stretched, and is then unsigned
unfoldable pub vector_integer : Vector → ℤ
vector_integer v =
    cond v.header.is_fill (integer_of false (stretched_fill v.bits)) (integer_of v.header.is_signed v.bits)

-- a vector's integer, rounded to nearest, ties to even (IEEE 754); a real is itself
abbrev pub real_of : Operand → Planes → Float
real_of (operand.Vector h) p = Ieee.of_int binary64 (vector_integer (vector h p))
real_of (operand.Real x) p = x

-- what an operand that is not refused has: a vector's planes are whole; of a real nothing is asked
abbrev pub WholePlanes : Operand → Planes → Type 0
WholePlanes (operand.Vector h) p = Plane h.width p.value × Plane h.width p.unknown
WholePlanes (operand.Real x) p = Unit

-- where either is a real, both count as reals, compared as IEEE 754 does
abbrev pub equal_reals : Operand → Planes → Operand → Planes → LogicBit
equal_reals a p b q = known_bit (Ieee.eq (real_of a p) (real_of b q))

-- the left operand is refused first
abbrev pub real_equality : Operand → Planes → Operand → Planes → Answer LogicBit
real_equality a p b q = after (check_operand a p) (after (check_operand b q) (given (equal_reals a p b q)))
