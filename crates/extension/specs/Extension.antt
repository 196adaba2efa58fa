-- How and, or, xor, merge and the comparisons of vectors read each of their two operands beside the other: document 02, point 2. Both are read at the
-- larger width (IEEE 1800-2017, 11.6.1). A fill is stretched to it, so that all its bits are its bit 0, and is then unsigned (5.7.1). Two signed
-- operands are extended by their top bits, x and z included, all others by 0 (11.8.2, 11.8.4).
use Rattle.std.specs.Prelude.{Bool, not, ◌&&◌, cond, List, ℕ, ◌-◌, ◌≤◌, max, length, get_or}
use Rattle.bit.specs.declared.LogicBit.{LogicBit}
use Rattle.bit.specs.declared.LogicBit.TheVariants.{Zero}
use Rattle.words.specs.Vector.{at}
use Rattle.words.specs.Planes.{Planes, word_count, vector_of}
use Rattle.value.specs.declared.Header.{Header}
use Rattle.value.specs.Checks.{Vector}
use Rattle.extension.specs.declared.Extent.{Extent}

-- both operands are read at the larger width
abbrev pub larger_width : Header → Header → ℕ
larger_width a b = max a.width b.width

-- the top bit; 0 of an empty vector
abbrev pub top : List LogicBit → LogicBit
top bs = at bs (length bs - 1)

-- a fill is unsigned, whatever its mark
abbrev pub read_signed : Header → Bool
read_signed h = not h.is_fill && h.is_signed

abbrev pub both_signed : Header → Header → Bool
both_signed a b = read_signed a && read_signed b

-- the bit at each place from the width on, beside an operand with the header b
abbrev pub extension : Vector → Header → LogicBit
extension a b = cond (both_signed a.header b) (top a.bits) Zero

-- place i of the operand a: a fill has its bit 0 at each place
abbrev pub operand_at : Vector → Header → ℕ → LogicBit
operand_at a b i = cond a.header.is_fill (at a.bits 0) (get_or a.bits i (extension a b))

-- the same as a width, below which the bits are the operand's own, and the bit at each place from there on
abbrev pub extent_of : Vector → Header → Extent
extent_of a b =
    cond a.header.is_fill (record { width = 0; beyond = at a.bits 0 })
    (record { width = a.header.width; beyond = extension a b })

-- place i of an operand that is read by its extent
abbrev pub extent_at : Extent → Planes → ℕ → LogicBit
extent_at a p i = get_or (vector_of a.width p) i a.beyond

-- the planes hold every word of the extent's width
abbrev pub Covers : Extent → Planes → Type 0
Covers a p = (word_count a.width ≤ length p.value) × (word_count a.width ≤ length p.unknown)
