-- Document 01, "Planes" (`splice64`, `extract64`) and "Result vector" (insert): the bits of a vector that are put in from a place on, and those
-- that are read out.
use Rattle.std.specs.Prelude.{Bool, ◌&&◌, cond, List, ℕ, ◌+◌, ◌-◌, ◌*◌, min, leb, ltb, length}
use Rattle.bit.specs.declared.LogicBit.{LogicBit}
use Rattle.bit.specs.declared.LogicBit.TheVariants.{Zero}
use Rattle.words.specs.declared.Word.{Word}
use Rattle.words.specs.Vector.{tabulate, at, bit_at, pack}
use Rattle.words.specs.Planes.{plane_bit, packed, bit_of}

-- how many bits are put in: the least of n, 64 and the width minus the position ("Result vector"); none at or above the width
abbrev pub splice_count : ℕ → ℕ → ℕ → ℕ
splice_count w pos n = min n (min 64 (w - pos))

-- place i is one of the n from the position on
abbrev pub within : ℕ → ℕ → ℕ → Bool
within pos n i = leb pos i && ltb i (pos + n)

-- the lowest bits of a word stand from the position on, as many as are put in; the other bits stay
abbrev pub spliced : List LogicBit → ℕ → ℕ → Word → List LogicBit
spliced bs pos n x =
    tabulate (length bs)
    (λ i. cond (within pos (splice_count (length bs) pos n) i) (bit_of x (i - pos)) (at bs i))

-- on the digits of one plane: the n lowest digits of x stand from the position on, as far as the plane has words
abbrev pub spliced_plane : List ℕ → ℕ → ℕ → ℕ → List ℕ
spliced_plane p pos n x =
    tabulate (length p)
    (λ k. pack 64 (λ j. cond (within pos n (k * 64 + j)) (bit_at x (k * 64 + j - pos)) (plane_bit p (k * 64 + j))))

-- the n bits from the position on, at most 64, as a word; 0 beyond them and beyond the width
abbrev pub extracted : List LogicBit → ℕ → ℕ → Word
extracted bs pos n = packed (λ j. cond (ltb j n) (at bs (pos + j)) Zero)
