-- Document 01, "Planes" and "Numbers for what is not done": what the entries of `planes` give, the answer and the lent planes as the call
-- leaves them.
use Rattle.std.specs.Prelude.{List, ℕ, set}
use Rattle.bit.specs.declared.LogicBit.{LogicBit}
use Rattle.refusal.specs.Outcome.{Answer, Outcome, outcome, after, or_refuse}
use Rattle.refusal.specs.Outcome.Answer.{given}
use Rattle.words.specs.declared.Word.{Word}
use Rattle.words.specs.Vector.{at}
use Rattle.words.specs.Planes.{masked, Planes, lent, vector_of, planes_of}
use Rattle.value.specs.Checks.{check_lengths, check_planes}
use Rattle.bits.specs.Bits.{spliced, extracted}

-- `get`: the bit; 0 at or above the width
abbrev pub get_bit : ℕ → Planes → ℕ → Answer LogicBit
get_bit w p i = after (check_planes w p) (given (at (vector_of w p) i))

-- what an entry that answers nothing leaves: the planes of the vector bs
abbrev pub leaves : List LogicBit → Outcome Unit Planes
leaves bs = outcome (given tt) (planes_of bs)

-- `set`: bit i is b; at or above the width nothing changes
abbrev pub set_bit : ℕ → Planes → ℕ → LogicBit → Outcome Unit Planes
set_bit w p i b = or_refuse (check_planes w p) p (leaves (set (vector_of w p) i b))

-- `splice64`
abbrev pub splice_bits : ℕ → Planes → ℕ → Word → ℕ → Outcome Unit Planes
splice_bits w p pos x n = or_refuse (check_planes w p) p (leaves (spliced (vector_of w p) pos n x))

-- `extract64`
abbrev pub extract_bits : ℕ → Planes → ℕ → ℕ → Answer Word
extract_bits w p pos n = after (check_planes w p) (given (extracted (vector_of w p) pos n))

-- `mask_top`
abbrev pub mask_top : ℕ → Planes → Outcome Unit Planes
mask_top w p = or_refuse (check_lengths w p) p (outcome (given tt) (lent (masked w p.value) (masked w p.unknown)))
