-- Document 01, "Result vector": insert, in place.
use Rattle.std.specs.Prelude.{Bool, true, not, ◌&&◌, List, ℕ, zero, suc, ◌+◌, length}
use Rattle.bit.specs.declared.LogicBit.{LogicBit}
use Rattle.bit.specs.Rules.{same}
use Rattle.refusal.specs.Outcome.{Outcome, outcome, or_refuse}
use Rattle.refusal.specs.Outcome.Answer.{given}
use Rattle.words.specs.declared.Word.{Word}
use Rattle.words.specs.Vector.{at}
use Rattle.words.specs.Planes.{Planes, planes_of, bit_of}
use Rattle.bits.specs.Bits.{splice_count, spliced}
use Rattle.value.specs.declared.Header.{Header}
use Rattle.value.specs.Checks.{vector, check_vector}

-- every one of the n places from 0 on passes the test
unfoldable pub all_below : ℕ → (ℕ → Bool) → Bool
all_below zero p = true
all_below (suc n) p = p 0 && all_below n (λ i. p (suc i))

-- the bits that are put in stand there already
abbrev pub stands : List LogicBit → ℕ → ℕ → Word → Bool
stands bs pos n x = all_below (splice_count (length bs) pos n) (λ j. same (bit_of x j) (at bs (pos + j)))

-- `splice_bits64`: no, if nothing is put in or the bits stand there already; else yes. The header is kept
abbrev pub insert_bits : Header → Planes → ℕ → Word → ℕ → Outcome Bool Planes
insert_bits a p pos x n =
    or_refuse (check_vector a p) p
    (outcome (given (not (stands (vector a p).bits pos n x))) (planes_of (spliced (vector a p).bits pos n x)))
