-- Document 01, "Answer bit", and document 02, point 2: equality (IEEE 1800-2017, 11.4.5), case, casez and casex equality (12.5), wildcard equality
-- (11.4.6).
use Rattle.std.specs.Prelude.{Bool, false, not, ◌&&◌, ◌||◌, cond, List, [], ◌∷◌, ℕ, suc, get_or}
use Rattle.std.specs.Int.Bits.{bit_and, bit_or, bit_xor}
use Rattle.bit.specs.declared.LogicBit.{LogicBit}
use Rattle.bit.specs.declared.LogicBit.TheVariants.{Zero, One, X, Z}
use Rattle.bit.specs.Rules.{same, known}
use Rattle.words.specs.declared.Word.{Word}
use Rattle.words.specs.Vector.{tabulate, pack}
use Rattle.words.specs.Planes.{Planes, bit_of, width_mask}
use Rattle.value.specs.Checks.{Vector}
use Rattle.reduce_words.specs.Fold.{any_of}
use Rattle.extension.specs.declared.Extent.{Extent}
use Rattle.extension.specs.Extension.{larger_width, operand_at, extent_at}
use Rattle.compare_words.specs.declared.Comparison.{Comparison}
use Rattle.compare_words.specs.declared.Comparison.TheVariants.{Equal, CaseEqual, CasezEqual, CasexEqual, WildcardEqual}
use Rattle.compare_words.specs.declared.Found.{Found}
use Rattle.compare_words.specs.declared.Found.TheVariants.{Mismatch, Unsure, Same}
use Rattle.compare_words.specs.declared.unchecked.Marks.{Marks}

-- ---- one place

-- two different known bits
abbrev pub known_apart : LogicBit → LogicBit → Bool
known_apart a b = (known a && known b) && not (same a b)

-- a place that makes the answer 0. Equal: two different known bits; case: different codes; casez skips places with z on either side, casex with
-- x or z; wildcard skips places where the right bit is unknown, and a left bit that is unknown is no mismatch
abbrev pub mismatch : Comparison → LogicBit → LogicBit → Bool
mismatch Equal a b = known_apart a b
mismatch CaseEqual a b = not (same a b)
mismatch CasezEqual a b = not (same a Z || same b Z) && not (same a b)
mismatch CasexEqual a b = known_apart a b
mismatch WildcardEqual a b = known_apart a b

-- a place that leaves open whether the operands are equal. Equal: an unknown bit; wildcard: a left bit that is compared and unknown; the
-- case forms have no such place
abbrev pub unsure : Comparison → LogicBit → LogicBit → Bool
unsure Equal a b = not (known a && known b)
unsure CaseEqual a b = false
unsure CasezEqual a b = false
unsure CasexEqual a b = false
unsure WildcardEqual a b = known b && not (known a)

-- ---- all places

-- a test of two bits, on a pair of them
abbrev pub on_pair : (LogicBit → LogicBit → Bool) → LogicBit × LogicBit → Bool
on_pair t p = t p.0 p.1

-- 0 if some place mismatches, else x if some place is unsure, else 1
abbrev pub decided : Comparison → List (LogicBit × LogicBit) → LogicBit
decided op ps = cond (any_of (on_pair (mismatch op)) ps) Zero (cond (any_of (on_pair (unsure op)) ps) X One)

-- the two bits at each place of the larger width
abbrev pub places : Vector → Vector → List (LogicBit × LogicBit)
places a b = tabulate (larger_width a.header b.header) (λ i. (operand_at a b.header i, operand_at b a.header i))

abbrev pub compared : Comparison → Vector → Vector → LogicBit
compared op a b = decided op (places a b)

-- ---- what a scan finds: document 01, "Answer bit", and "Which places take which form" (the scan is left at the first known mismatch)

module _ {A : Type 0} where
  -- the lowest place of a list whose member passes the test, where one does
  abbrev pub lowest : (A → Bool) → List A → ℕ
  lowest p [] = 0
  lowest p (b ∷ bs) = cond (p b) 0 (suc (lowest p bs))

-- the lowest place that mismatches; where none does, the lowest that is unsure
abbrev pub found : Comparison → List (LogicBit × LogicBit) → Found
found op ps =
    cond (any_of (on_pair (mismatch op)) ps) (Mismatch (lowest (on_pair (mismatch op)) ps))
    (cond (any_of (on_pair (unsure op)) ps) (Unsure (lowest (on_pair (unsure op)) ps)) Same)

-- the answer bit: 0 on a mismatch, x where the answer is open, else 1
abbrev pub found_bit : Found → LogicBit
found_bit (Mismatch i) = Zero
found_bit (Unsure i) = X
found_bit Same = One

-- the two bits at each place below w of two operands that are read by their extents
abbrev pub places_over : ℕ → Extent → Planes → Extent → Planes → List (LogicBit × LogicBit)
places_over w a p b q = tabulate w (λ i. (extent_at a p i, extent_at b q i))

-- ---- what the unchecked functions give

-- a one at each of the 64 places of two words that pass the test
unfoldable pub marked : (LogicBit → LogicBit → Bool) → Word → Word → ℕ
marked t a b = pack 64 (λ j. cond (t (bit_of a j) (bit_of b j)) 1 0)

abbrev pub marks_of : Comparison → Word → Word → Marks
marks_of op a b = record { apart = marked (mismatch op) a b; doubt = marked (unsure op) a b }

-- those of word k that lie below the width w
unfoldable pub cut_marks : ℕ → ℕ → Marks → Marks
cut_marks w k m = record { apart = bit_and m.apart (width_mask w k); doubt = bit_and m.doubt (width_mask w k) }

-- a one at each place of word i of two operands where their values differ or one of them is unknown
abbrev pub unlike : List ℕ → List ℕ → List ℕ → List ℕ → ℕ → ℕ
unlike av au bv bu i = bit_or (bit_or (bit_xor (get_or av i 0) (get_or bv i 0)) (get_or au i 0)) (get_or bu i 0)

-- the first bits of two words, place by place
abbrev pub word_places : ℕ → Word → Word → List (LogicBit × LogicBit)
word_places w a b = tabulate w (λ i. (bit_of a i, bit_of b i))
