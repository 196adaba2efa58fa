-- Document 01, "Answer bit": the reductions (IEEE 1800-2017, 11.4.9) and truth (11.4.7), of a vector's bits; document 02, point 4: truth by the words
-- of its planes.
use Rattle.std.specs.Prelude.{Bool, true, false, not, ◌||◌, cond, List, [], ◌∷◌, ℕ, ◌+◌, ◌%◌, eqb, length}
use Rattle.bit.specs.declared.LogicBit.{LogicBit}
use Rattle.bit.specs.declared.LogicBit.TheVariants.{Zero, One, X}
use Rattle.bit.specs.Rules.{same, known}
use Rattle.words.specs.Vector.{tabulate}
use Rattle.words.specs.Planes.{Planes, word_in}
use Rattle.lanes.specs.Lanes.{known_ones}
use Rattle.reduce_words.specs.declared.Truth.{Truth}
use Rattle.reduce_words.specs.declared.Truth.TheVariants.{False, True, Unknown}

module _ {A : Type 0} where
  -- some member of a list passes the test
  abbrev pub any_of : (A → Bool) → List A → Bool
  any_of p [] = false
  any_of p (b ∷ bs) = p b || any_of p bs

-- how many bits pass the test
abbrev pub count_of : (LogicBit → Bool) → List LogicBit → ℕ
count_of p [] = 0
count_of p (b ∷ bs) = cond (p b) 1 0 + count_of p bs

abbrev pub is_unknown : LogicBit → Bool
is_unknown b = not (known b)

-- 0 on any known 0, else x on any unknown, else 1
abbrev pub reduce_and : List LogicBit → LogicBit
reduce_and bs = cond (any_of (same Zero) bs) Zero (cond (any_of is_unknown bs) X One)

-- 1 on any known 1, else x on any unknown, else 0
abbrev pub reduce_or : List LogicBit → LogicBit
reduce_or bs = cond (any_of (same One) bs) One (cond (any_of is_unknown bs) X Zero)

-- x on any unknown, else whether the number of ones is odd
abbrev pub reduce_xor : List LogicBit → LogicBit
reduce_xor bs = cond (any_of is_unknown bs) X (cond (eqb (count_of (same One) bs % 2) 0) Zero One)

abbrev pub known_bit : Bool → LogicBit
known_bit true = One
known_bit false = Zero

-- whether the known bit b stands in a vector: true where it does, else unknown on an unknown bit, else false
abbrev pub contains : LogicBit → List LogicBit → Truth
contains b bs = cond (any_of (same b) bs) True (cond (any_of is_unknown bs) Unknown False)

-- true on a known 1, else unknown on an unknown bit, else false
abbrev pub truth_of : List LogicBit → Truth
truth_of = contains One

-- ---- by words, in their numbers (document 02, point 4)

abbrev pub not_zero : ℕ → Bool
not_zero x = not (eqb x 0)

-- of each word the places that are set in value and clear in unknown
abbrev pub ones_by_words : Planes → List ℕ
ones_by_words p = tabulate (length p.value) (λ k. known_ones (word_in p k))

-- true if some word has such a place, else unknown if some unknown word is not 0, else false
abbrev pub truth_by_words : Planes → Truth
truth_by_words p = cond (any_of not_zero (ones_by_words p)) True (cond (any_of not_zero p.unknown) Unknown False)

-- a truth as a bit, x where it is unknown
abbrev pub truth_bit : Truth → LogicBit
truth_bit False = Zero
truth_bit True = One
truth_bit Unknown = X
