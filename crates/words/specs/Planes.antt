-- Document 01, "Planes": a vector as two lists of 64-bit words, value and unknown, and back.
use Rattle.std.specs.Prelude.{◌≡◌, Bool, true, ◌&&◌, List, [], ◌∷◌, ℕ, zero, suc, ◌+◌, ◌-◌, ◌*◌, ◌/◌, ◌%◌, ◌^◌, ◌≤◌, ◌<◌, min, eqb, length, get_or, drop}
use Rattle.bit.specs.declared.LogicBit.{LogicBit}
use Rattle.bit.specs.declared.LogicBit.TheVariants.{Zero, One, X, Z}
use Rattle.words.specs.declared.Word.{Word}
use Rattle.words.specs.Vector.{tabulate, at, bit_at, pack}

-- what a bit stores in the value plane and in the unknown plane: 0 = (0,0), 1 = (1,0), x = (0,1), z = (1,1)
abbrev pub value_digit : LogicBit → ℕ
value_digit Zero = 0
value_digit One = 1
value_digit X = 0
value_digit Z = 1

abbrev pub unknown_digit : LogicBit → ℕ
unknown_digit Zero = 0
unknown_digit One = 0
unknown_digit X = 1
unknown_digit Z = 1

-- the bit that is stored as value digit v and unknown digit u
abbrev pub stored : (v u : ℕ) → LogicBit
stored zero zero = Zero
stored (suc v) zero = One
stored zero (suc u) = X
stored (suc v) (suc u) = Z

-- the larger of 1 and the width divided by 64, rounded up (subtraction stops at 0)
abbrev pub word_count : ℕ → ℕ
word_count w = (w - 1) / 64 + 1

-- bit i of a plane is bit i mod 64 of word i div 64
abbrev pub plane_bit : List ℕ → ℕ → ℕ
plane_bit p i = bit_at (get_or p (i / 64) 0) (i % 64)

-- the vector of width w that two planes hold
abbrev pub from_planes : ℕ → List ℕ → List ℕ → List LogicBit
from_planes w v u = tabulate w (λ i. stored (plane_bit v i) (plane_bit u i))

-- word k of the plane that stores the digit d of each bit f 0, f 1, ..
abbrev pub word_of : (LogicBit → ℕ) → (ℕ → LogicBit) → ℕ → ℕ
word_of d f k = pack 64 (λ j. d (f (k * 64 + j)))

-- a word of both planes
abbrev pub word_by : ℕ → ℕ → Word
word_by v u = record { value = v; unknown = u }

-- the bits f 0, .., f 63 as a word of both planes
abbrev pub packed : (ℕ → LogicBit) → Word
packed f = record { value = pack 64 (λ j. value_digit (f j)); unknown = pack 64 (λ j. unknown_digit (f j)) }

-- word k of both planes
abbrev pub word_at : (ℕ → LogicBit) → ℕ → Word
word_at f k = packed (λ j. f (k * 64 + j))

-- bit j of a word of both planes
abbrev pub bit_of : Word → ℕ → LogicBit
bit_of x j = stored (bit_at x.value j) (bit_at x.unknown j)

-- the planes of a vector; the bits at or above the width are 0
abbrev pub plane_of : (LogicBit → ℕ) → List LogicBit → List ℕ
plane_of d bs = tabulate (word_count (length bs)) (word_of d (at bs))

abbrev pub value_plane : List LogicBit → List ℕ
value_plane = plane_of value_digit

abbrev pub unknown_plane : List LogicBit → List ℕ
unknown_plane = plane_of unknown_digit

-- the digits of a plane below w
abbrev pub plane_digits : ℕ → List ℕ → List ℕ
plane_digits w p = tabulate w (plane_bit p)

abbrev pub all_zero : List ℕ → Bool
all_zero [] = true
all_zero (d ∷ ds) = eqb d 0 && all_zero ds

-- no bit of a plane is set at or above w
abbrev pub clear_above : ℕ → List ℕ → Bool
clear_above w p = all_zero (drop w (plane_digits (length p * 64) p))

-- a plane with its bits at or above w cleared
abbrev pub cleared : ℕ → List ℕ → List ℕ
cleared w p = tabulate (length p) (λ k. pack 64 (λ j. get_or (plane_digits w p) (k * 64 + j) 0))

-- a plane that a vector of width w may have: exactly its word count, and no bit at or above w
pub record Plane (w : ℕ) (p : List ℕ) : Type 0 where
  pub count : length p ≡ word_count w
  pub clear : (i : ℕ) → w ≤ i → plane_bit p i ≡ 0

-- `mask_top` clears the bits at or above the width; at width 0 it clears none
abbrev pub masked : ℕ → List ℕ → List ℕ
masked zero p = p
masked (suc w) p = cleared (suc w) p

-- the two planes that a call is lent
pub record Planes : Type 0 where
  pub value : List ℕ
  pub unknown : List ℕ

abbrev pub lent : List ℕ → List ℕ → Planes
lent v u = record { value = v; unknown = u }

-- by what is lent
abbrev pub lent_by : (value unknown : List ℕ) → Planes
lent_by v u = lent v u

abbrev pub vector_of : ℕ → Planes → List LogicBit
vector_of w p = from_planes w p.value p.unknown

abbrev pub planes_of : List LogicBit → Planes
planes_of bs = lent (value_plane bs) (unknown_plane bs)

-- ---- in the numbers of the words themselves (document 02, point 4)

-- the words of both planes are 64-bit numbers, as those of every slice are
pub record Words64 (p : Planes) : Type 0 where
  pub value-words : (k : ℕ) → get_or p.value k 0 < 2 ^ 64
  pub unknown-words : (k : ℕ) → get_or p.unknown k 0 < 2 ^ 64

-- word k of two planes that are lent
abbrev pub word_in : Planes → ℕ → Word
word_in p k = word_by (get_or p.value k 0) (get_or p.unknown k 0)

-- a 64-bit number with each digit exchanged, as by `!`
abbrev pub complement : ℕ → ℕ
complement x = (2 ^ 64 - 1) - x

-- a one at each place of word k that lies below the width w
abbrev pub width_mask : ℕ → ℕ → ℕ
width_mask w k = 2 ^ min 64 (w - k * 64) - 1
