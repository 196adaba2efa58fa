-- The worked cases of document 01 for reals, by computation; vectors are written lowest bit first.
use Rattle.std.proofs.Common.{◌≡◌, ℕ, true, false, List, [], ◌∷◌, pos, refl}
use lib.Ieee.{Float, nan, inf, fin, binary64, of_bits}
use Rattle.bit.specs.declared.LogicBit.{LogicBit}
use Rattle.bit.specs.declared.LogicBit.TheVariants.{Zero, One}
use Rattle.refusal.specs.Outcome.{refuse, outcome}
use Rattle.refusal.specs.Outcome.Answer.{given}
use Rattle.words.specs.Vector.{tabulate, pack}
use Rattle.words.specs.Planes.{Planes, lent}
use Rattle.value.specs.Checks.{plain, check_output}
use Rattle.real.specs.Round.{rounded, wrapped, real_vector, from_real}

-- ---- real to width 4

-- the vector of the real that a bit pattern stands for
abbrev of_pattern : ℕ → List LogicBit
of_pattern b = real_vector 4 (of_bits binary64 b)

-- 2.5 gives 0011
half_up : of_pattern 0x4004_0000_0000_0000 ≡ One ∷ One ∷ Zero ∷ Zero ∷ []
unfolding of_bits rounded wrapped real_vector tabulate
half_up = refl

-- -0.5 gives 1111
half_down : of_pattern 0xbfe0_0000_0000_0000 ≡ One ∷ One ∷ One ∷ One ∷ []
unfolding of_bits rounded wrapped real_vector tabulate
half_down = refl

-- 0.49999999999999994 gives 0000
below_half : of_pattern 0x3fdf_ffff_ffff_ffff ≡ Zero ∷ Zero ∷ Zero ∷ Zero ∷ []
unfolding of_bits rounded wrapped real_vector tabulate
below_half = refl

-- ---- the entry: infinite and NaN give 0, width 0 is taken as 1, 1,048,577 is refused 1

infinite : from_real (inf true) 4 (lent (7 ∷ []) (7 ∷ [])) ≡ outcome (given (plain 4)) (lent (0 ∷ []) (0 ∷ []))
unfolding rounded wrapped real_vector tabulate pack check_output
infinite = refl

not-a-number : from_real nan 4 (lent (7 ∷ []) (7 ∷ [])) ≡ outcome (given (plain 4)) (lent (0 ∷ []) (0 ∷ []))
unfolding rounded wrapped real_vector tabulate pack check_output
not-a-number = refl

width-0 : from_real (fin false 3 (pos 0)) 0 (lent (7 ∷ []) (7 ∷ [])) ≡ outcome (given (plain 1)) (lent (1 ∷ []) (0 ∷ []))
unfolding rounded wrapped real_vector tabulate pack check_output
width-0 = refl

-- -2 at width 65, over the word edge
width-65 : from_real (fin true 1 (pos 1)) 65 (lent (7 ∷ 7 ∷ []) (7 ∷ 7 ∷ [])) ≡ outcome (given (plain 65)) (lent (0xffff_ffff_ffff_fffe ∷ 1 ∷ []) (0 ∷ 0 ∷ []))
unfolding rounded wrapped real_vector tabulate pack check_output
width-65 = refl

too_wide : (x : Float) (p : Planes) → from_real x 1048577 p ≡ refuse 1 p
too_wide x p = refl
