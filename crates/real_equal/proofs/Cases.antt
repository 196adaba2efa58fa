-- What an operand counts as beside a real, on worked cases, by computation.
use Rattle.std.proofs.Common.{◌≡◌, ◌+◌, ◌^◌, true, false, [], ◌∷◌, pos, refl}
use lib.Count.{count_trailing_zeros}
use lib.Ieee.{fin, of_int, round, size, span, climb, units, odd, eq}
use Rattle.words.specs.Vector.{tabulate, pack}
use Rattle.words.specs.Planes.{lent}
use Rattle.value.specs.declared.Operand.TheVariants.{Vector, Real}
use Rattle.value.specs.Checks.{plain}
use Rattle.real_equal.specs.Numeric.{vector_integer, real_of}

-- 2 ^ 53 equals unsigned 2 ^ 53 + 1
ties-to-even : eq (real_of (Real (fin false 1 (pos 53))) (lent [] [])) (real_of (Vector (plain 54)) (lent ((2 ^ 53 + 1) ∷ []) (0 ∷ []))) ≡ true
unfolding eq of_int round size span climb units odd count_trailing_zeros vector_integer tabulate pack
ties-to-even = refl

-- a signed 1 of width 1 is -1
signed-one : real_of (Vector (record { width = 1; is_signed = true; is_fill = false })) (lent (1 ∷ []) (0 ∷ [])) ≡ fin true 1 (pos 0)
unfolding of_int round size span climb units odd count_trailing_zeros vector_integer tabulate pack
signed-one = refl

-- a fill of width 1 that holds 1 is 2 ^ 64 - 1, which is rounded to 2 ^ 64
fill_one : real_of (Vector (record { width = 1; is_signed = true; is_fill = true })) (lent (1 ∷ []) (0 ∷ [])) ≡ fin false 1 (pos 64)
unfolding of_int round size span climb units odd count_trailing_zeros vector_integer tabulate pack
fill_one = refl
