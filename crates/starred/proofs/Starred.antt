-- Every case holds, by computation.
use mathlib.Core.Path.{refl}
use lib.Ieee.{of_int, of_bits, eq}
use Rattle.words.specs.Vector.{tabulate, pack}
use Rattle.real_equal.specs.Numeric.{vector_integer}
use Rattle.starred.specs.Starred.{Hold, starred, point_two, point_three, point_four_not, point_four_truth, point_five}

pub starred-hold : Hold starred
unfolding tabulate
starred-hold = refl

pub point-two-hold : Hold point_two
unfolding tabulate
point-two-hold = refl

pub point-three-hold : Hold point_three
unfolding tabulate pack vector_integer of_int of_bits eq
point-three-hold = refl

pub point-four-not-hold : Hold point_four_not
unfolding tabulate
point-four-not-hold = refl

pub point-four-truth-hold : Hold point_four_truth
unfolding tabulate
point-four-truth-hold = refl

pub point-five-hold : Hold point_five
point-five-hold = refl
