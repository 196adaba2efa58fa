-- The value of a sized literal and the bits that it stands for: IEEE 1800-2017, 5.7.1, with `?` for z; document 02, point 1. A text is a list of
-- bytes, and a base is its letter.
use Rattle.std.specs.Prelude.{Bool, true, false, not, ◌&&◌, ◌||◌, cond, List, [], ◌∷◌, ◌++◌, ℕ, ◌+◌, ◌-◌, ◌*◌, ◌%◌, ◌^◌, eqb, leb, ltb, get_or}
use Rattle.std.specs.Prelude.{Option, Some, None, unwrap_or}
use Rattle.bit.specs.declared.LogicBit.{LogicBit}
use Rattle.bit.specs.declared.LogicBit.TheVariants.{Zero, X, Z}
use Rattle.words.specs.Vector.{tabulate, bit_at}
use Rattle.words.specs.Planes.{stored}

-- the largest size of a literal
abbrev pub max_size : ℕ
max_size = 4096

-- ---- characters, each letter in either case

abbrev pub is_underscore : ℕ → Bool
is_underscore c = eqb c 95

-- x X
abbrev pub is_x : ℕ → Bool
is_x c = eqb c 120 || eqb c 88

-- z Z ?
abbrev pub is_z : ℕ → Bool
is_z c = eqb c 122 || (eqb c 90 || eqb c 63)

abbrev pub is_unknown : ℕ → Bool
is_unknown c = is_x c || is_z c

-- from lo to hi
abbrev pub between : ℕ → ℕ → ℕ → Bool
between lo hi c = leb lo c && leb c hi

-- the number of a digit 0 to 9, a to f, A to F
abbrev pub digit_of : ℕ → Option ℕ
digit_of c =
    cond (between 48 57 c) (Some (c - 48)) (cond (between 97 102 c) (Some (c - 87)) (cond (between 65 70 c) (Some (c - 55)) None))

-- that number; 16, which no base has, for any other character
unfoldable pub digit_number : ℕ → ℕ
digit_number c = unwrap_or (digit_of c) 16

-- ---- bases: b, o, d, else h

abbrev pub is_b : ℕ → Bool
is_b c = eqb c 98 || eqb c 66

abbrev pub is_o : ℕ → Bool
is_o c = eqb c 111 || eqb c 79

abbrev pub is_d : ℕ → Bool
is_d c = eqb c 100 || eqb c 68

unfoldable pub radix : ℕ → ℕ
radix base = cond (is_b base) 2 (cond (is_o base) 8 (cond (is_d base) 10 16))

-- how many bits a digit of b, o, h gives
unfoldable pub digit_width : ℕ → ℕ
digit_width base = cond (is_b base) 1 (cond (is_o base) 3 4)

-- ---- values

-- a value without its underscores
unfoldable pub digits : List ℕ → List ℕ
digits [] = []
digits (c ∷ t) = cond (is_underscore c) (digits t) (c ∷ digits t)

-- the number that digits in base r go on to from n, f being the number of a digit
unfoldable pub number_by : (r : ℕ) → (ℕ → ℕ) → ℕ → List ℕ → ℕ
number_by r f n [] = n
number_by r f n (c ∷ t) = number_by r f (n * r + f c) t

-- the number of a decimal
abbrev pub decimal_number : List ℕ → ℕ
decimal_number t = number_by 10 digit_number 0 (digits t)

-- bit i of a digit: x and z at each place, or of its number
unfoldable pub digit_bit : ℕ → ℕ → LogicBit
digit_bit c i = cond (is_x c) X (cond (is_z c) Z (stored (bit_at (digit_number c) i) 0))

-- n bits of each digit, lowest first; the digit that is written first is the highest
unfoldable pub digits_bits : ℕ → List ℕ → List LogicBit
digits_bits n [] = []
digits_bits n (c ∷ t) = digits_bits n t ++ tabulate n (digit_bit c)

-- the bit beyond the digits: x or z if the first digit is one, else 0
unfoldable pub leading : List ℕ → LogicBit
leading [] = Zero
leading (c ∷ t) = cond (is_x c) X (cond (is_z c) Z Zero)

-- the number modulo 2 to the width; an x or z is one at each place
unfoldable pub decimal_bits : ℕ → List ℕ → List LogicBit
decimal_bits w [] = []
decimal_bits w (c ∷ t) =
    cond (is_unknown c) (tabulate w (λ i. leading (c ∷ t))) (tabulate w (λ i. stored (bit_at (decimal_number (c ∷ t) % 2 ^ w) i) 0))

-- the vector of width w that a value stands for: too few digits are extended, of too many the upper bits go
unfoldable pub value_bits : ℕ → ℕ → List ℕ → List LogicBit
value_bits base w t =
    cond (is_d base) (decimal_bits w t) (tabulate w (λ i. get_or (digits_bits (digit_width base) (digits t)) i (leading t)))

-- ---- which values a base has

-- the digits of a base; a decimal has no x and no z beside others
unfoldable pub is_digit_of : ℕ → ℕ → Bool
is_digit_of base c = ltb (digit_number c) (radix base) || (not (is_d base) && is_unknown c)

-- every character passes the test
unfoldable pub each : (ℕ → Bool) → List ℕ → Bool
each p [] = true
each p (c ∷ t) = p c && each p t

-- a digit, then digits and underscores
unfoldable pub is_run : (ℕ → Bool) → List ℕ → Bool
is_run p [] = false
is_run p (c ∷ t) = p c && each (λ e. p e || is_underscore e) t

-- an x or a z, then underscores
unfoldable pub is_lone : List ℕ → Bool
is_lone [] = false
is_lone (c ∷ t) = is_unknown c && each is_underscore t

-- a value of a base: its digits; for d also a lone x or z
unfoldable pub is_value : ℕ → List ℕ → Bool
is_value base t = is_run (is_digit_of base) t || (is_d base && is_lone t)
