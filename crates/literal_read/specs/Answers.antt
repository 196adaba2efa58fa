-- What the code answers on the way through a literal's text s: places of s instead of the texts from there on.
use Rattle.std.specs.Prelude.{Bool, ◌&&◌, ◌||◌, List, ℕ, ltb, drop, Option, Some, None}
use Rattle.refusal.specs.Outcome.{Answer}
use Rattle.refusal.specs.Outcome.Answer.{given, refused}
use Rattle.value.specs.Checks.{Vector}
use Rattle.literal_words.specs.Digits.{digit_number, is_unknown, is_underscore, value_bits}
use Rattle.literal_read.specs.Literal.{sized, signed_based}
use Rattle.literal_read.specs.declared.Size.{Size}
use Rattle.literal_read.specs.declared.Literal.{Literal}

-- a size, and behind its apostrophe the rest of the literal; no literal without a size
abbrev pub size_in : List ℕ → Option Size → Answer Vector
size_in s None = refused 15
size_in s (Some z) = signed_based z.width (drop z.next s)

-- c is a digit below a bound, an x or z where these may stand, or an underscore
abbrev pub follows : ℕ → Bool → ℕ → Bool
follows below unknown c = (ltb (digit_number c) below || (unknown && is_unknown c)) || is_underscore c

-- a size, a sign, a base and the value that begins at a place
abbrev pub literal_in : List ℕ → Option Literal → Answer Vector
literal_in s None = refused 15
literal_in s (Some l) = given (record { header = sized l.width l.is_signed; bits = value_bits l.base l.width (drop l.value s) })
