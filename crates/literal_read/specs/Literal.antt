-- Sized literals: IEEE 1800-2017, 5.7.1, in the form of document 02, point 1: a decimal size, an apostrophe, an optional s, a base, and a value. A
-- text is a list of bytes.
use Rattle.std.specs.Prelude.{◌≡◌, Bool, true, false, not, ◌&&◌, ◌||◌, cond, List, [], ◌∷◌, ◌++◌, ℕ, eqb, leb, get_or}
use Rattle.refusal.specs.Outcome.{Answer, Outcome, refuse}
use Rattle.refusal.specs.Outcome.Answer.{given, refused}
use Rattle.words.specs.Planes.{Planes}
use Rattle.value.specs.Checks.{Vector, written}
use Rattle.value.specs.declared.Header.{Header}
use Rattle.literal_words.specs.Digits.{max_size, between, is_b, is_o, is_d, decimal_number, value_bits, is_run, is_value}

-- ---- the parts

-- what stands before the first apostrophe, and what behind it
unfoldable pub before_apostrophe : List ℕ → List ℕ
before_apostrophe [] = []
before_apostrophe (c ∷ t) = cond (eqb c 39) [] (c ∷ before_apostrophe t)

unfoldable pub behind_apostrophe : List ℕ → List ℕ
behind_apostrophe [] = []
behind_apostrophe (c ∷ t) = cond (eqb c 39) t (behind_apostrophe t)

-- a decimal of 1 to 4,096, without a leading 0 (the standard's `non_zero_unsigned_number`)
unfoldable pub is_size : List ℕ → Bool
is_size t = is_run (between 48 57) t && (not (eqb (get_or t 0 0) 48) && leb (decimal_number t) max_size)

-- s S
abbrev pub is_s : ℕ → Bool
is_s c = eqb c 115 || eqb c 83

-- b o d h, in either case
abbrev pub is_base : ℕ → Bool
is_base c = is_b c || (is_o c || (is_d c || (eqb c 104 || eqb c 72)))

-- ---- the vector

-- signed if there is an s, and never a fill
abbrev pub sized : ℕ → Bool → Header
sized w s = record { width = w; is_signed = s; is_fill = false }

-- a base and a value, at a size
unfoldable pub based : ℕ → Bool → List ℕ → Answer Vector
based w s [] = refused 15
based w s (c ∷ t) =
    cond (is_base c && is_value c t) (given (record { header = sized w s; bits = value_bits c w t })) (refused 15)

-- behind the apostrophe: an optional s, a base and a value
unfoldable pub signed_based : ℕ → List ℕ → Answer Vector
signed_based w [] = refused 15
signed_based w (c ∷ t) = cond (is_s c) (based w true t) (based w false (c ∷ t))

-- the vector that a text stands for; 15 if it is no literal
unfoldable pub literal : List ℕ → Answer Vector
literal t = cond (is_size (before_apostrophe t)) (signed_based (decimal_number (before_apostrophe t)) (behind_apostrophe t)) (refused 15)

-- ---- the entries

abbrev pub header_in : Answer Vector → Answer Header
header_in (given x) = given x.header
header_in (refused n) = refused n

-- `literal_header`: 15
abbrev pub literal_header : List ℕ → Answer Header
literal_header t = header_in (literal t)

abbrev pub written_in : Answer Vector → Planes → Outcome Header Planes
written_in (given x) out = written x out
written_in (refused n) out = refuse n out

-- `read_literal`: 15, then 5 an output plane is not exactly the word count of the size
abbrev pub read_literal : List ℕ → Planes → Outcome Header Planes
read_literal t out = written_in (literal t) out

-- ---- which texts are literals

-- the parts of a literal as they are written, and the whole text
pub record Parts : Type 0 where
  pub size : List ℕ
  pub sign : List ℕ
  pub base : ℕ
  pub value : List ℕ

abbrev pub parts_text : Parts → List ℕ
parts_text p = p.size ++ (39 ∷ p.sign ++ (p.base ∷ p.value))

-- an s or none
abbrev pub is_sign : List ℕ → Bool
is_sign [] = true
is_sign (c ∷ []) = is_s c
is_sign (c ∷ d ∷ t) = false

abbrev pub marked : List ℕ → Bool
marked [] = false
marked (c ∷ t) = true

-- t is the text of these parts, each of them as it should be, and x is what they stand for
pub record LiteralOf (t : List ℕ) (x : Vector) : Type 0 where
  pub parts : Parts
  pub text : t ≡ parts_text parts
  pub size_holds : is_size parts.size ≡ true
  pub sign_holds : is_sign parts.sign ≡ true
  pub base_holds : is_base parts.base ≡ true
  pub value_holds : is_value parts.base parts.value ≡ true
  pub stands : x ≡ record {
    header = sized (decimal_number parts.size) (marked parts.sign);
    bits = value_bits parts.base (decimal_number parts.size) parts.value;
  }

-- a text is accepted as x exactly where it is a literal of x
abbrev pub Accepts : Type 0
Accepts = (t : List ℕ) (x : Vector) → (literal t ≡ given x → LiteralOf t x) × (LiteralOf t x → literal t ≡ given x)
