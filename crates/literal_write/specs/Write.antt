-- Vectors as sized literals: document 02, point 1: binary, in lower case, one digit a bit, no underscore; s if the vector is signed.
use Rattle.std.specs.Prelude.{◌≡◌, Bool, true, false, not, ◌&&◌, cond, List, ◌++◌, ℕ, ◌+◌, eqb, leb, ltb, length}
use Rattle.refusal.specs.Outcome.{Answer, Outcome, outcome, refuse, or_refuse, after}
use Rattle.refusal.specs.Outcome.Answer.{given, refused}
use Rattle.words.specs.Planes.{Planes}
use Rattle.value.specs.Checks.{max_width, Vector, vector, check_vector}
use Rattle.value.specs.declared.Header.{Header}
use Rattle.text.specs.Read.{bytes}
use Rattle.text.specs.Write.{decimal, bit_digits}
use Rattle.literal_words.specs.Digits.{max_size}
use Rattle.literal_read.specs.Literal.{literal}

-- the apostrophe, the sign and the base
abbrev pub base_text : Bool → List ℕ
base_text true = bytes "'sb"
base_text false = bytes "'b"

-- the width in decimal, and behind the base each bit, highest first
unfoldable pub literal_text : Vector → List ℕ
literal_text x = decimal x.header.width ++ (base_text x.header.is_signed ++ bit_digits x.bits)

-- 15 a fill, or not 1 to 4,096 wide
unfoldable pub check_size : Header → Answer Unit
check_size h = cond (not h.is_fill && (leb 1 h.width && leb h.width max_size)) (given tt) (refused 15)

-- 1 the width is above 1,048,576; 4 a fill of width 0
unfoldable pub check_header : Header → Answer Unit
check_header h = cond (ltb max_width h.width) (refused 1) (cond (h.is_fill && eqb h.width 0) (refused 4) (given tt))

-- `literal_length`: 1, 4, then 15; the digits of the width, what stands between, and a digit for each bit
unfoldable pub literal_length : Header → Answer ℕ
literal_length h =
    after (check_header h) (after (check_size h)
    (given (length (decimal h.width) + length (base_text h.is_signed) + h.width)))

-- the text w, written into a lent text that is exactly as long, or 5
abbrev pub written_text : List ℕ → List ℕ → Outcome Unit (List ℕ)
written_text w out = cond (eqb (length out) (length w)) (outcome (given tt) w) (refuse 5 out)

-- `write_literal`: 1 to 4, then 15, then 5
unfoldable pub write_literal : Header → Planes → List ℕ → Outcome Unit (List ℕ)
write_literal h p out = or_refuse (after (check_vector h p) (check_size h)) out (written_text (literal_text (vector h p)) out)

-- ---- the way back, stated

-- where a vector was written as t, reading t gives the same vector, and `literal_length` tells how long t is
abbrev pub RoundTrip : Type 0
RoundTrip =
    (h : Header) (p : Planes) (out t : List ℕ) → write_literal h p out ≡ outcome (given tt) t
    → (literal t ≡ given (vector h p)) × (literal_length h ≡ given (length t))
