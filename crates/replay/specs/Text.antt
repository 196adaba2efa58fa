-- Tables of calls and their answers (document 01, "Strictness of the promises" (d)) in the format that the head of src/lib.rt describes: parts with a
-- byte between them, marks, decimals. A text is a list of bytes.
use Rattle.std.specs.Prelude.{◌≡◌, ℕ, zero, suc, ◌+◌, ◌*◌, ◌%◌, ◌^◌, ◌<◌, max, Bool, cond, List, [], ◌∷◌, length, drop, ◌==◌, nat_lt, slice_index}
use Prim.Native.Char.{code}
use Rattle.text.specs.Read.{bytes}

-- what reading a file into a buffer leaves. What the file holds is free: the kit says how many bytes are read, not which. The buffer keeps its
-- length, and the count of the bytes is 0 or smaller than that
pub record Filled (found left : List ℕ) (n : ℕ) : Type 0 where
  pub long : length left ≡ length found
  pub count : n < max 1 (length left)

-- what stands in front of the first byte b, or all
unfoldable pub before : ℕ → List ℕ → List ℕ
before b [] = []
before b (c ∷ t) = cond (c == b) [] (c ∷ before b t)

-- the place of the first byte b from a place on, or the end
abbrev pub place_from : ℕ → List ℕ → ℕ → ℕ
place_from b s at = at + length (before b (drop at s))

-- whether a byte b stands in a text: not all is in front of it
abbrev pub has : ℕ → List ℕ → Bool
has b s = nat_lt (length (before b s)) (length s)

-- part k, from 0, of the parts that have a byte b between them; empty where there are fewer
unfoldable pub part_of : ℕ → ℕ → List ℕ → List ℕ
part_of b zero s = before b s
part_of b (suc k) s = part_of b k (drop (length (before b s) + 1) s)

-- field k of a line: a space is between fields
abbrev pub field_text : ℕ → List ℕ → List ℕ
field_text k line = part_of (code " ") k line

-- a text without the mark that it may begin with
unfoldable pub bare_of : List ℕ → List ℕ
bare_of s = cond (has (slice_index s 0) (bytes "usfgr-!")) (drop 1 s) s

-- the digits that follow a number begun as n, modulo 2 ^ 64; the digit of a character is its lowest four bits
unfoldable pub digits_from : ℕ → List ℕ → ℕ
digits_from n [] = n
digits_from n (c ∷ t) = digits_from ((n * 10 + c % 16) % 2 ^ 64) t

-- a decimal; 0 where no character is
abbrev pub decimal_of : List ℕ → ℕ
decimal_of t = digits_from 0 t
