-- What the code answers for a reader's answer in the text s: a place of s instead of the text from there on. Document 01, "Which places take which
-- form": a definition gives the values of each case.
use Rattle.std.specs.Prelude.{ℕ, ◌-◌, List, Option, Some, None, map, reverse, length, take, drop}
use Rattle.bit.specs.declared.LogicBit.{LogicBit}
use Rattle.text.specs.Read.{Got, found, broken, of_byte}
use Rattle.text.specs.declared.Line.{Line}

-- where the text behind what was read begins
abbrev pub place_in : {A : Type 0} → List ℕ → Got A → Option ℕ
place_in s (found a u) = Some (length s - length u)
place_in s broken = None

-- the number that was read, and where the text behind it begins
abbrev pub line_in : List ℕ → Got ℕ → Option Line
line_in s (found v u) = Some (record { number = v; next = length s - length u })
line_in s broken = None

-- the vector whose bits are the n characters from a place on, highest bit first
unfoldable pub bits_in : List ℕ → ℕ → ℕ → List LogicBit
bits_in s from n = reverse (map of_byte (take n (drop from s)))
