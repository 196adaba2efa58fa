-- A field of a line of a table as the head of src/lib.rt describes it: a number, a real, or a vector with its header and its planes (document 01,
-- "Planes" and "Header and operand").
use Rattle.std.specs.Prelude.{ℕ, ◌%◌, ◌^◌, min, Bool, true, false, cond, ◌&&◌, ◌||◌, List, ◌++◌, length, drop, replicate, pos, ◌==◌, slice_index, Float}
use Prim.Native.Char.{code}
use Rattle.std.specs.Float.Ieee as Ieee
use Rattle.std.specs.Float.{binary64}
use Rattle.bit.specs.declared.LogicBit.{LogicBit}
use Rattle.words.specs.Vector.{tabulate, at}
use Rattle.words.specs.Planes.{value_digit, unknown_digit, word_count, word_of, word_at, Planes, lent}
use Rattle.text.specs.Answers.{bits_in}
use Rattle.agreement.specs.declared.Field.{Field}
use Rattle.agreement.specs.Holds.{same_words}
use Rattle.replay.specs.declared.parse.Sizes.{Sizes}
use Rattle.replay.specs.Text.{has, part_of, field_text, bare_of, decimal_of}

-- ---- a vector

-- the characters of a vector's bits: all behind its mark or, where there are colons, part 3
unfoldable pub bit_characters : List ℕ → List ℕ
bit_characters s =
    let v = bare_of s in
    cond (has (code ":") v) (part_of (code ":") 3 v) v

-- the bits of characters, highest bit first; a character that is none of 0 1 x z counts as 0
abbrev pub bits_of : List ℕ → List LogicBit
bits_of t = bits_in t 0 (length t)

-- whether the letter in front is c, or g, which is s and f
abbrev pub has_mark : ℕ → List ℕ → Bool
has_mark c s = slice_index s 0 == c || slice_index s 0 == (code "g")

-- a header, with the lowest 32 bits of a width, and how many words each plane has
abbrev pub sized : List ℕ → ℕ → ℕ → ℕ → Sizes
sized s w a b = record {
  header = record { width = w % 2 ^ 32; is_signed = has_mark (code "s") s; is_fill = has_mark (code "f") s };
  value = a;
  unknown = b;
}

-- a real has no planes; BITS alone has those of its width, WIDTH:A:B:BITS those of A words and of B words
unfoldable pub sizes_of : List ℕ → Sizes
sizes_of s =
    let v = bare_of s in
    let number : ℕ → ℕ = λ k. decimal_of (part_of (code ":") k v) in
    let n = word_count (length v % 2 ^ 32) in
    cond (has (code "r") s) (sized s 0 0 0)
    (cond (has (code ":") v) (sized s (number 0) (number 1) (number 2)) (sized s (length v) n n))

-- ---- a real

abbrev pub whole_real : List ℕ → Float
whole_real t = Ieee.of_int binary64 (pos (decimal_of t))

-- `r`, maybe a minus, and a quotient, each number and then the quotient rounded to nearest
unfoldable pub real_told : List ℕ → Float
real_told s =
    let n = whole_real (part_of (code "/") 0 (bare_of (bare_of s))) in
    Ieee.div binary64 (cond (has (code "-") s) (Ieee.neg n) n) (whole_real (part_of (code "/") 1 s))

-- ---- a field

-- a field's text in each way that it can be meant; of its planes m and n words are lent
unfoldable pub field_of : List ℕ → ℕ → ℕ → Field
field_of s m n = record {
  is_refusal = has (code "!") s;
  is_real = has (code "r") s;
  number = decimal_of (bare_of s);
  real = real_told s;
  word = word_at (at (bits_of (bit_characters s))) 0;
  header = (sizes_of s).header;
  value = m;
  unknown = n;
}

-- a plane that begins with n words of the bits, of their unknown digits or of their value digits, and goes on as p
abbrev pub loaded : Bool → List LogicBit → ℕ → List ℕ → List ℕ
loaded unknown bs n p = tabulate n (word_of (λ b. cond unknown (unknown_digit b) (value_digit b)) (at bs)) ++ drop n p

-- a field, and the planes that its vector is read into
pub record Reading : Type 0 where
  pub field : Field
  pub planes : Planes

abbrev pub reading : Field → List ℕ → List ℕ → Reading
reading f v u = record { field = f; planes = lent v u }

-- field k of a line: as many words of its planes as are lent are written there
unfoldable pub read_field : ℕ → List ℕ → Planes → Reading
read_field k line p =
    let s = field_text k line in
    let m = min (sizes_of s).value (length p.value) in
    let n = min (sizes_of s).unknown (length p.unknown) in
    let bs = bits_of (bit_characters s) in
    record { field = field_of s m n; planes = lent (loaded false bs m p.value) (loaded true bs n p.unknown) }

-- ---- what a call leaves

-- which field tells what the planes lent for writing hold after the call: the answer or, where it is a refusal, what they held before
abbrev pub left_at : ℕ → List ℕ → ℕ
left_at out line = cond (has (code "!") (field_text 0 line)) out 0

-- whether planes hold that field's first 65 words, with zeros behind the shorter; words of the field behind those are not read
unfoldable pub are_left : ℕ → List ℕ → Planes → Bool
are_left out line p =
    let q = (read_field (left_at out line) line (lent (replicate 65 0) (replicate 65 0))).planes in
    same_words p.value q.value && same_words p.unknown q.unknown
