-- Both planes as numbers that take in one digit after the other, for the passes over their words.
use Rattle.std.specs.Prelude.{◌≡◌, Bool, true, ◌||◌, cond, List, ℕ, ◌+◌, ◌-◌, ◌*◌, ◌/◌, ◌%◌, ◌^◌, ◌≤◌, ◌<◌, ltb, length, drop, is_some}
use Rattle.words.specs.Vector.{tabulate}
use Rattle.literal_words.specs.Digits.{is_z, is_unknown, is_underscore, digit_of, digit_number, digits, number_by, each}
use Rattle.literal_words.specs.declared.unchecked.Chunk.{Chunk}

-- the n lowest words of a number
unfoldable pub words_of : ℕ → ℕ → List ℕ
words_of n x = tabulate n (λ k. x / 2 ^ (k * 64) % 2 ^ 64)

-- the digit in base r that a character adds to the value plane: all ones for z
unfoldable pub value_number : ℕ → ℕ → ℕ
value_number r c = cond (is_unknown c) (cond (is_z c) (r - 1) 0) (digit_number c)

-- and to the unknown plane: all ones for x and z
unfoldable pub unknown_number : ℕ → ℕ → ℕ
unknown_number r c = cond (is_unknown c) (r - 1) 0

-- a digit, an x or a z
abbrev pub has_number : ℕ → Bool
has_number c = is_some (digit_of c) || is_unknown c

-- each character is a digit in base r, an x or a z, or an underscore
unfoldable pub readable : ℕ → List ℕ → Bool
readable r t = each (λ c. ltb (digit_number c) r || (is_unknown c || is_underscore c)) t

-- where a plane p holds the lowest words of n, q holds those of f n
abbrev pub Taken : (ℕ → ℕ) → (p q : List ℕ) → Type 0
Taken f p q = (n : ℕ) → p ≡ words_of (length p) n → q ≡ words_of (length p) (f n)

-- after the digits of a chunk, which take the number n to n * power + value, come those behind it
abbrev pub Goes : ℕ → (ℕ → ℕ) → (power value : ℕ) → (t u : List ℕ) → Type 0
Goes r f p v t u = (n : ℕ) → number_by r f n (digits t) ≡ number_by r f (n * p + v) (digits u)

-- the chunk of the digits in base r that stand in s from a place on
pub record ChunkOf (r : ℕ) (s : List ℕ) (from : ℕ) (c : Chunk) : Type 0 where
  pub further : from < c.next
  pub small : (c.power ≤ 2 ^ 32) × (c.value < c.power) × (c.unknown < c.power)
  pub rest : readable r (drop c.next s) ≡ true
  pub to_value : Goes r (value_number r) c.power c.value (drop from s) (drop c.next s)
  pub to_unknown : Goes r (unknown_number r) c.power c.unknown (drop from s) (drop c.next s)
