-- The text of each value that the readers of specs/Read find: document 01, "Step list", each line ended by one LF, no leading zeros, vectors
-- written highest bit first.
use Rattle.std.specs.Prelude.{ℕ, zero, suc, ◌+◌, ◌/◌, ◌%◌, cond, List, [], ◌∷◌, ◌++◌, reverse, ltb}
use Rattle.bit.specs.declared.LogicBit.{LogicBit}
use Rattle.bit.specs.declared.LogicBit.TheVariants.{Zero, One, X, Z}
use Rattle.text.specs.Read.{line_end}

-- the texts of several values, one behind the other
unfoldable pub texts : {A : Type 0} → (A → List ℕ) → List A → List ℕ
texts w [] = []
texts w (a ∷ l) = w a ++ texts w l

-- the decimal digits of n, highest first, of which there are at most f
unfoldable pub decimal_digits : ℕ → ℕ → List ℕ
decimal_digits zero n = []
decimal_digits (suc f) n = let several = decimal_digits f (n / 10) ++ ((48 + n % 10) ∷ []) in cond (ltb n 10) ((48 + n) ∷ []) several

-- a number in decimal, no leading zeros; it has at most suc n digits
unfoldable pub decimal : ℕ → List ℕ
decimal n = decimal_digits (suc n) n

unfoldable pub number_text : ℕ → List ℕ
number_text n = decimal n ++ line_end

-- the characters 0 1 x z
abbrev pub bit_byte : LogicBit → ℕ
bit_byte Zero = 48
bit_byte One = 49
bit_byte X = 120
bit_byte Z = 122

abbrev pub bit_text : LogicBit → List ℕ
bit_text b = bit_byte b ∷ []

-- a vector, highest bit first
abbrev pub bit_digits : List LogicBit → List ℕ
bit_digits bs = texts bit_text (reverse bs)

unfoldable pub bits_text : List LogicBit → List ℕ
bits_text bs = bit_digits bs ++ line_end
