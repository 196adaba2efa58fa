-- Readers of a text, which is a list of bytes, for the lines of document 01, "Step list": a reader finds a value at the start of the text, and
-- the text behind it, or the text breaks the format.
use Rattle.std.specs.Prelude.{ℕ, zero, suc, ◌+◌, ◌-◌, ◌*◌, Bool, true, false, ◌&&◌, ◌||◌, cond, List, [], ◌∷◌, ◌++◌, reverse, eqb, leb}
use Prim.Native.String.{String, [] as []ˢ, ◌∷◌ as ◌∷ˢ◌}
use Prim.Native.Char.{code}
use Rattle.bit.specs.declared.LogicBit.{LogicBit}
use Rattle.bit.specs.declared.LogicBit.TheVariants.{Zero, One, X, Z}

-- the bytes of an ASCII text
abbrev pub bytes : String → List ℕ
bytes []ˢ = []
bytes (c ∷ˢ t) = code c ∷ bytes t

-- a value and the text behind it, or neither
pub data Got (A : Type 0) : Type 0 where
  found : A → List ℕ → Got A
  broken : Got A

-- g where the test holds
abbrev pub only_if : {A : Type 0} → Bool → Got A → Got A
only_if true g = g
only_if false g = broken

-- what is read first; where that is broken, the other
abbrev pub or_try : {A : Type 0} → Got A → Got A → Got A
or_try (found a t) h = found a t
or_try broken h = h

-- a reader goes on with the text behind what was read
abbrev pub next : {A B : Type 0} → Got A → (A → List ℕ → Got B) → Got B
next (found a t) f = f a t
next broken f = broken

-- n values, one behind the other
unfoldable pub many : {A : Type 0} → (List ℕ → Got A) → ℕ → List ℕ → Got (List A)
many r zero t = found [] t
many r (suc n) t = next (r t) (λ a u. next (many r n u) (λ l. found (a ∷ l)))

-- one LF, which ends each line
abbrev pub line_end : List ℕ
line_end = 10 ∷ []

-- exactly the bytes k
unfoldable pub key : List ℕ → List ℕ → Got (Unit {0})
key [] t = found tt t
key (k ∷ ks) [] = broken
key (k ∷ ks) (c ∷ t) = only_if (eqb c k) (key ks t)

-- the characters 0 to 9
abbrev pub is_digit : ℕ → Bool
is_digit c = leb 48 c && leb c 57

-- the digits that follow a number begun as n, and LF; the number is at most m
unfoldable pub more : ℕ → ℕ → List ℕ → Got ℕ
more m n [] = broken
more m n (c ∷ t) =
    cond (eqb c 10) (found n t)
    (only_if (is_digit c) (only_if (leb (n * 10 + (c - 48)) m) (more m (n * 10 + (c - 48)) t)))

-- a decimal number of at most m, no leading zeros (a 0 stands alone), and LF
unfoldable pub number : ℕ → List ℕ → Got ℕ
number m [] = broken
number m (c ∷ t) =
    cond (eqb c 48) (next (key line_end t) (λ x. found 0))
    (only_if (is_digit c) (only_if (leb (c - 48) m) (more m (c - 48) t)))

-- a line of a key and a number of at most m
unfoldable pub number_line : List ℕ → ℕ → List ℕ → Got ℕ
number_line k m t = next (key k t) (λ x. number m)

-- the name k, which stands for v, and LF
unfoldable pub named : List ℕ → ℕ → List ℕ → Got ℕ
named k v t = next (key (k ++ line_end) t) (λ x. found v)

-- one of several names, which stands for its place among them, the first for i; and LF
unfoldable pub one_of : List (List ℕ) → ℕ → List ℕ → Got ℕ
one_of [] i t = broken
one_of (k ∷ ks) i t = or_try (named k i t) (one_of ks (suc i) t)

-- the lines of a text without their LF, of which the first is begun as k; what follows the last LF is none
abbrev pub lines_from : List ℕ → List ℕ → List (List ℕ)
lines_from k [] = []
lines_from k (c ∷ t) = let ended = k ∷ lines_from [] t in let longer = lines_from (k ++ (c ∷ [])) t in cond (eqb c 10) ended longer

abbrev pub lines_in : List ℕ → List (List ℕ)
lines_in t = lines_from [] t

-- one of the characters 0 1 x z
unfoldable pub is_bit : ℕ → Bool
is_bit c = eqb c 48 || (eqb c 49 || (eqb c 120 || eqb c 122))

-- the bit of such a character
unfoldable pub of_byte : ℕ → LogicBit
of_byte c = cond (eqb c 49) One (cond (eqb c 120) X (cond (eqb c 122) Z Zero))

unfoldable pub bit : List ℕ → Got LogicBit
bit [] = broken
bit (c ∷ t) = only_if (is_bit c) (found (of_byte c) t)

-- exactly n of 0 1 x z, and LF: a vector of width n. Vectors are written highest bit first, and a vector's list has its lowest bit first
unfoldable pub bits : ℕ → List ℕ → Got (List LogicBit)
bits n t = next (many bit n t) (λ bs u. next (key line_end u) (λ x. found (reverse bs)))

abbrev pub bits_key : List ℕ
bits_key = bytes "bits="

-- a line of a key and a vector of width n
unfoldable pub bits_line : List ℕ → ℕ → List ℕ → Got (List LogicBit)
bits_line k n t = next (key k t) (λ x. bits n)
