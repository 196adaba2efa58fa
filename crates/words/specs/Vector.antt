-- Vectors and numbers by their bits, for document 01, "Planes", which numbers the bits of a vector and of a word from 0. A vector is a list of
-- four-state bits, lowest first; its length is its width.
use Rattle.std.specs.Prelude.{◌≡◌, List, [], ◌∷◌, ℕ, zero, suc, ◌+◌, ◌*◌, ◌/◌, ◌%◌, ◌^◌, ◌<◌, length, get_or}
use Rattle.bit.specs.declared.LogicBit.{LogicBit}
use Rattle.bit.specs.declared.LogicBit.TheVariants.{Zero}

-- f 0, .., f (n - 1)
unfoldable pub tabulate {ℓ} : {A : Type ℓ} → ℕ → (ℕ → A) → List A
tabulate zero f = []
tabulate (suc n) f = f 0 ∷ tabulate n (λ i. f (suc i))

-- of n places the first k are F 0, .., F (k - 1); d is what a place past the end reads
pub record FilledTo {A : Type 0} (d : A) (F : ℕ → A) (n k : ℕ) (out : List A) : Type 0 where
  pub long : length out ≡ n
  pub upto : (i : ℕ) → i < k → get_or out i d ≡ F i

-- bit i of a vector; 0 beyond its width
abbrev pub at : List LogicBit → ℕ → LogicBit
at bs i = get_or bs i Zero

-- digit i of a number in base 2
abbrev pub bit_at : ℕ → ℕ → ℕ
bit_at n i = n / 2 ^ i % 2

-- the number whose digit i is f i, for i below n
unfoldable pub pack : ℕ → (ℕ → ℕ) → ℕ
pack zero f = 0
pack (suc n) f = pack n (λ i. f (suc i)) * 2 + f 0
