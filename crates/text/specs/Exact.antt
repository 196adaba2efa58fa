-- What it is for a reader to accept the text that a writer writes, and no other: document 01, "Step list", refuses by 6 what breaks the format
-- and nothing else.
use Rattle.std.specs.Prelude.{◌≡◌, List, [], ◌∷◌, ◌++◌, ℕ}
use Rattle.text.specs.Read.{Got, found}

-- the reader r accepts w's text of each value within the limits P, whatever follows; and where it accepts, what it read is w's text of a value
-- within P
pub record Exact {A : Type 0} (r : List ℕ → Got A) (w : A → List ℕ) (P : A → Type 0) : Type 0 where
  pub accepts : (a : A) (t : List ℕ) → P a → r (w a ++ t) ≡ found a t
  pub only : (a : A) (t u : List ℕ) → r t ≡ found a u → P a × (t ≡ w a ++ u)

-- P holds of each value
abbrev pub All : {A : Type 0} → (A → Type 0) → List A → Type 0
All P [] = Unit {0}
All P (a ∷ l) = P a × All P l
