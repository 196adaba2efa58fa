-- A vector of at most 64 bits as one word of each plane: document 01, "Planes", where the word count is 1.
use Rattle.std.specs.Prelude.{[], ◌∷◌}
use Rattle.words.specs.declared.Word.{Word}
use Rattle.words.specs.Planes.{Planes, lent}
use Rattle.value.specs.Checks.{plain, Vector, vector}

-- the planes of a vector of at most 64 bits
abbrev pub single : Word → Planes
single x = lent (x.value ∷ []) (x.unknown ∷ [])

-- every word pair is a vector of 64 bits, unsigned and no fill
abbrev pub plain64 : Word → Vector
plain64 x = vector (plain 64) (single x)
