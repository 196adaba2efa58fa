-- When a plane (document 01, "Planes") is as a line of a table says, which leaves out leading zeros; the tables are described in `replay`.
use Rattle.std.specs.Prelude.{ℕ, suc, Bool, true, ◌&&◌, List, [], ◌∷◌, eqb, get_or}

-- whether each word of a plane is the word at its place, from place k on, or 0 where there is none
unfoldable pub holds_from : ℕ → List ℕ → List ℕ → Bool
holds_from k [] words = true
holds_from k (p ∷ plane) words = eqb p (get_or words k 0) && holds_from (suc k) plane words

-- whether two planes have the same words, with zeros behind the shorter
abbrev pub same_words : List ℕ → List ℕ → Bool
same_words a b = holds_from 0 a b && holds_from 0 b a
