-- A field put together from what its parts are read as, and planes compared with it.
use Rattle.std.proofs.Common.{◌≡◌, ℕ, min, true, false, ◌&&◌, List, length, replicate, sym}
use Rattle.words.specs.Planes.{Planes, lent}
use Rattle.agreement.specs.declared.Field.{Field}
use Rattle.agreement.specs.Holds.{same_words}
use Rattle.replay.specs.declared.parse.Sizes.{Sizes}
use Rattle.replay.specs.Text.{field_text}
use Rattle.replay.specs.Fields.{bit_characters, bits_of, sizes_of, field_of, loaded, Reading, read_field, left_at, are_left}

abbrev read : Field → List ℕ → List ℕ → Reading
read f v u = record { field = f; planes = lent v u }

module _ (k : ℕ) (line : List ℕ) (p : Planes) (s b : List ℕ) (e : Sizes) (m n : ℕ) (f : Field) (v u : List ℕ) where
  pub together : s ≡ field_text k line → e ≡ sizes_of s → m ≡ min e.value (length p.value) → n ≡ min e.unknown (length p.unknown)
      → b ≡ bit_characters s → v ≡ loaded false (bits_of b) m p.value → u ≡ loaded true (bits_of b) n p.unknown → f ≡ field_of s m n
      → read f v u ≡ read_field k line p
  unfolding read_field
  together es ee em en eb ev eu ef = rw (ef, ev, eu, eb, em, en, ee, es)

module _ (out : ℕ) (line : List ℕ) (p : Planes) (k : ℕ) (f : Field) (v u : List ℕ) where
  pub compared : k ≡ left_at out line → read f v u ≡ read_field k line (lent (replicate 65 0) (replicate 65 0))
      → are_left out line p ≡ (same_words p.value v && same_words p.unknown u)
  unfolding are_left
  compared ek e = rw (sym ek, sym e)
