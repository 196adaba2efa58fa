-- Text that is written into a lent buffer, one piece behind the other, for the output of document 01, "Step list".
use Rattle.std.specs.Prelude.{ℕ, ◌+◌, List, ◌++◌, length, take, drop}

-- the bytes of a buffer, and the place in it where the next text is written
pub record Buffer : Type 0 where
  pub bytes : List ℕ
  pub place : ℕ

abbrev pub buffer : List ℕ → ℕ → Buffer
buffer d i = record { bytes = d; place = i }

-- the text w is written at the place, which is then behind it; every other byte is kept
unfoldable pub put : Buffer → List ℕ → Buffer
put b w = buffer (take b.place b.bytes ++ w ++ drop (b.place + length w) b.bytes) (b.place + length w)
