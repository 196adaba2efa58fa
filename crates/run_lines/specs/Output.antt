-- Document 01, "Step list": the lines that a run writes.
use Rattle.std.specs.Prelude.{ℕ, List, ◌++◌, take}
use Rattle.bit.specs.declared.LogicBit.{LogicBit}
use Rattle.words.specs.Planes.{Planes, word_count, from_planes}
use Rattle.text.specs.Read.{bytes, bits_key}
use Rattle.text.specs.Write.{number_text, bits_text}

abbrev pub cell_key : List ℕ
cell_key = bytes "cell="

abbrev pub done_key : List ℕ
done_key = bytes "done="

abbrev pub refused_key : List ℕ
refused_key = bytes "refused="

abbrev pub step_key : List ℕ
step_key = bytes "step="

-- the vector of width w at the front of the planes
abbrev pub front_bits : ℕ → Planes → List LogicBit
front_bits w p = from_planes w (take (word_count w) p.value) (take (word_count w) p.unknown)

-- cell= is the cell's number, bits= its bits
unfoldable pub cell_text : ℕ → List LogicBit → List ℕ
cell_text n bs = (cell_key ++ number_text n) ++ (bits_key ++ bits_text bs)

-- done= is the number of steps run
unfoldable pub done_text : ℕ → List ℕ
done_text k = done_key ++ number_text k

-- refused= is the refusal's number, step= the step's (from 1; 0 for the file or an input)
unfoldable pub refused_text : ℕ → ℕ → List ℕ
refused_text n k = (refused_key ++ number_text n) ++ (step_key ++ number_text k)
