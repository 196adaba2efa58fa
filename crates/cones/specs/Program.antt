-- What the program writes for what it reads.
use Rattle.std.specs.Prelude.{ℕ, List, replicate}
use Rattle.words.specs.Planes.{Planes, lent}
use Rattle.steps.specs.Run.{run_text}

-- two planes of 2,048 words, all 0: what the cells of a run are lent, and its scratch
abbrev pub zeros : Planes
zeros = lent (replicate 2048 0) (replicate 2048 0)

-- the text that the run of a list writes
abbrev pub written : List ℕ → List ℕ
written list = (run_text zeros zeros list).text
