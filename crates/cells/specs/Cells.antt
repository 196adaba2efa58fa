-- Document 01, "Cell store" and "Numbers for what is not done": cells whose spans lie one behind the other in two lent arenas, what cells and arenas
-- must agree on, and words put into an arena.
use Rattle.std.specs.Prelude.{Bool, true, false, ◌&&◌, cond, List, [], ◌∷◌, ◌++◌, map, ℕ, ◌+◌, eqb, leb, length, take, drop}
use Rattle.refusal.specs.Outcome.{Answer}
use Rattle.refusal.specs.Outcome.Answer.{given, refused}
use Rattle.words.specs.Planes.{word_count, Planes, lent}
use Rattle.value.specs.declared.Header.{Header}
use Rattle.value.specs.Checks.{Vector, vector, check_vector}
use Rattle.machine.specs.Machine.{words_taken}
use Rattle.cells.specs.declared.Cell.{Cell}

-- ---- what a cell holds

abbrev pub cell_words : Cell → ℕ
cell_words c = word_count c.header.width

-- a cell's words in an arena: from its start word on, as many as its width takes
abbrev pub span : Cell → List ℕ → List ℕ
span c arena = take (cell_words c) (drop c.start arena)

abbrev pub cell_planes : Planes → Cell → Planes
cell_planes a c = lent (span c a.value) (span c a.unknown)

-- a cell's header and bits
abbrev pub cell_vector : Planes → Cell → Vector
cell_vector a c = vector c.header (cell_planes a c)

abbrev pub cell_headers : List Cell → List Header
cell_headers cs = map (λ (c : Cell). c.header) cs

-- the first word behind these cells
abbrev pub word_behind : List Cell → ℕ
word_behind cs = words_taken (cell_headers cs)

-- ---- 14, cells and arenas disagree

abbrev pub accepts : Answer Unit → Bool
accepts (given u) = true
accepts (refused n) = false

-- a cell's span begins at word k and lies within the arenas, and the cell breaks none of 1, 3 and 4; in arenas of equal length a span has its word
-- count, so 2 is never the reason
unfoldable pub cell_agrees : Planes → ℕ → Cell → Bool
cell_agrees a k c =
    eqb c.start k && leb (c.start + cell_words c) (length a.value) && accepts (check_vector c.header (cell_planes a c))

-- the spans lie from word k on without gaps
unfoldable pub cells_agree : Planes → ℕ → List Cell → Bool
cells_agree a k [] = true
cells_agree a k (c ∷ cs) = cell_agrees a k c && cells_agree a (k + cell_words c) cs

-- the first n places are filled: at most 320 cells, arenas of equal length, and spans from word 0 on
unfoldable pub agree : Planes → List Cell → ℕ → Bool
agree a cells n = leb n 320 && eqb (length a.value) (length a.unknown) && cells_agree a 0 (take n cells)

unfoldable pub check_cells : Planes → List Cell → ℕ → Answer Unit
check_cells a cells n = cond (agree a cells n) (given tt) (refused 14)

-- ---- words put into an arena

-- the words of p stand from word k on; all other words stay
abbrev pub put_words : ℕ → List ℕ → List ℕ → List ℕ
put_words k p arena = take k arena ++ (p ++ drop (k + length p) arena)

abbrev pub put_planes : ℕ → Planes → Planes → Planes
put_planes k p a = lent (put_words k p.value a.value) (put_words k p.unknown a.unknown)
