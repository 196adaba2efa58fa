-- Document 01, "The runs of demand 3": the plain machine. A cell of it holds a vector, and of memory it knows only how many words there are. What
-- is refused goes by the headers of the cells alone; conditions and order are those of "Numbers for what is not done".
use Rattle.std.specs.Prelude.{Bool, ◌&&◌, ◌||◌, cond, List, [], ◌∷◌, ◌++◌, map, ℕ, suc, ◌+◌, ◌-◌, leb, ltb, length, get_or}
use Rattle.refusal.specs.Outcome.{Answer, after}
use Rattle.refusal.specs.Outcome.Answer.{given, refused}
use Rattle.words.specs.Planes.{word_count}
use Rattle.value.specs.declared.Header.{Header}
use Rattle.value.specs.Checks.{plain, Vector}
use Rattle.ops.specs.declared.Step.{Step}
use Rattle.ops.specs.Ops.{operands, arms_refused, op_header, op_vector}
use Rattle.machine.specs.declared.Room.{Room}

-- ---- cells

pub record Cell : Type 0 where
  pub vector : Vector

abbrev pub holding : Vector → Cell
holding v = record { vector = v }

abbrev pub headers_of : List Cell → List Header
headers_of cs = map (λ (c : Cell). c.vector.header) cs

-- a cell of no bits: it is read where a number names no cell, which only an operand that the op does not use can do in a step that is run
abbrev pub empty_cell : Cell
empty_cell = holding (record { header = plain 0; bits = [] })

abbrev pub cell_at : List Cell → ℕ → Cell
cell_at cs j = get_or cs j empty_cell

abbrev pub vector_at : List Cell → ℕ → Vector
vector_at cs j = (cell_at cs j).vector

abbrev pub header_at : List Header → ℕ → Header
header_at hs j = get_or hs j (plain 0)

-- the words that cells of these headers take
unfoldable pub words_taken : List Header → ℕ
words_taken [] = 0
words_taken (h ∷ hs) = word_count h.width + words_taken hs

-- ---- what is refused

-- 12, 320 cells already, where there are n
abbrev pub check_count : ℕ → Answer Unit
check_count n = cond (leb 320 n) (refused 12) (given tt)

-- each operand that the op uses names one of n cells
abbrev pub names : ℕ → Step → Bool
names n s = ltb s.a n && (ltb (operands s.op) 2 || ltb s.b n) && (ltb (operands s.op) 3 || ltb s.c n)

-- 11, an operand names a cell not yet filled, where there are n
abbrev pub check_names : ℕ → Step → Answer Unit
check_names n s = cond (names n s) (given tt) (refused 11)

-- 7, the arms of a select, behind cells of the headers hs
abbrev pub check_arms : List Header → Step → Answer Unit
check_arms hs s = cond (arms_refused s.op (header_at hs s.b) (header_at hs s.c)) (refused 7) (given tt)

-- 13, an arena of which the cells take the first n words has fewer words behind them than a cell of width w takes
abbrev pub check_room : Room → ℕ → ℕ → Answer Unit
check_room r n w = cond (ltb (r.arena - n) (word_count w)) (refused 13) (given tt)

-- 12, what the check of its vector says, then 13, for an input of width w behind n cells that take k words
abbrev pub check_input_behind : Room → (n k : ℕ) → Answer Unit → ℕ → Answer Unit
check_input_behind r n k checked w = after (check_count n) (after checked (check_room r k w))

-- 13, a scratch plane has fewer words than a cell of width w takes
abbrev pub check_scratch : Room → ℕ → Answer Unit
check_scratch r w = cond (ltb r.scratch (word_count w)) (refused 13) (given tt)

abbrev pub step_header : List Header → Step → Header
step_header hs s = op_header s.op (header_at hs s.a) (header_at hs s.b) (header_at hs s.c)

-- 12, 11, 7, then 13, behind cells of the headers hs
unfoldable pub check_step : Room → List Header → Step → Answer Unit
check_step r hs s =
    after (check_count (length hs))
    (after (check_names (length hs) s)
    (after (check_arms hs s)
    (after (check_room r (words_taken hs) (step_header hs s).width) (check_scratch r (step_header hs s).width))))

-- ---- the run

-- what document 01 gives for the step and the cells it names
abbrev pub step_cell : List Cell → Step → Cell
step_cell cs s = holding (op_vector s.op (vector_at cs s.a) (vector_at cs s.b) (vector_at cs s.c) s.c)

-- the list's end, and how many steps were run, or a refusal's number and step (from 1; 0 for the file or an input)
pub data Ending : Type 0 where
  AtEnd : (steps : ℕ) → Ending
  RefusedAt : (number step : ℕ) → Ending

pub record Run : Type 0 where
  pub cells : List Cell
  pub ending : Ending

-- a refused step is the run's last, and adds no cell
abbrev pub onward : Answer Unit → List Cell → ℕ → Run → Run
onward (given u) cs k rest = rest
onward (refused n) cs k rest = record { cells = cs; ending = RefusedAt n (suc k) }

-- the steps on the cells cs, behind k steps that were run: each that is not refused adds one cell
unfoldable pub run_from : Room → List Cell → ℕ → List Step → Run
run_from r cs k [] = record { cells = cs; ending = AtEnd k }
run_from r cs k (s ∷ ss) = onward (check_step r (headers_of cs) s) cs k (run_from r (cs ++ (step_cell cs s ∷ [])) (suc k) ss)

-- the cells of accepted inputs, in order
abbrev pub input_cells : List Vector → List Cell
input_cells vs = map holding vs

-- from the cells cs on; in the run of a list these are the inputs' cells
abbrev pub machine_run : Room → List Cell → List Step → Run
machine_run r cs ss = run_from r cs 0 ss
