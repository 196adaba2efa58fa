-- Document 01, "Cell store" and "Numbers for what is not done": at most 320 cells, what a store and its arenas must agree on, and what adding an
-- input does to both.
use Rattle.std.specs.Prelude.{◌≡◌, Bool, true, List, [], map, ℕ, ◌+◌, min, length, take, set, replicate}
use Rattle.refusal.specs.Outcome.{Answer, Outcome, outcome, after, or_refuse}
use Rattle.refusal.specs.Outcome.Answer.{given}
use Rattle.words.specs.Planes.{Planes, lent, lent_by, planes_of}
use Rattle.value.specs.declared.Header.{Header}
use Rattle.value.specs.Checks.{vector, check_vector}
use Rattle.machine.specs.declared.Room.{Room}
use Rattle.machine.specs.Machine as machine
use Rattle.machine.specs.Machine.{holding, check_input_behind}
use Rattle.cells.specs.declared.Cell.{Cell}
use Rattle.cells.specs.declared.Fields.{Fields}
use Rattle.cells.specs.Cells.{cell_vector, cell_headers, word_behind, agree, check_cells, put_planes}
use Rattle.cells.specs.Places.{fields_by, places_of, no_cell}
use Rattle.store.specs.declared.Store.{Store}

-- ---- what is stored

-- all that a call can change: the store, and its two arenas
pub record State : Type 0 where
  pub store : Store
  pub arenas : Planes

abbrev pub state : Store → Planes → State
state s a = record { store = s; arenas = a }

-- by what is lent
abbrev pub state_by : Store → (av au : List ℕ) → State
state_by s av au = state s (lent_by av au)

unfoldable pub empty_store : Store
empty_store = record { cells = replicate 320 no_cell; count = 0 }

-- n cells are filled, and place i of the 320 has the i-th of each list
abbrev pub store_of : ℕ → Fields → Store
store_of n f = record { cells = places_of f; count = n }

-- by what is lent
abbrev pub store_by : ℕ → (starts widths : List ℕ) → (signs fills : List Bool) → Store
store_by n a b c d = store_of n (fields_by a b c d)

-- the filled cells, in order
abbrev pub filled : Store → List Cell
filled s = take s.count s.cells

abbrev pub store_headers : Store → List Header
store_headers s = cell_headers (filled s)

-- the first word behind the last filled cell
abbrev pub next_word : Store → ℕ
next_word s = word_behind (filled s)

-- the cells' headers and bits, in order
abbrev pub cells_of : State → List machine.Cell
cells_of s = map (λ (c : Cell). holding (cell_vector s.arenas c)) (filled s.store)

-- ---- 14, store and arenas disagree

abbrev pub agrees : State → Bool
agrees s = agree s.arenas s.store.cells s.store.count

abbrev pub check_store : State → Answer Unit
check_store s = check_cells s.arenas s.store.cells s.store.count

-- ---- a cell put behind the last

abbrev pub with_cell : Cell → Store → Store
with_cell c s = record { cells = set s.cells s.count c; count = s.count + 1 }

-- a cell of the header h, which begins behind the words of the last
abbrev pub put_cell : Header → Store → Store
put_cell h s = with_cell (record { start = next_word s; header = h }) s

-- c is the next cell
abbrev pub appended : machine.Cell → State → State
appended c s = state (put_cell c.vector.header s.store) (put_planes (next_word s.store) (planes_of c.vector.bits) s.arenas)

-- ---- `add_input`

-- the words of the arenas (14 asks that both are of one length), and those of the shorter scratch plane
abbrev pub room_of : (arenas scratch : Planes) → Room
room_of arenas scratch = record { arena = length arenas.value; scratch = min (length scratch.value) (length scratch.unknown) }

-- an input takes no scratch
abbrev pub no_scratch : Planes
no_scratch = lent [] []

-- 14, 12, then 1 to 4 for the input, then 13; 12 and 13 go by the headers of the filled cells
abbrev pub check_input : State → Header → Planes → Answer Unit
check_input s h p =
    after (check_store s)
    (check_input_behind (room_of s.arenas no_scratch) (length (store_headers s.store)) (next_word s.store) (check_vector h p) h.width)

-- the input is the next cell, and the answer is that cell's number
abbrev pub add_input : State → Header → Planes → Outcome ℕ State
add_input s h p = or_refuse (check_input s h p) s (outcome (given s.store.count) (appended (holding (vector h p)) s))

-- ---- what a state holds

-- store and arenas agree, and the filled cells' headers and bits are those of cs, in order; the store's array has 320 places
pub record Holds (s : State) (cs : List machine.Cell) : Type 0 where
  pub places : length s.store.cells ≡ 320
  pub agreed : agrees s ≡ true
  pub cells : cells_of s ≡ cs
