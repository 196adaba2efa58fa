-- A store of which fewer cells are filled, and a filled cell that gets another vector of its header.
--     rewind-holds        the first n cells stay
--     overwrite-holds     cell i holds the vector, and the others stay
use mathlib.Core.Path.{◌≡◌, refl, sym, ap, ap₂, ◌∙◌, subst}
use mathlib.Core.Bool.{true}
use mathlib.Core.List.{List, [], ◌∷◌, map}
use Prim.Native.Nat.{ℕ, zero, suc, ◌+◌, ◌≤◌, ◌<◌}
use native.Mathlib.Omega.{arith}
use lib.ListN.{length, get_or, take, set}
use lib.Seq.{take-take, get_or-take, length-take-le}
use Rattle.words.specs.Vector.{tabulate}
use Rattle.words.specs.Planes.{Planes, planes_of}
use Rattle.value.specs.Checks.{Vector}
use Rattle.machine.specs.Machine as machine
use Rattle.machine.specs.Machine.{holding, vector_at}
use Rattle.cells.specs.declared.Cell.{Cell}
use Rattle.cells.specs.Cells.{cell_words, cells_agree, put_planes}
use Rattle.cells.specs.Places.{no_cell}
use Rattle.cells.proofs.Spans.{Fits, cells-take, held, cells-overwritten, Readable}
use Rattle.cells.proofs.Agreed.{Agreed, facts-agree}
use Rattle.store.specs.Store.{State, state, filled, Holds}
use Rattle.store.proofs.Held.{state-agrees, cell-read, held-count, cell-held, Storable, put-value, put-level, put-fits, put_vector, put-before, put-behind}

-- ---- rewinding

-- the first n cells are filled
abbrev pub rewound : ℕ → State → State
rewound n s = state (record { cells = s.store.cells; count = n }) s.arenas

map-take : {A B : Type 0} (f : A → B) (n : ℕ) (l : List A) → map f (take n l) ≡ take n (map f l)
map-take f zero l = refl
map-take f (suc n) [] = refl
map-take f (suc n) (x ∷ l) = ap (λ (m : List _). f x ∷ m) (map-take f n l)

pub rewind-holds : (n : ℕ) (s : State) (cs : List machine.Cell) → Holds s cs → n ≤ length cs → Holds (rewound n s) (take n cs)
rewind-holds n s cs h l =
    let g = state-agrees s h.agreed in
    let m = held-count s cs h in
    let e : take n (filled s.store) ≡ take n s.store.cells = take-take n s.store.count s.store.cells (omega arith) in
    record {
      places = h.places;
      agreed = facts-agree s.arenas s.store.cells n (record {
        few = omega (arith, g.few);
        level = g.level;
        spans = ap (cells_agree s.arenas 0) (sym e) ∙ cells-take s.arenas (filled s.store) 0 n g.spans;
      });
      cells = ap (map (held s.arenas)) (sym e) ∙ map-take (held s.arenas) n (filled s.store) ∙ ap (take n) h.cells;
    }

-- ---- overwriting

-- the words of cell i are those of v
abbrev pub overwritten : ℕ → Vector → State → State
overwritten i v s = state s.store (put_planes (get_or s.store.cells i no_cell).start (planes_of v.bits) s.arenas)

module _ (i : ℕ) (v : Vector) (s : State) (cs : List machine.Cell) (holds : Holds s cs) (h : i < length cs)
    (same : v.header ≡ (vector_at cs i).header) (width : length v.bits ≡ v.header.width) where
  abbrev old : Planes
  old = s.arenas

  abbrev new : Planes
  new = (overwritten i v s).arenas

  abbrev cell : Cell
  cell = get_or s.store.cells i no_cell

  -- the cell as the vector makes it
  abbrev there : Cell
  there = record { start = cell.start; header = v.header }

  g : Agreed old s.store.cells s.store.count
  g = state-agrees s holds.agreed

  counted : length cs ≡ s.store.count
  counted = held-count s cs holds

  header : v.header ≡ cell.header
  unfolding tabulate
  header = same ∙ sym (ap (λ (c : machine.Cell). c.vector.header) (cell-held s cs i no_cell holds h))

  is : there ≡ cell
  is = λ k. record { start = cell.start; header = header k }

  read : Readable old there
  read = subst (Readable old) (sym is) (cell-read s i no_cell holds.places holds.agreed (omega (arith, counted)))

  storable : Storable v
  storable = record { width = width; narrow = read.sound.planes.narrow; fill = read.sound.fill }

  length-same : length new.value ≡ length old.value
  length-same = put-value old cell.start v storable g.level read.value-within

  others : (0 ≤ cell.start) × (cells_agree new 0 (filled s.store) ≡ true)
      × (map (held new) (filled s.store) ≡ set (map (held old) (filled s.store)) i (held new cell))
  others =
      cells-overwritten old new length-same cell
      (subst (Fits new cell.start) is (put-fits old cell.start v storable g.level read.value-within))
      (put-before old cell.start v storable g.level read.value-within)
      (λ c l. put-behind old cell.start v storable g.level read.value-within c (subst (λ (x : Cell). cell.start + cell_words x ≤ c.start) (sym is) l))
      (filled s.store) 0 i no_cell g.spans
      (omega (arith, counted, length-take-le s.store.count s.store.cells (omega (arith, holds.places, g.few))))
      (get_or-take s.store.count s.store.cells i no_cell (omega (arith, counted)))

  pub overwrite-holds : Holds (overwritten i v s) (set cs i (holding v))
  overwrite-holds = record {
    places = holds.places;
    agreed = facts-agree new s.store.cells s.store.count (record {
      few = g.few;
      level = put-level old cell.start v storable g.level read.value-within;
      spans = others.1;
    });
    cells =
        others.2
        ∙ ap₂ (λ (l : List machine.Cell) (c : machine.Cell). set l i c) holds.cells
        (ap (held new) (sym is) ∙ ap holding (put_vector old cell.start v storable g.level read.value-within));
  }
