-- What a state holds, and how it lasts.
--     state-agrees    what a store and its arenas agree on, as facts
--     state-uneven    with arenas of two lengths every store is refused by 14
--     cell-read       a filled cell lies within the arenas, and its planes are those of a vector
--     held-count, cell-held     there are as many filled cells as cells held, and cell i holds the i-th
--     holds-headers   the filled cells have the headers of the cells held
--     empty_holds     an empty store holds no cells
--     storable-sound, storable-vector     a vector that a cell can hold: its planes are in order and hold it
--     put-fits, put_vector, put-before, put-behind     its words put into the arenas: a cell of it there, and the cells before and behind
--     append-holds    a cell put behind the last is held behind the others
--     Added           what is so once a call has added a cell
use mathlib.Core.Path.{◌≡◌, refl, sym, ap, ap₂, ◌∙◌, subst}
use mathlib.Core.Bool.{Bool, true, false, cond}
use mathlib.Core.Logic.{◌≢◌}
use mathlib.Core.List.{List, [], ◌∷◌, ◌++◌, map, map-map}
use Prim.Native.Nat.{ℕ, ◌+◌, ◌≤◌, ◌<◌}
use native.Mathlib.Omega.{arith}
use native.Mathlib.Numerals.{add-one}
use lib.ListN.{length, get_or, take, drop, set, length-map, length-set, length-replicate, get_or-map}
use lib.Seq.{get_or-take, length-take-le, take-suc-set}
use Rattle.refusal.specs.Outcome.{Answer}
use Rattle.refusal.specs.Outcome.Answer.{given, refused}
use Rattle.bit.specs.declared.LogicBit.{LogicBit}
use Rattle.words.specs.Planes.{word_count, from_planes, value_plane, unknown_plane, Plane, Planes, lent, planes_of}
use Rattle.words.proofs.Planes.{bits-again, value-plane, unknown-plane}
use Rattle.value.specs.Checks.{max_width, Vector, vector, check_vector}
use Rattle.value.proofs.Checks.{Sound}
use Rattle.machine.specs.Machine as machine
use Rattle.machine.specs.Machine.{holding, headers_of}
use Rattle.cells.specs.declared.Cell.{Cell}
use Rattle.cells.specs.Cells.{cell_words, cell_planes, cell_vector, cell_agrees, cells_agree, check_cells, put_planes}
use Rattle.cells.specs.Places.{no_cell}
use Rattle.store.specs.Store.{State, state, empty_store, filled, store_headers, next_word, agrees, check_store, put_cell, appended, room_of, Holds}
use Rattle.store.specs.Step.{Memory}
use Rattle.store.proofs.Answered.{vector-accepts}
use Rattle.cells.proofs.Agreed.{Agreed, agree-facts, facts-agree, filled-fits}
use Rattle.cells.proofs.Spans.{Fits, fits-cell, cells-snoc, span-before, span-behind, held, cells_same, Readable, fits_read}
use Rattle.cells.proofs.Tail.{put-take, put-span, put-drop, put-length}

pub state-agrees : (s : State) → agrees s ≡ true → Agreed s.arenas s.store.cells s.store.count
state-agrees s h = agree-facts s.arenas s.store.cells s.store.count h

pub state-uneven : (s : State) → length s.arenas.value ≢ length s.arenas.unknown → check_store s ≡ refused 14
unfolding check_cells
state-uneven s u = go (agrees s) refl
  where
    go : (z : Bool) → agrees s ≡ z → cond z (given (tt {0})) (refused 14) ≡ refused 14
    go true e = absurd (u (state-agrees s e).level)
    go false e = refl

-- ---- reading

pub cell-read : (s : State) (i : ℕ) (d : Cell) → length s.store.cells ≡ 320 → agrees s ≡ true → i < s.store.count
    → Readable s.arenas (get_or s.store.cells i d)
cell-read s i d n h l =
    let g = state-agrees s h in
    let f = filled-fits s.arenas s.store.cells s.store.count i d n h l in
    subst (Readable s.arenas) (get_or-take s.store.count s.store.cells i d l)
    (fits_read s.arenas (get_or (filled s.store) i d).start (get_or (filled s.store) i d) g.level f)

pub held-count : (s : State) (cs : List machine.Cell) → Holds s cs → length cs ≡ s.store.count
held-count s cs h =
    ap (λ (l : List machine.Cell). length l) (sym h.cells)
    ∙ length-map (filled s.store) (held s.arenas)
    ∙ length-take-le s.store.count s.store.cells (omega (arith, h.places, (state-agrees s h.agreed).few))

pub cell-held : (s : State) (cs : List machine.Cell) (i : ℕ) (d : Cell) → Holds s cs → i < length cs
    → holding (cell_vector s.arenas (get_or s.store.cells i d)) ≡ get_or cs i (holding (cell_vector s.arenas d))
cell-held s cs i d h l =
    let n = held-count s cs h in
    ap (held s.arenas) (sym (get_or-take s.store.count s.store.cells i d (omega arith)))
    ∙ sym (get_or-map (held s.arenas) (filled s.store) i d)
    ∙ ap (λ (l : List machine.Cell). get_or l i (held s.arenas d)) h.cells

pub holds-headers : (s : State) (cs : List machine.Cell) → Holds s cs → store_headers s.store ≡ headers_of cs
holds-headers s cs h =
    sym (map-map (λ (c : machine.Cell). c.vector.header) (held s.arenas) (filled s.store)) ∙ ap headers_of h.cells

-- ---- the empty store

pub empty_holds : (a : Planes) → length a.value ≡ length a.unknown → Holds (state empty_store a) []
unfolding empty_store cells_agree
empty_holds a e = record {
  places = length-replicate 320 no_cell;
  agreed = facts-agree a empty_store.cells 0 (record { few = omega arith; level = e; spans = refl });
  cells = refl;
}

-- ---- one vector more

-- a vector that a cell can hold
pub record Storable (r : Vector) : Type 0 where
  pub width : length r.bits ≡ r.header.width
  pub narrow : r.header.width ≤ max_width
  pub fill : r.header.is_fill ≡ true → r.header.width ≡ 0 → ⊥

pub storable-sound : (r : Vector) → Storable r → Sound r.header (planes_of r.bits)
storable-sound r t = record {
  planes = record {
    narrow = t.narrow;
    value-plane = subst (λ (w : ℕ). Plane w (value_plane r.bits)) t.width (value-plane r.bits);
    unknown-plane = subst (λ (w : ℕ). Plane w (unknown_plane r.bits)) t.width (unknown-plane r.bits);
  };
  fill = t.fill;
}

-- its planes hold it
pub storable-vector : (r : Vector) → Storable r → vector r.header (planes_of r.bits) ≡ r
storable-vector r t =
    ap (λ (n : ℕ). record { header = r.header; bits = from_planes n (value_plane r.bits) (unknown_plane r.bits) }) (sym t.width)
    ∙ ap (λ (bs : List LogicBit). record { header = r.header; bits = bs }) (sym (bits-again r.bits))

-- its words put into the arenas from word k on
module _ (a : Planes) (k : ℕ) (r : Vector) (t : Storable r) (level : length a.value ≡ length a.unknown)
    (room : k + word_count r.header.width ≤ length a.value) where
  abbrev put : Planes
  put = put_planes k (planes_of r.bits) a

  abbrev there : Cell
  there = record { start = k; header = r.header }

  sound : Sound r.header (planes_of r.bits)
  sound = storable-sound r t

  value-count : length (value_plane r.bits) ≡ word_count r.header.width
  value-count = sound.planes.value-plane.count

  unknown-count : length (unknown_plane r.bits) ≡ word_count r.header.width
  unknown-count = sound.planes.unknown-plane.count

  value-fits : k + length (value_plane r.bits) ≤ length a.value
  value-fits = omega (arith, room, value-count)

  unknown-fits : k + length (unknown_plane r.bits) ≤ length a.unknown
  unknown-fits = omega (arith, room, unknown-count, level)

  -- the arenas stay as long as they were
  pub put-value : length put.value ≡ length a.value
  put-value = put-length k (value_plane r.bits) a.value value-fits

  put-unknown : length put.unknown ≡ length a.unknown
  put-unknown = put-length k (unknown_plane r.bits) a.unknown unknown-fits

  pub put-level : length put.value ≡ length put.unknown
  put-level = put-value ∙ level ∙ sym put-unknown

  words : cell_planes put there ≡ planes_of r.bits
  words =
      ap₂ lent
      (ap (λ (n : ℕ). take n (drop k put.value)) (sym value-count) ∙ put-span k (value_plane r.bits) a.value value-fits)
      (ap (λ (n : ℕ). take n (drop k put.unknown)) (sym unknown-count) ∙ put-span k (unknown_plane r.bits) a.unknown unknown-fits)

  pub put-fits : Fits put k there
  put-fits = record {
    begins = refl;
    within = omega (arith, room, put-value);
    sound = ap (check_vector r.header) words ∙ vector-accepts r.header (planes_of r.bits) sound;
  }

  pub put_vector : cell_vector put there ≡ r
  put_vector = ap (vector r.header) words ∙ storable-vector r t

  pub put-before : (c : Cell) → c.start + cell_words c ≤ k → cell_planes a c ≡ cell_planes put c
  put-before c h =
      ap₂ lent
      (span-before a.value put.value k (omega (arith, room)) (omega (arith, room, put-value))
      (sym (put-take k (value_plane r.bits) a.value value-fits)) c h)
      (span-before a.unknown put.unknown k (omega (arith, room, level)) (omega (arith, room, level, put-unknown))
      (sym (put-take k (unknown_plane r.bits) a.unknown unknown-fits)) c h)

  pub put-behind : (c : Cell) → k + cell_words there ≤ c.start → cell_planes a c ≡ cell_planes put c
  put-behind c h =
      ap₂ lent
      (span-behind a.value put.value (k + length (value_plane r.bits)) (sym (put-drop k (value_plane r.bits) a.value value-fits)) c
      (omega (arith, h, value-count)))
      (span-behind a.unknown put.unknown (k + length (unknown_plane r.bits)) (sym (put-drop k (unknown_plane r.bits) a.unknown unknown-fits)) c
      (omega (arith, h, unknown-count)))

map_snoc : {A B : Type 0} (f : A → B) (xs : List A) (x : A) → map f (xs ++ (x ∷ [])) ≡ map f xs ++ (f x ∷ [])
map_snoc f [] x = refl
map_snoc f (y ∷ xs) x = ap (λ (l : List _). f y ∷ l) (map_snoc f xs x)

module _ (s : State) (cs : List machine.Cell) (c : machine.Cell) (holds : Holds s cs) (t : Storable c.vector) (few : s.store.count < 320)
    (room : next_word s.store + word_count c.vector.header.width ≤ length s.arenas.value) where
  abbrev r : Vector
  r = c.vector

  abbrev at : ℕ
  at = next_word s.store

  abbrev cell : Cell
  cell = record { start = at; header = r.header }

  abbrev old : Planes
  old = s.arenas

  abbrev new : Planes
  new = put_planes at (planes_of r.bits) s.arenas

  g : Agreed s.arenas s.store.cells s.store.count
  g = state-agrees s holds.agreed

  -- the arenas stay as long as they were
  pub value-length : length new.value ≡ length old.value
  value-length = put-value old at r t g.level room

  filled_more : filled (put_cell r.header s.store) ≡ filled s.store ++ (cell ∷ [])
  filled_more =
      ap (λ (k : ℕ). take k (set s.store.cells s.store.count cell)) (add-one s.store.count)
      ∙ take-suc-set s.store.cells s.store.count cell (omega (arith, holds.places, few))

  others : (cells_agree new 0 (filled s.store) ≡ true) × (map (held new) (filled s.store) ≡ map (held old) (filled s.store))
  others =
      cells_same old new value-length 0 at (λ c l h. put-before old at r t g.level room c h) (filled s.store) 0 (omega arith) (omega arith) g.spans

  fits : cell_agrees new (0 + at) cell ≡ true
  fits =
      let z : 0 + at ≡ at = omega arith in
      ap (λ (n : ℕ). cell_agrees new n cell) z ∙ fits-cell new at cell (put-fits old at r t g.level room)

  pub append-holds : Holds (appended c s) (cs ++ (c ∷ []))
  append-holds = record {
    places = length-set s.store.cells s.store.count cell ∙ holds.places;
    agreed = facts-agree new (put_cell r.header s.store).cells (s.store.count + 1) (record {
      few = omega (arith, few);
      level = put-level old at r t g.level room;
      spans = ap (cells_agree new 0) filled_more ∙ cells-snoc new (filled s.store) cell 0 others.0 fits;
    });
    cells =
        ap (map (held new)) filled_more
        ∙ map_snoc (held new) (filled s.store) cell
        ∙ ap₂ (λ (l : List machine.Cell) (v : Vector). l ++ (holding v ∷ [])) (others.1 ∙ holds.cells) (put_vector old at r t g.level room);
  }

-- what a call has done that added the cell c to a store of the cells cs, where m became n: the answer is the new cell's number, the cell is
-- held behind the others, and there is as much room as before
pub record Added (answer : Answer ℕ) (m n : Memory) (cs : List machine.Cell) (c : machine.Cell) : Type 0 where
  pub answered : answer ≡ given (length cs)
  pub holds : Holds n.state (cs ++ (c ∷ []))
  pub room : room_of n.state.arenas n.scratch ≡ room_of m.state.arenas m.scratch
