-- A step that is not refused.
--     behind-admitted, step-admitted     what the checks behind 14 have found where store and arenas agree, and what all of them have
--     named-fits      the cells that it names fit
--     step-storable   a cell can hold its result
--     worked-front    the scratch planes then begin with its result
--     step_added      what it leaves, put together
--     step-check      where a state holds cells, the check goes by headers alone
--     step-holds      its result is held behind the others
use mathlib.Core.Path.{◌≡◌, sym, ap, ap₂, ◌∙◌, subst}
use mathlib.Core.Bool.{Bool, true, false}
use mathlib.Core.List.{List}
use Prim.Native.Nat.{ℕ, ◌+◌, ◌≤◌, ◌<◌, min}
use native.Mathlib.Omega.{arith}
use lib.ListN.{length, take}
use Rattle.refusal.specs.Outcome.{Answer, outcome, or_refuse}
use Rattle.refusal.specs.Outcome.Answer.{given}
use Rattle.words.specs.Planes.{word_count, value_plane, unknown_plane, Plane, Planes, lent, planes_of}
use Rattle.words.proofs.Planes.{length-tabulate}
use Rattle.value.proofs.Checks.{Checked, Sound}
use Rattle.value.specs.declared.Header.{Header}
use Rattle.value.specs.Checks.{Vector, vector}
use Rattle.ops.specs.declared.Step.{Step}
use Rattle.ops.specs.Ops.{arms_refused}
use Rattle.ops.proofs.Results.{result-width}
use Rattle.ops.proofs.Accepted.{result-sound}
use Rattle.machine.specs.Machine as machine
use Rattle.machine.specs.Machine.{headers_of, header_at, words_taken, names, check_count, check_names, check_arms, check_room, check_scratch, step_header, check_step, step_cell}
use Rattle.cells.specs.declared.Cell.{Cell}
use Rattle.cells.specs.Cells.{cell_planes, cell_vector, check_cells}
use Rattle.cells.specs.Places.{no_cell}
use Rattle.cells.proofs.Answered.{after-given, test-left, test-taken, count-few, room-left, scratch-left}
use Rattle.cells.proofs.Agreed.{headers-count, filled-fits, next-within, cells-accepted}
use Rattle.cells.proofs.Spans.{Fits, fits_read}
use Rattle.cells.proofs.Tail.{front-is}
use Rattle.plan.specs.Planned.{named}
use Rattle.plan.proofs.Named.{NamesFilled, names-within}
use Rattle.plan.proofs.Headers.{arms-named}
use Rattle.store.specs.Store.{State, store_headers, next_word, agrees, check_store, appended, room_of, Holds}
use Rattle.store.specs.Step.{Memory, memory, check_memory, step_result, worked, stepped, add_step}
use Rattle.store.proofs.Held.{state-agrees, held-count, holds-headers, Storable, storable-sound, storable-vector, append-holds, value-length, Added}
use Rattle.store.proofs.Named.{filled_at, header-filled, header-vector, vector-named}

pub step_added : (m : Memory) (step : Step) (left : State) (scratch : Planes) → check_memory m step ≡ given tt
    → left ≡ appended (step_result m.state step) m.state → scratch ≡ worked (step_result m.state step) m.scratch
    → outcome (given m.state.store.count) (memory left scratch) ≡ add_step m step
step_added m step left scratch accepted stored shown =
    ap₂ (λ (s : State) (p : Planes). outcome (given m.state.store.count) (memory s p)) stored shown
    ∙ sym (ap (λ (x : Answer Unit). or_refuse x m (outcome (given m.state.store.count) (stepped (step_result m.state step) m))) accepted)

pub record Admitted (m : Memory) (step : Step) : Type 0 where
  pub agreed : agrees m.state ≡ true
  pub few : m.state.store.count < 320
  pub all_named : names m.state.store.count step ≡ true
  pub arms : arms_refused step.op (filled_at m.state.store (named step).b).header (filled_at m.state.store (named step).c).header ≡ false
  pub room : next_word m.state.store + word_count (step_result m.state step).vector.header.width ≤ length m.state.arenas.value
  pub value_room : word_count (step_result m.state step).vector.header.width ≤ length m.scratch.value
  pub unknown-room : word_count (step_result m.state step).vector.header.width ≤ length m.scratch.unknown

module _ (m : Memory) (step : Step) (places : length m.state.store.cells ≡ 320) where
  abbrev s : State
  s = m.state

  abbrev hs : List Header
  hs = store_headers s.store

  abbrev refused_arms : Bool
  refused_arms = arms_refused step.op (header_at hs step.b) (header_at hs step.c)

  arms-filled : refused_arms ≡ arms_refused step.op (filled_at s.store (named step).b).header (filled_at s.store (named step).c).header
  arms-filled =
      arms-named hs step
      ∙ (λ k. arms_refused step.op (header-filled s.store (named step).b k) (header-filled s.store (named step).c k))

  pub behind-admitted : agrees s ≡ true → check_step (room_of s.arenas m.scratch) hs step ≡ given tt → Admitted m step
  unfolding check_step
  behind-admitted agreed e =
      let r = room_of s.arenas m.scratch in
      let w = (step_header hs step).width in
      let count = after-given (check_count (length hs)) _ tt e in
      let names-all = after-given (check_names (length hs) step) _ tt count.1 in
      let arms = after-given (check_arms hs step) _ tt names-all.1 in
      let room = after-given (check_room r (words_taken hs) w) (check_scratch r w) tt arms.1 in
      let counted : length hs ≡ s.store.count = headers-count s.store.cells s.store.count places (state-agrees s agreed).few in
      let same : word_count w ≡ word_count (step_result s step).vector.header.width = ap (λ (h : Header). word_count h.width) (header-vector s step) in
      let behind = room-left r (words_taken hs) w room.0 in
      let worked = scratch-left r w room.1 in
      record {
        agreed = agreed;
        few = omega (arith, counted, count-few (length hs) count.0);
        all_named = ap (λ (n : ℕ). names n step) (sym counted) ∙ test-taken (names (length hs) step) 11 names-all.0;
        arms = sym arms-filled ∙ test-left refused_arms 7 arms.0;
        room = omega (arith, next-within s.arenas s.store.cells s.store.count agreed, behind, same);
        value_room = omega (arith, worked, same);
        unknown-room = omega (arith, worked, same);
      }

  pub step-admitted : check_memory m step ≡ given tt → Admitted m step
  step-admitted e =
      let x = after-given (check_store s) (check_step (room_of s.arenas m.scratch) hs step) tt e in
      behind-admitted (cells-accepted s.arenas s.store.cells s.store.count x.0) x.1

-- ---- the cells that it names, and its result

module _ (m : Memory) (step : Step) (places : length m.state.store.cells ≡ 320) (h : Admitted m step) where
  abbrev a : Planes
  a = m.state.arenas

  within : NamesFilled m.state.store.count step
  within = names-within m.state.store.count step h.all_named

  abbrev at : ℕ → Cell
  at i = filled_at m.state.store i

  cell-fits-at : (i : ℕ) → i < m.state.store.count → Fits a (at i).start (at i)
  cell-fits-at i l = filled-fits a m.state.store.cells m.state.store.count i no_cell places h.agreed l

  pub record Fitting : Type 0 where
    pub a-fits : Fits a (at (named step).a).start (at (named step).a)
    pub b-fits : Fits a (at (named step).b).start (at (named step).b)
    pub c-fits : Fits a (at (named step).c).start (at (named step).c)

  pub named-fits : Fitting
  named-fits = record { a-fits = cell-fits-at _ within.a; b-fits = cell-fits-at _ within.b; c-fits = cell-fits-at _ within.c }

  sound-at : (c : Cell) → Fits a c.start c → Sound c.header (cell_planes a c)
  sound-at c f = (fits_read a c.start c (state-agrees m.state h.agreed).level f).sound

  pub step-storable : Storable (step_result m.state step).vector
  step-storable =
      let x = at (named step).a in
      let y = at (named step).b in
      let z = at (named step).c in
      let sound =
      result-sound x.header y.header z.header (cell_planes a x) (cell_planes a y) (cell_planes a z) step.c
      (sound-at x named-fits.a-fits) (sound-at y named-fits.b-fits) (sound-at z named-fits.c-fits) step.op h.arms in
      subst Storable (sym (vector-named m.state step)) (record {
        width =
            result-width (cell_vector a x) (cell_vector a y) (cell_vector a z) step.c
            (length-tabulate _ _) (length-tabulate _ _) (length-tabulate _ _) step.op h.arms;
        narrow = sound.planes.narrow;
        fill = sound.fill;
      })

-- ---- scratch

-- planes whose first words are those of the vector r, whose header is h
pub record Front (h : Header) (r : Vector) (p : Planes) : Type 0 where
  pub value-long : word_count h.width ≤ length p.value
  pub unknown-long : word_count h.width ≤ length p.unknown
  pub value-plane : Plane h.width (take (word_count h.width) p.value)
  pub unknown-plane : Plane h.width (take (word_count h.width) p.unknown)
  pub holds : vector h (lent (take (word_count h.width) p.value) (take (word_count h.width) p.unknown)) ≡ r

module _ (c : machine.Cell) (scratch : Planes) (t : Storable c.vector) (hv : word_count c.vector.header.width ≤ length scratch.value)
    (hu : word_count c.vector.header.width ≤ length scratch.unknown) where
  abbrev r : Vector
  r = c.vector

  abbrev n : ℕ
  n = word_count r.header.width

  planes : Checked r.header.width (planes_of r.bits)
  planes = (storable-sound r t).planes

  v : (take n (worked c scratch).value ≡ value_plane r.bits) × (length (worked c scratch).value ≡ length scratch.value)
  v = front-is n (value_plane r.bits) scratch.value planes.value-plane.count hv

  u : (take n (worked c scratch).unknown ≡ unknown_plane r.bits) × (length (worked c scratch).unknown ≡ length scratch.unknown)
  u = front-is n (unknown_plane r.bits) scratch.unknown planes.unknown-plane.count hu

  pub worked-front : Front r.header r (worked c scratch)
  worked-front = record {
    value-long = omega (arith, v.1, hv);
    unknown-long = omega (arith, u.1, hu);
    value-plane = subst (Plane r.header.width) (sym v.0) planes.value-plane;
    unknown-plane = subst (Plane r.header.width) (sym u.0) planes.unknown-plane;
    holds = ap₂ (λ (x y : List ℕ). vector r.header (lent x y)) v.0 u.0 ∙ storable-vector r t;
  }

  worked-room : (a b : Planes) → length b.value ≡ length a.value → room_of b (worked c scratch) ≡ room_of a scratch
  worked-room a b e = λ k. record { arena = e k; scratch = min (v.1 k) (u.1 k) }

-- ---- where a state holds the cells cs

module _ (s : State) (cs : List machine.Cell) (p : Planes) (step : Step) (holds : Holds s cs) where
  abbrev before : Memory
  before = memory s p

  pub step-check : check_memory before step ≡ check_step (room_of s.arenas p) (headers_of cs) step
  unfolding check_cells
  step-check = simp holds.agreed (ap (λ (hs : List Header). check_step (room_of s.arenas p) hs step) (holds-headers s cs holds))

  abbrev result : machine.Cell
  result = step_result s step

  pub step-holds : check_step (room_of s.arenas p) (headers_of cs) step ≡ given tt
      → let o = add_step before step in Added o.answer before o.left cs (step_cell cs step)
  step-holds e =
      let h = step-admitted before step holds.places (step-check ∙ e) in
      let t = step-storable before step holds.places h in
      subst (λ (x : Answer Unit).
      let o = or_refuse x before (outcome (given s.store.count) (stepped result before)) in Added o.answer before o.left cs (step_cell cs step))
      (sym (step-check ∙ e))
      (subst (Added (given s.store.count) before (stepped result before) cs) (ap (λ (l : List machine.Cell). step_cell l step) holds.cells) (record {
        answered = ap given (sym (held-count s cs holds));
        holds = append-holds s cs result holds t h.few h.room;
        room =
            worked-room result p t h.value_room h.unknown-room s.arenas (appended result s).arenas
            (value-length s cs result holds t h.few h.room);
      }))
