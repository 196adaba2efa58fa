-- An input that is not refused.
--     input-accepted  what the checks have found
--     input-check     where a state holds cells, the check goes by headers alone
--     input-holds     an accepted input is held behind the others
use mathlib.Core.Path.{◌≡◌, sym, ap, ap₂, subst}
use mathlib.Core.Bool.{true}
use mathlib.Core.List.{List}
use Prim.Native.Nat.{ℕ, ◌+◌, ◌≤◌, ◌<◌}
use native.Mathlib.Omega.{arith}
use lib.ListN.{length}
use Rattle.refusal.specs.Outcome.{Answer, outcome, after, or_refuse}
use Rattle.refusal.specs.Outcome.Answer.{given}
use Rattle.words.specs.Planes.{word_count, value_plane, unknown_plane, Plane, Planes, planes_of}
use Rattle.words.proofs.Planes.{value-plane, unknown-plane}
use Rattle.value.specs.declared.Header.{Header}
use Rattle.value.specs.Checks.{Vector, vector, check_vector}
use Rattle.value.proofs.Checks.{Sound, vector_accepted}
use Rattle.machine.specs.Machine as machine
use Rattle.machine.specs.Machine.{check_input_behind, holding, headers_of, words_taken, check_count, check_room}
use Rattle.cells.specs.Cells.{check_cells}
use Rattle.cells.proofs.Answered.{after-given, count-few, room-left}
use Rattle.cells.proofs.Agreed.{headers-count, next-within, cells-accepted}
use Rattle.store.specs.Store.{State, store_headers, next_word, agrees, check_store, room_of, no_scratch, appended, check_input, add_input, Holds}
use Rattle.store.specs.Step.{memory}
use Rattle.store.proofs.Answered.{check_header, planes-header}
use Rattle.store.proofs.Held.{state-agrees, held-count, holds-headers, Storable, storable-vector, append-holds, value-length, Added}

record Accepted (s : State) (h : Header) (p : Planes) : Type 0 where
  few : s.store.count < 320
  sound : Sound h p
  room : next_word s.store + word_count h.width ≤ length s.arenas.value

module _ (s : State) (h : Header) (p : Planes) (places : length s.store.cells ≡ 320) where
  abbrev count : Answer Unit
  count = check_count (length (store_headers s.store))

  abbrev space : Answer Unit
  space = check_room (room_of s.arenas no_scratch) (next_word s.store) h.width

  input-accepted : check_input s h p ≡ given tt → Accepted s h p
  input-accepted e =
      let w = after-given (check_store s) (after count (after (check_vector h p) space)) tt e in
      let x = after-given count (after (check_vector h p) space) tt w.1 in
      let y = after-given (check_vector h p) space tt x.1 in
      let agreed : agrees s ≡ true = cells-accepted s.arenas s.store.cells s.store.count w.0 in
      let counted = headers-count s.store.cells s.store.count places (state-agrees s agreed).few in
      let within = next-within s.arenas s.store.cells s.store.count agreed in
      record {
        few = omega (arith, counted, count-few (length (store_headers s.store)) x.0);
        sound = vector_accepted h p y.0;
        room = omega (arith, within, room-left (room_of s.arenas no_scratch) (next_word s.store) h.width y.1);
      }

-- ---- where a state holds the cells cs, and the input is a vector of as many bits as its header says

module _ (s : State) (cs : List machine.Cell) (v : Vector) (holds : Holds s cs) (e : length v.bits ≡ v.header.width) where
  header-check : check_vector v.header (planes_of v.bits) ≡ check_header v.header
  header-check =
      planes-header v.header (planes_of v.bits)
      (subst (λ (w : ℕ). Plane w (value_plane v.bits)) e (value-plane v.bits))
      (subst (λ (w : ℕ). Plane w (unknown_plane v.bits)) e (unknown-plane v.bits))

  pub input-check : (scratch : Planes) → check_input s v.header (planes_of v.bits)
      ≡ check_input_behind (room_of s.arenas scratch) (length (headers_of cs)) (words_taken (headers_of cs)) (check_header v.header) v.header.width
  unfolding check_cells
  input-check scratch =
      simp holds.agreed
      (ap₂ (λ (hs : List Header) (x : Answer Unit).
      check_input_behind (room_of s.arenas scratch) (length hs) (words_taken hs) x v.header.width)
      (holds-headers s cs holds) header-check)

  pub input-holds : (scratch : Planes) → check_input s v.header (planes_of v.bits) ≡ given tt
      → let o = add_input s v.header (planes_of v.bits) in Added o.answer (memory s scratch) (memory o.left scratch) cs (holding v)
  input-holds scratch c =
      let a = input-accepted s v.header (planes_of v.bits) holds.places c in
      let t : Storable v = record { width = e; narrow = a.sound.planes.narrow; fill = a.sound.fill } in
      let p = planes_of v.bits in
      subst (λ (x : Answer Unit). let o = or_refuse x s (outcome (given s.store.count) (appended (holding (vector v.header p)) s)) in
      Added o.answer (memory s scratch) (memory o.left scratch) cs (holding v)) (sym c)
      (subst (λ (r : Vector). Added (given s.store.count) (memory s scratch) (memory (appended (holding r) s) scratch) cs (holding v))
      (sym (storable-vector v t)) (record {
        answered = ap given (sym (held-count s cs holds));
        holds = append-holds s cs (holding v) holds t a.few a.room;
        room = λ k. record { arena = value-length s cs (holding v) holds t a.few a.room k; scratch = (room_of s.arenas scratch).scratch };
      }))
