-- `store::unchecked::take_input`: the plan decides; the words of a vector in order are its planes.
use Rattle.std.specs.Prelude.{Result, Ok}
use Rattle.refusal.specs.declared.Refusal.{Refusal}
use mathlib.Core.Path.{◌≡◌, sym, ap, ap₂, ◌∙◌}
use mathlib.Core.List.{List}
use Prim.Native.Nat.{ℕ, ◌-◌, ◌≤◌}
use native.Mathlib.Omega.{arith}
use lib.ListN.{length, take}
use lib.Seq.{take_all}
use Rattle.refusal.specs.Outcome.{Answer, outcome, after, or_refuse, answer}
use Rattle.refusal.specs.Outcome.Answer.{given}
use Rattle.words.specs.Planes.{word_count, Planes, lent, lent_by, planes_of, vector_of}
use Rattle.bits.proofs.Splice.{planes-again}
use Rattle.value.specs.declared.Header.{Header}
use Rattle.value.specs.Checks.{check_vector}
use Rattle.value.proofs.Checks.{Sound, vector_accepted}
use Rattle.machine.specs.Machine.{check_count, check_room, check_input_behind}
use Rattle.cells.specs.Cells.{put_planes}
use Rattle.cells.proofs.Answered.{after-given, answer-given, room-left}
use Rattle.store.specs.Store.{room_of, no_scratch}
use Rattle.store.proofs.unchecked.take_input.Goals as goal

module _ (n k : ℕ) (h : Header) (input arenas : Planes) where
  abbrev check : Answer Unit
  check = check_input_behind (room_of arenas no_scratch) n k (check_vector h input) h.width

  -- an input that is planned at a word
  record Planned (at : ℕ) : Type 0 where
    accepted : check ≡ given tt
    begins : k ≡ at
    sound : Sound h input
    room : word_count h.width ≤ length arenas.value - k

  planned : (v : Result Unit Refusal) (x : Result ℕ Refusal) (at : ℕ) → answer v ≡ check_vector h input
      → answer x ≡ after (check_input_behind (room_of arenas no_scratch) n k (answer v) h.width) (given k) → x ≡ Ok at → Planned at
  planned v x at e told is =
      let r = room_of arenas no_scratch in
      let found =
      answer-given check k at
      (sym (ap (λ (z : Answer Unit). after (check_input_behind r n k z h.width) (given k)) e) ∙ sym told ∙ ap answer is) in
      let y = after-given (check_count n) (after (check_vector h input) (check_room r k h.width)) tt found.0 in
      let z = after-given (check_vector h input) (check_room r k h.width) tt y.1 in
      record { accepted = found.0; begins = found.1; sound = vector_accepted h input z.0; room = room-left r k h.width z.1 }

pub copy_behind-requires-clause-n_in_bounds : goal.copy_behind-requires-clause-n_in_bounds
copy_behind-requires-clause-n_in_bounds c =
    let a = c.args in
    let p =
    planned a.count a.next a.h (lent_by a.value.now a.unknown.now) (lent_by a.av.now a.au.now) c.check_vector-checked.result
    c.plan_input.result
    c.in_ok-at.at c.check_vector-checked.ensures c.plan_input.ensures c.in_ok-at.was in
    let s = p.sound.planes in
    (omega (arith, s.value-plane.count), omega (arith, s.unknown-plane.count))

pub returns : goal.returns
returns c =
    let a = c.args in
    let input = lent_by a.value.now a.unknown.now in
    let arenas = lent_by a.av.now a.au.now in
    let p =
    planned a.count a.next a.h input arenas c.check_vector-checked.result c.plan_input.result
    c.in_ok-at.at c.check_vector-checked.ensures c.plan_input.ensures c.in_ok-at.was in
    let q = p.sound.planes in
    let n : c.word_count.result ≡ word_count a.h.width = c.word_count.ensures in
    let value : take c.word_count.result input.value ≡ input.value = take_all c.word_count.result input.value (omega (
      arith,
      n,
      q.value-plane.count,
    )) in
    let unknown : take c.word_count.result input.unknown ≡ input.unknown =
    take_all c.word_count.result input.unknown (omega (arith, n, q.unknown-plane.count)) in
    let again = planes-again a.h.width input.value input.unknown q.value-plane q.unknown-plane (λ i. (c.type_inv.value i).fits) (λ i.
    (c.type_inv.unknown i).fits) in
    let e =
    c.copy_behind.ensures
    ∙ ap₂ (λ (v u : List ℕ). put_planes c.in_ok-at.at (lent v u) arenas) value unknown
    ∙ ap (λ (x : Planes). put_planes c.in_ok-at.at x arenas) again in
    ap (outcome (given c.in_ok-at.at)) e
    ∙ ap (λ (i : ℕ). outcome (given i) (put_planes i (planes_of (vector_of a.h.width input)) arenas)) (sym p.begins)
    ∙ sym (ap (λ (x : Answer Unit). or_refuse x arenas (outcome (given a.next) (put_planes a.next (planes_of (vector_of a.h.width input))
    arenas))) p.accepted)
