-- `steps::unchecked::run_steps`: a step that adds a cell is one less of those that are left.
use mathlib.Core.Path.{◌≡◌, refl, sym, ap, ◌∙◌}
use mathlib.Core.List.{List}
use Prim.Native.Nat.{ℕ, ◌+◌, ◌*◌, ◌≤◌, ◌<◌}
use native.Mathlib.Omega.{arith}
use lib.ListN.{length, take}
use lib.Seq.{get_or-set_same}
use Rattle.refusal.specs.Refusals.{refusal_number}
use Rattle.refusal.specs.Outcome.{outcome}
use Rattle.refusal.specs.Outcome.Answer.{given, refused}
use Rattle.words.specs.Planes.{word_count, Planes, lent_by}
use Rattle.words.proofs.Planes.{length-tabulate}
use Rattle.lines.specs.Buffer.{buffer, put}
use Rattle.lines.proofs.Put.{length-planes, place_of}
use Rattle.ops.specs.declared.Step.{Step}
use Rattle.machine.specs.Machine.{AtEnd}
use Rattle.cells.specs.declared.Cell.{Cell}
use Rattle.cells.specs.declared.Fields.{Fields}
use Rattle.cells.specs.Places.{cell_of, no_cell}
use Rattle.cells.proofs.Agreed.{next-within}
use Rattle.cells.proofs.Places.{put_fields}
use Rattle.store.specs.declared.Store.{Store}
use Rattle.store.specs.Store.{state, store_of, with_cell}
use Rattle.store.specs.Step.{Memory, memory, step_result, add_step}
use Rattle.store.specs.Taken.{Laid}
use Rattle.store.proofs.Taken.{store-refused}
use Rattle.store.proofs.Held.{state-uneven}
use Rattle.store.proofs.Laid.{step-laid, with-fields}
use Rattle.load.specs.Limits.{Fitted}
use Rattle.load.proofs.Fitted.{fitted-more}
use Rattle.load.proofs.Loops.{uneven}
use Rattle.run_lines.specs.Output.{front_bits, cell_text, done_text, refused_text}
use Rattle.run_lines.proofs.Room.{cell_room}
use Rattle.steps.specs.Run.{final}
use Rattle.steps.proofs.Shown.{Shown, step-shown}
use Rattle.steps.proofs.Loops.{Walked, walk_start, walk_more, walk-last, walk-done}
use Rattle.steps.proofs.unchecked.run_steps.Invariants.{held, step}
use Rattle.steps.proofs.unchecked.run_steps.Goals as goal

-- the step s, which adds the cell c behind n others
module _ (n next : ℕ) (f : Fields) (a p b q : Planes) (s : Step) (fitted : Fitted f n next a) (level : length a.value ≡ length a.unknown)
    (few : n < 320) (c : Cell)
    (added : outcome (given n) (memory (state (with_cell c (store_of n f)) b) q) ≡ add_step (memory (state (store_of n f) a) p) s) where
  abbrev before : Memory
  before = memory (state (store_of n f) a) p

  abbrev after : Memory
  after = memory (state (with_cell c (store_of n f)) b) q

  places : length (store_of n f).cells ≡ 320
  places = length-tabulate 320 (cell_of f)

  shown : Shown before after s n c.header
  shown =
      step-shown before after s n c.header places fitted.thin added
      (ap (λ (z : Cell). z.header) (get_or-set_same (store_of n f).cells n c no_cell (omega (arith, places, few))))

  more : Laid (put_fields f n c) (n + 1) (c.start + word_count c.header.width) b
  more = step-laid f n next c a b p q s fitted.whole (fitted.laid level) added

  within : c.start + word_count c.header.width ≤ length b.value
  within = omega (arith, next-within b _ (n + 1) more.agreed, more.words)

  fitted-step : (k : ℕ) → k ≡ c.start + word_count c.header.width → Fitted (put_fields f n c) (n + 1) k b
  fitted-step k e = fitted-more f n next a fitted few c shown.thin k b e more

  -- its lines, written from place `at` on
  module _ (out bytes : List ℕ) (at end : ℕ)
      (front : buffer bytes end ≡ put (buffer out at) (cell_text n (front_bits c.header.width q))) where
    written : buffer bytes end ≡ put (buffer out at) (cell_text n (step_result before.state s).vector.bits)
    written = front ∙ ap (λ bs. put (buffer out at) (cell_text n bs)) shown.bits

    short : end ≤ at + 4111
    short =
        let w = c.header.width in
        let bs = front_bits w q in
        omega (
          arith,
          place_of out at (cell_text n bs) front,
          cell_room n bs (omega (arith, few)),
          length-planes w (take (word_count w) q.value) (take (word_count w) q.unknown),
          shown.thin,
        )

    -- of m steps, of which k were done
    module _ (from : Memory) (first : List ℕ) (m k : ℕ) (g : ℕ → Step) (is : g k ≡ s) (inside : k < m) (room : m * 4111 ≤ length first)
        (walked : Walked from first m g before out at k) (same : length bytes ≡ length out) where
      walked-step : Walked from first m g (memory (state (store_of (n + 1) (put_fields f n c)) b) q) bytes end (k + 1)
      walked-step =
          let e =
          ap (λ (z : Store). outcome (given n) (memory (state z b) q)) (sym (with-fields f n c fitted.whole few)) ∙ added
          ∙ sym (ap (add_step before) is) in
          walk_more m g from first before out at k walked inside (given n) (memory (state (store_of (n + 1) (put_fields f n c)) b) q) bytes
          end e n refl
          (written ∙ sym (ap (λ z. put (buffer out at) (cell_text n (step_result before.state z).vector.bits)) is))
          (omega (arith, inside, room, walked.short, walked.long)) short same

pub returns-then-list-av : goal.returns-then-list-av
returns-then-list-av c =
    let a = c.args in
    let n = a.list.step_count in
    let m = held a.inputs.count a.inputs.fields a.av.now a.au.now a.sv.now a.su.now in
    let u = uneven n (length a.av.now) (length a.au.now) c.if-list-av.true in
    sym (walk-last n (step a.list) m a.out.now m a.out.now 0 0 (walk_start n (step a.list) m a.out.now) u.0
    (refused 14) m c.put_refused.new.out c.put_refused.result ((store-refused m.state 14 (state-uneven m.state u.1)).1 m.scratch (step
    a.list 0)) 14 refl
    (c.put_refused.ensures ∙ ap (λ z. put (buffer a.out.now 0) (refused_text z 1)) (c.from-then-list-av.ensures ∙ c.from.ensures)))

pub returns-in-Err : goal.returns-in-Err
returns-in-Err c =
    let a = c.args in
    let o = c.loop-k in
    let t = c.take_step in
    let k = o.k in
    sym (walk-last a.list.step_count (step a.list) (held a.inputs.count a.inputs.fields a.av.now a.au.now a.sv.now a.su.now) a.out.now
    (held o.n o.f o.av o.au o.sv o.su) o.out o.at k o.invariant.walked (omega (arith, c.loop-k-test.true))
    (refused (refusal_number c.in-Err.refusal)) (held o.n o.f t.new.av t.new.au t.new.sv t.new.su) c.put_refused-in-Err.new.out
    c.put_refused-in-Err.result
    c.in-Err.ensures.taken (refusal_number c.in-Err.refusal) refl
    (c.put_refused-in-Err.ensures ∙ ap (λ z. put (buffer o.out o.at) (refused_text z (k + 1))) (c.from-in-Err-2.ensures
    ∙ c.from-in-Err.ensures)))

pub put_step-at-requires-clause-n_bound : goal.put_step-at-requires-clause-n_bound
put_step-at-requires-clause-n_bound c =
    let a = c.args in
    let o = c.loop-k in
    let t = c.take_step in
    let s = step a.list o.k in
    let level = o.invariant.level (omega (arith, c.loop-k-test.true)) in
    let old = lent_by o.av o.au in
    let oldscratch = lent_by o.sv o.su in
    let b = lent_by t.new.av t.new.au in
    let q = lent_by t.new.sv t.new.su in
    let w = o.invariant.walked in
    let g = c.requires.step_count_bound in (
      omega (arith, c.in-Ok.ensures.few),
      omega (
        arith,
        c.loop-k-test.true,
        g.0,
        g.1,
        w.short,
        o.auto.out,
        (shown o.n o.next o.f old oldscratch b q s o.invariant.fitted level
            c.in-Ok.ensures.few c.in-Ok.c c.in-Ok.ensures.taken).thin,
      ),
    )

pub put_step-at-requires-clause-width_in_bounds : goal.put_step-at-requires-clause-width_in_bounds
put_step-at-requires-clause-width_in_bounds c =
    let a = c.args in
    let o = c.loop-k in
    let t = c.take_step in
    let s = step a.list o.k in
    let level = o.invariant.level (omega (arith, c.loop-k-test.true)) in
    let old = lent_by o.av o.au in
    let oldscratch = lent_by o.sv o.su in
    let b = lent_by t.new.av t.new.au in
    let q = lent_by t.new.sv t.new.su in
    let r = shown o.n o.next o.f old oldscratch b q s o.invariant.fitted level c.in-Ok.ensures.few c.in-Ok.c c.in-Ok.ensures.taken in
    (r.value-long, r.unknown-long)

pub overflow_add-next : goal.overflow_add-next
overflow_add-next c =
    let a = c.args in
    let o = c.loop-k in
    let t = c.take_step in
    let s = step a.list o.k in
    let level = o.invariant.level (omega (arith, c.loop-k-test.true)) in
    let old = lent_by o.av o.au in
    let oldscratch = lent_by o.sv o.su in
    let b = lent_by t.new.av t.new.au in
    let q = lent_by t.new.sv t.new.su in
    omega (
      arith,
      within o.n o.next o.f old oldscratch b q s o.invariant.fitted level c.in-Ok.ensures.few c.in-Ok.c c.in-Ok.ensures.taken,
      c.word_count.ensures,
      t.auto.av,
      o.auto.av,
      c.well_formed,
    )

pub loop-k-preserved : goal.loop-k-preserved
loop-k-preserved c =
    let a = c.args in
    let o = c.loop-k in
    let t = c.take_step in
    let s = step a.list o.k in
    let level = o.invariant.level (omega (arith, c.loop-k-test.true)) in
    let old = lent_by o.av o.au in
    let oldscratch = lent_by o.sv o.su in
    let b = lent_by t.new.av t.new.au in
    let q = lent_by t.new.sv t.new.su in
    record {
      level = λ z. t.auto.av ∙ level ∙ sym t.auto.au;
      fitted = fitted-step o.n o.next o.f old oldscratch b q s o.invariant.fitted level c.in-Ok.ensures.few c.in-Ok.c c.in-Ok.ensures.taken
          _ (ap (λ (n : ℕ). c.in-Ok.c.start + n) c.word_count.ensures);
      walked =
          walked-step o.n o.next o.f old oldscratch b q s o.invariant.fitted level c.in-Ok.ensures.few c.in-Ok.c c.in-Ok.ensures.taken
          o.out c.put_step-at.new.out o.at c.put_step-at.result c.put_step-at.ensures
          (held a.inputs.count a.inputs.fields a.av.now a.au.now a.sv.now a.su.now) a.out.now a.list.step_count o.k (step a.list) refl
          (omega (arith, c.loop-k-test.true))
          (omega (arith, c.requires.step_count_bound.0, c.requires.step_count_bound.1)) o.invariant.walked c.put_step-at.auto.out;
    }

-- the last line, which gives the number of the steps by any name
ended : (m : Memory) (out bytes : List ℕ) (at length k n : ℕ) → buffer bytes length ≡ put (buffer out at) (done_text n) → k ≡ n
    → final m (put (buffer out at) (done_text k)) (AtEnd k) ≡ final m (buffer bytes length) (AtEnd n)
ended m out bytes at length k n h e = ap (λ z. final m (put (buffer out at) (done_text z)) (AtEnd z)) e ∙ ap (λ z. final m z (AtEnd n)) (sym h)

pub returns : goal.returns
returns c =
    let a = c.args in
    let o = c.loop-k in
    let m = held o.n o.f o.av o.au o.sv o.su in
    let all : a.list.step_count ≤ o.k = omega (arith, c.loop-k-test.false, c.requires.step_count_bound.0) in
    sym (walk-done a.list.step_count (step a.list) (held a.inputs.count a.inputs.fields a.av.now a.au.now a.sv.now a.su.now) a.out.now
    m o.out o.at o.k o.invariant.walked all
    ∙ ended m o.out c.put_done.new.out o.at c.put_done.result o.k _ c.put_done.ensures
    (omega (arith, c.loop-k-test.false, o.auto.k-end, c.requires.step_count_bound.0)))
