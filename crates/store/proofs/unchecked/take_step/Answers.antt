-- `store::unchecked::take_step`: the plan decides, and a planned step can be executed.
use Rattle.std.specs.Prelude.{Result, Ok, Err}
use Rattle.std.proofs.lemmas.Result.{err_from_is_err_and}
use Rattle.refusal.specs.declared.Refusal.{Refusal}
use mathlib.Core.Path.{◌≡◌, sym, ap, ◌∙◌}
use mathlib.Core.List.{List}
use Prim.Native.Nat.{ℕ, ◌≤◌, min}
use native.Mathlib.Omega.{arith}
use lib.ListN.{length}
use Rattle.refusal.specs.Refusals.{refusal_number}
use Rattle.refusal.specs.Outcome.{Answer, outcome, after, answer}
use Rattle.refusal.specs.Outcome.Answer.{given, refused}
use Rattle.words.proofs.Planes.{length-tabulate}
use Rattle.value.specs.declared.Header.{Header}
use Rattle.ops.specs.declared.Step.{Step}
use Rattle.machine.specs.Machine.{words_taken, check_step}
use Rattle.cells.specs.declared.Fields.{Fields}
use Rattle.cells.specs.Places.{fields_by, headers_by, places_of, cell_of}
use Rattle.cells.proofs.Answered.{answer-given, answer-refused}
use Rattle.cells.proofs.Agreed.{next-within}
use Rattle.cells.proofs.Places.{headers-places}
use Rattle.plan.specs.declared.PlannedStep.{PlannedStep}
use Rattle.plan.specs.Planned.{planned}
use Rattle.execute.specs.Executed.{LentMemory, lent_memory_by}
use Rattle.store.specs.Store.{state, store_of, store_headers, room_of, with_cell}
use Rattle.store.specs.Step.{memory, memory_by, add_step}
use Rattle.store.specs.Taken.{Laid}
use Rattle.store.proofs.Held.{state-agrees}
use Rattle.store.proofs.Taken.{step-few, step-refused, step-executable, step-taken}
use Rattle.store.proofs.unchecked.take_step.Goals as goal

module _ (n k : ℕ) (f : Fields) (m : LentMemory) (step : Step) (laid : Laid f n k m.arenas) where
  abbrev hs : List Header
  hs = store_headers (store_of n f)

  abbrev read : List Header
  read = headers_by n f.widths f.signs f.fills

  few : n ≤ 320
  few = (state-agrees (state (store_of n f) m.arenas) laid.agreed).few

  same : read ≡ hs
  same = sym (headers-places n f few)

  ready : (n ≤ 320) × (k ≡ words_taken read) × (k ≤ length m.arenas.value)
  ready =
      let w = next-within m.arenas (places_of f) n laid.agreed in
      (few, laid.words ∙ ap words_taken (sym same), omega (arith, w, laid.words))

  abbrev check : Answer Unit
  check = check_step (room_of m.arenas m.scratch) hs step

  module _ (s : ℕ) (x : Result PlannedStep Refusal) (least : s ≡ min (length m.scratch.value) (length m.scratch.unknown))
      (told : answer x ≡ after (check_step (record { arena = length m.arenas.value; scratch = s }) read step) (given (planned read step)))
    where
      by-store : answer x ≡ after check (given (planned hs step))
      by-store =
          told
          ∙ (λ i. after (check_step (record { arena = length m.arenas.value; scratch = least i }) (same i) step) (given (planned (same i)
          step)))

      refused-step : (r : Refusal) → x ≡ Err r
          → outcome (refused (refusal_number r)) (memory (state (store_of n f) m.arenas) m.scratch) ≡ add_step (memory (state (store_of n f)
          m.arenas) m.scratch) step
      refused-step r is =
          step-refused n f m step laid.agreed (refusal_number r)
          (answer-refused check (planned hs step) (refusal_number r) (sym by-store ∙ ap answer is))

      found : (p : PlannedStep) → x ≡ Ok p → (check ≡ given tt) × (planned hs step ≡ p)
      found p is = answer-given check (planned hs step) p (sym by-store ∙ ap answer is)

pub plan_step-requires : goal.plan_step-requires
plan_step-requires c =
    let a = c.args in
    ready a.count a.next (fields_by a.starts.now a.widths.now a.signs.now a.fills.now) (lent_memory_by a.av.now a.au.now a.sv.now a.su.now)
    a.step c.requires

pub returns-in_err-p-clause-taken : goal.returns-in_err-p-clause-taken
returns-in_err-p-clause-taken c =
    let a = c.args in
    let f = fields_by a.starts.now a.widths.now a.signs.now a.fills.now in
    let m = lent_memory_by a.av.now a.au.now a.sv.now a.su.now in
    let e = err_from_is_err_and c.from_residual.result c.from_residual.ensures.1 in
    rw (e.1, e.2)
    (refused-step a.count a.next f m a.step c.requires c.least.result c.plan_step.result c.least.ensures c.plan_step.ensures
    c.in_err-p.field-0.0 c.in_err-p.was)

pub execute-requires : goal.execute-requires
execute-requires c =
    let a = c.args in
    let f = fields_by a.starts.now a.widths.now a.signs.now a.fills.now in
    let m = lent_memory_by a.av.now a.au.now a.sv.now a.su.now in
    let g = found a.count a.next f m a.step c.requires c.least.result c.plan_step.result c.least.ensures c.plan_step.ensures c.in_ok-p.p
    c.in_ok-p.was in
    step-executable a.count f m a.step c.requires.agreed g.0 c.in_ok-p.p g.1

pub returns-clause-taken : goal.returns-clause-taken
returns-clause-taken c =
    let a = c.args in
    let f = fields_by a.starts.now a.widths.now a.signs.now a.fills.now in
    let m = lent_memory_by a.av.now a.au.now a.sv.now a.su.now in
    let p = c.in_ok-p.p in
    let g = found a.count a.next f m a.step c.requires c.least.result c.plan_step.result c.least.ensures c.plan_step.ensures p
    c.in_ok-p.was in
    ap (λ (l : LentMemory). outcome (given a.count) (memory (state (with_cell (record { start = p.start; header = p.header }) (store_of
    a.count f)) l.arenas) l.scratch)) c.execute.ensures
    ∙ step-taken a.count f m a.step c.requires.agreed g.0 p g.1

pub returns-clause-few : goal.returns-clause-few
returns-clause-few c =
    let a = c.args in
    let f = fields_by a.starts.now a.widths.now a.signs.now a.fills.now in
    step-few (memory_by (store_of a.count f) a.av.now a.au.now a.sv.now a.su.now) _ a.step a.count (length-tabulate 320 (cell_of f))
    (returns-clause-taken c)
