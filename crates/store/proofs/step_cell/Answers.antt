-- `store::step_cell`: 14, then what is taken on the store's four arrays.
use Rattle.std.specs.Prelude.{Result, Ok, Err, IfOk}
use Rattle.refusal.specs.declared.Refusal.{Refusal}
use mathlib.Core.Path.{◌≡◌, sym, ap, ◌∙◌, subst}
use mathlib.Core.Bool.{true}
use Prim.Native.Nat.{ℕ, ◌<◌}
use native.Mathlib.Omega.{arith}
use lib.ListN.{length}
use Rattle.refusal.specs.Outcome.{outcome, answer}
use Rattle.words.specs.Planes.{Planes}
use Rattle.ops.specs.declared.Step.{Step}
use Rattle.cells.specs.declared.Cell.{Cell}
use Rattle.cells.specs.declared.Fields.{Fields}
use Rattle.cells.specs.Places.{fields_of}
use Rattle.store.specs.declared.Store.{Store}
use Rattle.store.specs.Store.{state, state_by, store_of, next_word, agrees}
use Rattle.store.specs.Step.{Memory, memory_by, add_step}
use Rattle.store.specs.Taken.{Laid, taken_answer, taken_store}
use Rattle.store.proofs.Placed.{store-again}
use Rattle.store.proofs.Taken.{told-accepted, step-few}
use Rattle.store.proofs.step_cell.Goals as goal

module _ (s : Store) (f : Fields) (places : length s.cells ≡ 320) (e : f ≡ fields_of s.cells) where
  same : s ≡ store_of s.count f
  same = sym (store-again s places) ∙ ap (store_of s.count) (sym e)

  laid : (a : Planes) (k : ℕ) → agrees (state s a) ≡ true → next_word s ≡ k → Laid f s.count k a
  laid a k h w = record { agreed = subst (λ (z : Store). agrees (state z a) ≡ true) same h; words = sym w ∙ ap next_word same }

pub take_step-requires : goal.take_step-requires
take_step-requires c =
    let a = c.args in
    let s = state_by a.s.now a.av.now a.au.now in
    let found = told-accepted s c.in_ok-next.next (sym c.check_cells.ensures ∙ ap answer c.in_ok-next.was) in
    laid a.s.now c.fields_of-f.result (omega (arith, c.well_formed)) c.fields_of-f.ensures s.arenas c.in_ok-next.next found.0 found.1

pub returns-clause-taken : goal.returns-clause-taken
returns-clause-taken c =
    let a = c.args in
    let t = c.take_step in
    let e = same a.s.now c.fields_of-f.result (omega (arith, c.well_formed)) c.fields_of-f.ensures in
    subst (λ (z : Store). outcome (taken_answer a.s.now.count t.result)
    (memory_by (taken_store t.result z) t.new.av t.new.au t.new.sv t.new.su)
    ≡ add_step (memory_by z a.av.now a.au.now a.sv.now a.su.now) a.step) (sym e) t.ensures.taken
