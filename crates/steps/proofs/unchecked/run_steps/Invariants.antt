-- `steps::unchecked::run_steps`: what is left to do is the steps from the k-th on; the cells before fit the arenas.
use mathlib.Core.Path.{◌≡◌}
use mathlib.Core.List.{List}
use Prim.Native.Nat.{ℕ, ◌<◌}
use lib.ListN.{length, get_or}
use Rattle.words.specs.Planes.{lent}
use Rattle.cells.specs.declared.Fields.{Fields}
use Rattle.ops.specs.declared.Step.{Step}
use Rattle.ops.specs.Ops.{no_step}
use Rattle.store.specs.Store.{state, store_of}
use Rattle.store.specs.Step.{Memory, memory}
use Rattle.steplist.specs.declared.StepList.{StepList}
use Rattle.load.specs.Limits.{Fitted}
use Rattle.steps.proofs.Loops.{Walked}
use Rattle.steps.proofs.unchecked.run_steps.Given as goal

abbrev pub held : ℕ → Fields → (av au sv su : List ℕ) → Memory
held n f av au sv su = memory (state (store_of n f) (lent av au)) (lent sv su)

abbrev pub step : StepList → ℕ → Step
step l k = get_or l.steps k no_step

abbrev pub invariant-loop-k : goal.invariant-loop-k
invariant-loop-k l = record {
  level : 0 < l.list.step_count → length l.av ≡ length l.au;
  fitted : Fitted l.f l.n l.next (lent l.av l.au);
  walked :
      let o = l.initial in
      Walked (held o.n o.f o.av o.au o.sv o.su) o.out l.list.step_count (step l.list) (held l.n l.f l.av l.au l.sv l.su) l.out l.at l.k;
}
