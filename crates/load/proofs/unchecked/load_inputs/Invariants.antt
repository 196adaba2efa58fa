-- `load::unchecked::load_inputs`: what is left to do is the inputs from the i-th on; the cells of those before fit the arenas.
use mathlib.Core.Path.{◌≡◌}
use Prim.Native.Nat.{ℕ, ◌<◌}
use mathlib.Core.List.{List}
use lib.ListN.{length, get_or}
use Rattle.words.specs.Planes.{lent}
use Rattle.value.specs.Checks.{Vector}
use Rattle.store.specs.Store.{state, store_of, empty_store}
use Rattle.steplist.specs.declared.StepList.{StepList}
use Rattle.steplist.specs.Answers.{no_input, input_in}
use Rattle.load.specs.Limits.{Fitted}
use Rattle.load.proofs.Loops.{Fed}
use Rattle.load.proofs.unchecked.load_inputs.Given as goal

abbrev pub input : List ℕ → StepList → ℕ → Vector
input t l i = input_in t (get_or l.inputs i no_input)

abbrev pub invariant-loop-i : goal.invariant-loop-i
invariant-loop-i l = record {
  level : 0 < l.list.input_count → length l.av ≡ length l.au;
  fitted : Fitted l.f l.i l.next (lent l.av l.au);
  fed :
      Fed (state empty_store (lent l.initial.av l.initial.au)) l.list.input_count (input l.text l.list)
      (state (store_of l.i l.f) (lent l.av l.au)) l.i;
}
