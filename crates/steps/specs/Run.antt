-- Document 01, "Step list": the run of a list on a memory, and what it writes. Each input and each step gets the memory as the one before left it.
use Rattle.std.specs.Prelude.{List, [], ◌∷◌, ◌++◌, ℕ, suc, Result, Ok, Err}
use Rattle.bit.specs.declared.LogicBit.{LogicBit}
use Rattle.refusal.specs.Refusals.{refusal_number}
use Rattle.refusal.specs.Outcome.{Answer}
use Rattle.refusal.specs.Outcome.Answer.{given, refused}
use Rattle.words.specs.Planes.{Planes}
use Rattle.lines.specs.Buffer.{Buffer, buffer, put}
use Rattle.run_lines.specs.Output.{cell_text, done_text, refused_text}
use Rattle.ops.specs.declared.Step.{Step}
use Rattle.machine.specs.Machine.{Ending, AtEnd, RefusedAt}
use Rattle.store.specs.Store.{state, empty_store, store_of}
use Rattle.store.specs.Step.{Memory, memory, memory_by, add_step, step_result}
use Rattle.load.specs.Inputs.{add_inputs}
use Rattle.steplist.specs.Listing.{StepList, whole}
use Rattle.steps.specs.declared.Stop.{Stop}
use Rattle.steps.specs.declared.Pass.{Pass}
use Rattle.steps.specs.declared.RunAnswer.{RunAnswer}

-- the memory that a run leaves, the text that it writes, and how it ends
pub record Ran : Type 0 where
  pub memory : Memory
  pub text : List ℕ
  pub ending : Ending

abbrev pub ran : Memory → List ℕ → Ending → Ran
ran m t e = record { memory = m; text = t; ending = e }

-- the last lines tell how the run ended: done= and the number of steps run, or refused= and step=
abbrev pub end_text : Ending → List ℕ
end_text (AtEnd k) = done_text k
end_text (RefusedAt n step) = refused_text n step

-- a run that ends here
abbrev pub ended : Memory → Ending → Ran
ended m e = ran m (end_text e) e

-- a refusal of the file or of an input leaves the memory as it found it
abbrev pub refused_first : Memory → ℕ → Ran
refused_first m n = ended m (RefusedAt n 0)

-- ---- the steps

-- a refused step is the run's last; the lines of the others come before those of the steps behind them
abbrev pub after_step : Answer ℕ → Memory → ℕ → List LogicBit → Ran → Ran
after_step (given n) left k bits rest = ran rest.memory (cell_text n bits ++ rest.text) rest.ending
after_step (refused n) left k bits rest = ended left (RefusedAt n (suc k))

-- the steps of a list, behind k steps that were run
unfoldable pub run_steps : Memory → ℕ → List Step → Ran
run_steps m k [] = ended m (AtEnd k)
run_steps m k (s ∷ ss) =
    let left = (add_step m s).left in
    after_step (add_step m s).answer left k (step_result m.state s).vector.bits (run_steps left (suc k) ss)

-- ---- a whole list

-- the steps are run behind the inputs, if none is refused; an input takes no scratch
abbrev pub after_inputs : Answer Unit → Memory → List Step → Ran
after_inputs (given u) m ss = run_steps m 0 ss
after_inputs (refused n) m ss = refused_first m n

abbrev pub run_list : Memory → StepList → Ran
run_list m l =
    let o = add_inputs m.state l.inputs in
    after_inputs o.answer (memory o.left m.scratch) l.steps

-- the file is read whole before any input or step
abbrev pub run_whole : Memory → Answer StepList → Ran
run_whole m (given l) = run_list m l
run_whole m (refused n) = refused_first m n

-- the store starts empty
abbrev pub emptied : (arenas scratch : Planes) → Memory
emptied arenas scratch = memory (state empty_store arenas) scratch

abbrev pub run_text : (arenas scratch : Planes) → List ℕ → Ran
run_text arenas scratch t = run_whole (emptied arenas scratch) (whole t)

-- ---- `run`

-- the ending in the paper's numbers
abbrev pub ending_of : Result ℕ Stop → Ending
ending_of (Ok k) = AtEnd k
ending_of (Err s) = RefusedAt (refusal_number s.refusal) s.step

-- all that `run` leaves: the memory, its text at the front of the buffer, whose further bytes stay, and how it ended
pub record Final : Type 0 where
  pub memory : Memory
  pub out : Buffer
  pub ending : Ending

abbrev pub final : Memory → Buffer → Ending → Final
final m b e = record { memory = m; out = b; ending = e }

abbrev pub final_of : Ran → Buffer → Final
final_of r b = final r.memory (put b r.text) r.ending

-- by what is lent, after a pass over steps and after a run
abbrev pub pass_by : Pass → (av au sv su out : List ℕ) → Final
pass_by r av au sv su out = final (memory_by (store_of r.count r.fields) av au sv su) (buffer out r.length) (ending_of r.ending)

abbrev pub final_by : RunAnswer → (av au sv su out : List ℕ) → Final
final_by r av au sv su out = final (memory_by r.store av au sv su) (buffer out r.length) (ending_of r.ending)
