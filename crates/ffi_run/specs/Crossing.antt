-- What a run (document 01, "Step list") leaves as it crosses to C: four numbers, the fields of the store ("Cell store"), the lent planes and the
-- buffer.
use Rattle.std.specs.Prelude.{Bool, cond, ℕ, List, eqb}
use Rattle.words.specs.Planes.{Planes}
use Rattle.machine.specs.Machine.{Ending, AtEnd, RefusedAt}
use Rattle.store.specs.declared.Store.{Store}
use Rattle.steps.specs.Run.{Final}
use Rattle.cells.specs.declared.Fields.{Fields}
use Rattle.cells.specs.Places.{fields_of}
use Rattle.store_abi.specs.Settled.{settled, Crossed, crossed}
use Rattle.ffi_run.specs.declared.RunResult.{RunResult}

-- 0 where every step was run, or the refusal's number
abbrev pub end_number : Ending → ℕ
end_number (AtEnd k) = 0
end_number (RefusedAt n step) = n

-- how many steps were run, or the step that was refused
abbrev pub end_step : Ending → ℕ
end_step (AtEnd k) = k
end_step (RefusedAt n step) = step

-- the list is refused before its first input: by 6 ("Numbers for what is not done"), which no input and no step is refused by
abbrev pub refused_whole : Ending → Bool
refused_whole e = eqb (end_number e) 6

-- the fields of the store that a run leaves; a list that is refused whole leaves them as they were
abbrev pub saved_fields : Ending → Store → Fields → Fields
saved_fields e s f = cond (refused_whole e) f (fields_of s.cells)

-- the cells of the store, the bytes written and how the run ended
abbrev pub run_result : Store → ℕ → Ending → RunResult
run_result s n e = record { count = s.count; length = n; refusal = end_number e; step = end_step e }

-- what a run does to the fields f; arenas, scratch, then the buffer
abbrev pub crossed_run : Fields → Final → Crossed RunResult (Planes × Planes × List ℕ)
crossed_run f w =
    let s = w.memory.state.store in
    crossed
    (settled (run_result s w.out.place w.ending) (saved_fields w.ending s f))
    (w.memory.state.arenas, w.memory.scratch, w.out.bytes)
