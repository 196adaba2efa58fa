-- `steps::run`: a list that was read from a text has at most 256 steps.
use native.Mathlib.Omega.{arith}
use borrow.Author.Rules.{rules}
use Rattle.steplist.proofs.Listed.{listed-counts}
use Rattle.steps.proofs.run.Goals as goal

pub run_steps-p-requires-clause-step_count_bound : goal.run_steps-p-requires-clause-step_count_bound
run_steps-p-requires-clause-step_count_bound c =
    let e = rw c.in-Ok.is at c.load_list-l.ensures.text_value in
    (omega (arith, (listed-counts c.args.text.now c.in-Ok.list e).1), search rules)
