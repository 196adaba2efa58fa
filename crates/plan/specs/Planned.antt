-- Document 01, "Cell store", "Step list" and "Numbers for what is not done": the numbers of the cells that a step names, and where its own cell goes.
use Rattle.std.specs.Prelude.{cond, List, ltb}
use Rattle.value.specs.declared.Header.{Header}
use Rattle.ops.specs.declared.Step.{Step}
use Rattle.ops.specs.Ops.{operands}
use Rattle.machine.specs.Machine.{words_taken, step_header}
use Rattle.plan.specs.declared.PlannedStep.{PlannedStep}

-- an operand that the op does not use is ignored: the number of a stands for it
abbrev pub named : Step → Step
named s = record {
  op = s.op;
  a = s.a;
  b = cond (ltb (operands s.op) 2) s.a s.b;
  c = cond (ltb (operands s.op) 3) s.a s.c;
}

-- a step behind cells of the headers hs: its cell begins behind their words
abbrev pub planned : List Header → Step → PlannedStep
planned hs s = record {
  op = s.op;
  a = (named s).a;
  b = (named s).b;
  c = (named s).c;
  pos = s.c;
  start = words_taken hs;
  header = step_header hs s;
}
