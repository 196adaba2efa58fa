-- `plan::unchecked::plan_step`: each test on the way decides, and the headers that are read are those of the cells that the step names.
use mathlib.Core.Path.{sym}
use native.Mathlib.Omega.{arith}
use Rattle.refusal.specs.Outcome.Answer.{given}
use Rattle.std.proofs.lemmas.Result.{err_from_is_err_and}
use Rattle.plan.proofs.Steps.{check-full, check-unfilled, check-arms, header-is, check-arena, check-scratch, check-accepted}
use Rattle.plan.proofs.unchecked.plan_step.Goals as goal
use Rattle.plan.proofs.unchecked.plan_step.Goals.{then-room-next-via-then-room-next, then-room-next-via-else-room-next+then-room-w}

pub returns-in_err-check_count : goal.returns-in_err-check_count
returns-in_err-check_count c =
    let p = err_from_is_err_and c.from_residual.result c.from_residual.ensures.1 in
    rw (p.1, p.2) (simp (check-full c.args.room c.args.widths.now c.args.signs.now c.args.fills.now c.args.count c.args.step _ (sym c.in_err-check_count.ensures)))

pub returns-then-count-a : goal.returns-then-count-a
returns-then-count-a c =
    let f = check-unfilled c.args.room c.args.widths.now c.args.signs.now c.args.fills.now c.args.count c.args.step (sym c.in_ok-check_count.ensures)
    _ c.named-t.ensures (λ x y z. omega (arith, c.then-count-a.either)) in
    simp f

pub returns-then-arms_refused : goal.returns-then-arms_refused
returns-then-arms_refused c =
    let f = check-arms c.args.room c.args.widths.now c.args.signs.now c.args.fills.now c.args.count c.args.step (sym c.in_ok-check_count.ensures)
    _ c.named-t.ensures (omega arith) (omega arith) (omega arith)
    _ _ _ c.header_at-x.ensures c.header_at-y.ensures c.header_at-z.ensures c.if-arms_refused.ensures in
    simp f

pub returns-then-room-next : goal.returns-then-room-next
returns-then-room-next c =
    let arena = check-arena c.args.room c.args.widths.now c.args.signs.now c.args.fills.now c.args.count c.args.step (sym c.in_ok-check_count.ensures)
    _ c.named-t.ensures (omega arith) (omega arith) (omega arith)
    _ _ _ c.header_at-x.ensures c.header_at-y.ensures c.header_at-z.ensures c.if-arms_refused.ensures _ c.result_header-h.ensures _ c.word_count-w.ensures in
    let scratch = check-scratch c.args.room c.args.widths.now c.args.signs.now c.args.fills.now c.args.count c.args.step (sym c.in_ok-check_count.ensures)
    _ c.named-t.ensures (omega arith) (omega arith) (omega arith)
    _ _ _ c.header_at-x.ensures c.header_at-y.ensures c.header_at-z.ensures c.if-arms_refused.ensures _ c.result_header-h.ensures _ c.word_count-w.ensures in
    elim c.then-room-next.branch [
      | then-room-next-via-then-room-next b ↦ simp (arena (omega arith))
      | then-room-next-via-else-room-next+then-room-w b ↦ simp (scratch (omega arith) (omega arith))
    ]

pub returns : goal.returns
returns c =
    let f = check-accepted c.args.room c.args.widths.now c.args.signs.now c.args.fills.now c.args.count c.args.step (sym c.in_ok-check_count.ensures)
    _ c.named-t.ensures (omega arith) (omega arith) (omega arith)
    _ _ _ c.header_at-x.ensures c.header_at-y.ensures c.header_at-z.ensures c.if-arms_refused.ensures _ c.result_header-h.ensures _ c.word_count-w.ensures
    (omega arith) (omega arith) in
    let h = header-is c.args.room c.args.widths.now c.args.signs.now c.args.fills.now c.args.count c.args.step (sym c.in_ok-check_count.ensures)
    _ c.named-t.ensures (omega arith) (omega arith) (omega arith)
    _ _ _ c.header_at-x.ensures c.header_at-y.ensures c.header_at-z.ensures c.if-arms_refused.ensures _ c.result_header-h.ensures in
    simp f
    (λ i. given (record {
      op = c.args.step.op;
      a = (c.named-t.ensures i).a;
      b = (c.named-t.ensures i).b;
      c = (c.named-t.ensures i).c;
      pos = c.args.step.c;
      start = c.requires.1 i;
      header = sym h i;
    }))
