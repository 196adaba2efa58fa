-- `steplist::op_line`: the line is one of those of the ops, and its number gives the op.
use mathlib.Core.Path.{refl, sym, ap, ◌∙◌}
use lib.ListN.{drop}
use Rattle.text.specs.Read.Got.{found}
use Rattle.ops.specs.declared.Op.{Op}
use Rattle.ops.specs.declared.Op.TheVariants.{And}
use Rattle.ops.specs.Names.{all_ops}
use Rattle.steplist.specs.OpLine.{op_text, op_key, op_line}
use Rattle.steplist.proofs.Names.{choice-none, choice-found, choice-within}
use Rattle.steplist.proofs.op_line.Goals as goal

pub returns-in_err-line : goal.returns-in_err-line
unfolding op_line
returns-in_err-line c =
    let a = c.args in
    rw (c.from_residual.ensures, choice-none op_key op_text all_ops And refl a.s.now a.at c.in_err-line.ensures)

pub op_at-requires : goal.op_at-requires
op_at-requires c =
    let a = c.args in
    (choice-within op_key op_text all_ops And refl a.s.now a.at c.in_ok-line.line c.in_ok-line.ensures).0

pub returns : goal.returns
unfolding op_line
returns c =
    let a = c.args in
    let l = c.in_ok-line.line in
    ap (λ (o : Op). found o (drop l.next a.s.now)) c.op_at.ensures
    ∙ sym (choice-found op_key op_text all_ops And refl a.s.now a.at l c.in_ok-line.ensures)
