-- By the first byte.
use Rattle.std.proofs.Common.{◌≡◌, length, sym, ap, ◌∙◌}
use Rattle.replay.specs.Text.{bare_of}
use Rattle.replay.proofs.Texts.{bare_empty, bare_marked, bare_other}
use Rattle.replay.proofs.parse.bare.Goals as goal

pub returns-in-Some : goal.returns-in-Some
returns-in-Some c =
    let f = c.in-Some.ensures.cases in
    sym (ap bare_of f.0 ∙ bare_marked c.in-Some.mark.now c.in-Some.rest.now (sym c.if-has.ensures))

pub returns-in_default : goal.returns-in_default
returns-in_default c =
    let f = c.in-Some.ensures.cases in
    f.0 ∙ sym (ap bare_of f.0 ∙ bare_other c.in-Some.mark.now c.in-Some.rest.now (sym c.if-has.ensures))

pub returns-in_default-2 : goal.returns-in_default-2
returns-in_default-2 c =
    let e : length c.args.s.now ≡ 0 = rw c.in_default.is at c.split_first.ensures.cases in
    sym (bare_empty c.args.s.now e)
