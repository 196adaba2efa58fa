-- `literal_read::read_literal`: what is written is as wide as the planes lent.
use mathlib.Core.Path.{sym}
use Rattle.words.specs.Planes.{lent}
use Rattle.value.specs.Checks.{check_output}
use Rattle.value.proofs.Checks.{exactly-accepted}
use Rattle.literal_read.proofs.read_literal.Goals as goal

pub fill_planes-requires-clause-width_nonzero : goal.fill_planes-requires-clause-width_nonzero
unfolding check_output
fill_planes-requires-clause-width_nonzero c =
    let p = rw c.in_ok-literal.ensures.ok_part at c.parts.ensures.s_value in
    let l = exactly-accepted _ (lent c.args.ov.now c.args.ou.now) 5 (sym c.in_ok-check_output.ensures) in
    (p.0, cc, cc)
