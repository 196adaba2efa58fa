-- `lines::unchecked::put_bytes`: the first j bytes are written.
use mathlib.Core.Path.{◌≡◌, refl, sym, ap, ◌∙◌}
use native.Mathlib.Omega.{arith}
use lib.ListN.{length}
use lib.Seq.{take_all}
use Rattle.lines.specs.Buffer.{buffer, put}
use Rattle.lines.proofs.Put.{same, put-none, bytes-more}
use Rattle.lines.proofs.unchecked.put_bytes.Goals as goal

pub loop-j-init : goal.loop-j-init
loop-j-init c = same refl (omega arith) ∙ sym (put-none _ _)

pub loop-j-preserved : goal.loop-j-preserved
loop-j-preserved c =
    let a = c.args in
    let l = c.loop-j in
    bytes-more a.out.now l.out a.bytes.now a.at l.j (omega arith) c.requires l.auto.out l.invariant

pub returns : goal.returns
returns c =
    let a = c.args in
    let e : c.loop-j.j ≡ length a.bytes.now = omega arith in
    rw (← e) (c.loop-j.invariant ∙ ap (put (buffer a.out.now a.at)) (take_all c.loop-j.j a.bytes.now (omega arith)))
