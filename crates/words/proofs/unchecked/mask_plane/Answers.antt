-- `words::unchecked::mask_plane`: masking the last word masks the plane.
use native.Mathlib.Omega.{arith}
use Rattle.words.proofs.Top.{top-masked}
use Rattle.words.proofs.unchecked.mask_plane.Goals as goal

pub returns : goal.returns
returns c =
    let a = c.args in
    rw c.ones-m.ensures
    (top-masked a.plane.now a.width (λ k. (c.slice_known-2-1.given k).fits) _ c.requires c.if-width-eq0.false (omega (arith, c.requires)))
