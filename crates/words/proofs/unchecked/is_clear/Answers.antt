-- `words::unchecked::is_clear`: the last word tells.
use native.Mathlib.Omega.{arith}
use Rattle.words.proofs.Top.{top-clear}
use Rattle.words.proofs.unchecked.is_clear.Goals as goal

pub returns : goal.returns
returns c =
    let a = c.args in
    rw c.ones-m.ensures
    (top-clear a.width a.plane.now _ c.requires (λ k. (c.shared_slice_known-2-1.given k).fits) (omega (arith, c.requires)))
