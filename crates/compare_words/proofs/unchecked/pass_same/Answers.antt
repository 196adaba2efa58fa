-- `compare_words::unchecked::pass_same`: one word more, and it has no mark while `marks` is 0.
use mathlib.Core.Path.{◌≡◌, ap, ◌∙◌}
use mathlib.Core.Logic.{⊎_elim}
use Prim.Native.Nat.{ℕ, ◌+◌, ◌*◌}
use native.Mathlib.Omega.{arith}
use Rattle.words.proofs.Digits.{lt-or-ge}
use Rattle.compare_words.specs.Compared.{unlike}
use Rattle.compare_words.proofs.Words.{or-none}
use Rattle.compare_words.proofs.unchecked.pass_same.Goals as goal

pub loop-j-preserved : goal.loop-j-preserved
loop-j-preserved c =
    let a = c.args in
    let p : ℕ = c.loop-block.block * 8 + c.loop-j.j in
    λ z i h. let q = or-none c.loop-j.marks (unlike a.av.now a.au.now a.bv.now a.bu.now p) z in
    ⊎_elim
    (λ t. c.loop-j.invariant q.0 i t)
    (λ t. let e : i ≡ p = omega (arith, h, t) in ap (unlike a.av.now a.au.now a.bv.now a.bu.now) e ∙ q.1)
    (lt-or-ge i p)
