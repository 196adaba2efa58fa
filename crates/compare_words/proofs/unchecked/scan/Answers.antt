-- `compare_words::unchecked::scan`: the places over the two extents are those of the definition.
use mathlib.Core.Path.{◌≡◌, ap, ◌∙◌}
use Prim.Native.Nat.{ℕ, ◌≤◌}
use native.Mathlib.Omega.{arith}
use Rattle.bit.specs.declared.LogicBit.{LogicBit}
use Rattle.words.specs.Planes.{word_count, lent}
use Rattle.extension.proofs.Extension.{extent-narrow, settled}
use Rattle.compare_words.specs.Compared.{found}
use Rattle.compare_words.proofs.unchecked.scan.Goals as goal

pub scan_extents-requires : goal.scan_extents-requires
scan_extents-requires c =
    let a = c.args in
    let p = c.requires in
    let hx = extent-narrow a.a a.b (lent a.av.now a.au.now) c.extent-x.ensures in
    let hy = extent-narrow a.b a.a (lent a.bv.now a.bu.now) c.extent-y.ensures in
    let long : (l w n : ℕ) → n ≤ w → l ≡ word_count w → word_count n ≤ l = λ l w n h e. omega (arith, h, e) in record { covers = ((long _ _ _ hx p.plane.0.count, long _ _ _ hx p.plane.1.count), (long _ _ _ hy p.plane_2.0.count, long _ _ _ hy p.plane_2.1.count)); width_le_width = (omega (arith, hx, c.larger-width.ensures), omega (arith, hy, c.larger-width.ensures)) }

pub returns : goal.returns
returns c =
    let a = c.args in
    c.scan_extents.ensures
    ∙ ap (found a.op)
    (settled {A = LogicBit × LogicBit} (λ p q. (p, q)) a.a a.b a.av.now a.au.now a.bv.now a.bu.now
    c.extent-x.ensures c.extent-y.ensures _ c.larger-width.ensures)
