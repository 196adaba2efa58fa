-- `lines::unchecked::put_bits`: the k highest bits are written.
use mathlib.Core.Path.{◌≡◌, refl, ap, ◌∙◌}
use Prim.Native.Nat.{ℕ, suc, ◌+◌, ◌-◌}
use native.Mathlib.Omega.{arith}
use lib.ListN.{length}
use Rattle.words.specs.Planes.{from_planes}
use Rattle.text.specs.Write.{bit_byte}
use Rattle.lines.specs.Buffer.{buffer}
use Rattle.lines.proofs.Put.{same, length-planes, with_bits, bits_none, bits-more}
use Rattle.lines.proofs.unchecked.put_bits.Goals as goal

pub loop-k-init : goal.loop-k-init
loop-k-init c =
    let a = c.args in
    let bs = from_planes a.width a.value.now a.unknown.now in
    let e : length bs ≡ a.width = length-planes a.width a.value.now a.unknown.now in
    same refl (omega arith) ∙ bits_none a.out.now a.at bs a.width (omega arith)

pub loop-k-preserved : goal.loop-k-preserved
loop-k-preserved c =
    let a = c.args in
    let l = c.loop-k in
    let bs = from_planes a.width a.value.now a.unknown.now in
    let n : length bs ≡ a.width = length-planes a.width a.value.now a.unknown.now in
    let k : ℕ = l.k - 1 in
    let e : l.k ≡ suc k = omega arith in
    let j : a.at + (a.width - 1 - k) ≡ a.at + (a.width - l.k) = omega arith in
    let p : buffer l.out (a.at + (a.width - l.k)) ≡ with_bits a.out.now a.at bs (suc k) = l.invariant ∙ ap (with_bits a.out.now a.at bs) e in
    rw (j, c.bit_byte.ensures ∙ ap bit_byte c.get-bit.ensures)
    (same refl (omega arith) ∙ bits-more a.out.now a.at bs l.out (a.at + (a.width - l.k)) k (omega arith) (omega (arith, c.requires.width_in_bounds)) l.auto.out p)
