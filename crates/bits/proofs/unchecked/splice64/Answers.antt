-- `bits::unchecked::splice64`: each plane by its digit; at or above the width nothing.
use Rattle.words.specs.Vector.{bit_at}
use mathlib.Core.Path.{◌≡◌, refl, sym, ap, ap₂, ◌∙◌}
use Prim.Native.Nat.{ℕ, ◌<◌, min}
use native.Mathlib.Omega.{arith}
use Rattle.words.specs.Planes.{value_digit, unknown_digit, from_planes, lent, planes_of}
use Rattle.bits.specs.Bits.{spliced_plane, splice_count}
use Rattle.words.proofs.Digits.{bit-lt}
use Rattle.words.proofs.Planes.{length-tabulate, value-digit-lt, unknown-digit-lt, value-digit-stored, unknown-digit-stored}
use Rattle.words.proofs.Extend.{value-is, unknown-is}
use Rattle.bits.proofs.Splice.{planes-again, spliced-none, spliced-plane}
use Rattle.bits.proofs.unchecked.splice64.Goals as goal

pub returns-then-w-pos : goal.returns-then-w-pos
returns-then-w-pos c =
    let a = c.args in
    let v = a.value.now in
    let u = a.unknown.now in
    planes-again a.width v u c.requires.plane c.requires.plane_2 (λ k. (c.slice_known-1.given k).fits) (λ k. (c.slice_known-2-1.given k).fits)
    ∙ ap planes_of (sym (spliced-none (from_planes a.width v u) a.pos a.n a.bits (simp length-tabulate c.if-w-pos.true)))

pub returns : goal.returns
returns c =
    let a = c.args in
    let v = a.value.now in
    let u = a.unknown.now in
    let x = a.bits in
    let h = c.requires.plane in
    let g = c.requires.plane_2 in
    let below : a.pos < a.width = omega arith in
    let n : c.least-count.result ≡ splice_count a.width a.pos a.n = c.least-count.ensures ∙ ap (min a.n) c.least-room.ensures in
    ap₂ lent
    (c.splice_plane.ensures ∙ ap (λ (m : ℕ). spliced_plane v a.pos m x.value) n
    ∙ spliced-plane a.width v u h g value_digit value-digit-lt refl v h (value-is v u) a.pos a.n x x.value
    (λ j. sym (value-digit-stored (bit_at x.value j) (bit_at x.unknown j) (bit-lt x.value j))) below)
    (c.splice_plane-2.ensures ∙ ap (λ (m : ℕ). spliced_plane u a.pos m x.unknown) n
    ∙ spliced-plane a.width v u h g unknown_digit unknown-digit-lt refl u g (unknown-is v u) a.pos a.n x x.unknown
    (λ j. sym (unknown-digit-stored (bit_at x.value j) (bit_at x.unknown j) (bit-lt x.unknown j))) below)
