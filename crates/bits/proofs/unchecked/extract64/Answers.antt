-- `bits::unchecked::extract64`: each plane's word, masked.
use mathlib.Core.Path.{refl, ap₂, ◌∙◌}
use lib.Bits.{bit_and}
use Rattle.words.specs.Planes.{value_digit, unknown_digit, word_by}
use Rattle.words.proofs.Planes.{value-digit-lt, unknown-digit-lt}
use Rattle.words.proofs.Extend.{value-is, unknown-is}
use Rattle.bits.proofs.Splice.{extracted-word}
use Rattle.bits.proofs.unchecked.extract64.Goals as goal

pub returns : goal.returns
returns c =
    let a = c.args in
    let v = a.value.now in
    let u = a.unknown.now in
    let h = c.requires.plane in
    let g = c.requires.plane_2 in
    let n = c.least-count.ensures in
    ap₂ word_by
    (ap₂ bit_and c.word_from-v.ensures c.ones-m.ensures ∙ extracted-word a.width v u h g value_digit value-digit-lt refl v h (value-is v u) a.pos a.n _ n)
    (ap₂ bit_and c.word_from-u.ensures c.ones-m.ensures ∙ extracted-word a.width v u h g unknown_digit unknown-digit-lt refl u g (unknown-is v u) a.pos a.n _ n)
