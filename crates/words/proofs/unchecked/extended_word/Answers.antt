-- `words::unchecked::extended_word`: the word is whole above the width, or blended.
use mathlib.Core.Path.{◌∙◌}
use Rattle.words.proofs.Extend.{extended, beyond}
use Rattle.words.proofs.unchecked.extended_word.Goals as goal

pub returns-then-n-eq0 : goal.returns-then-n-eq0
returns-then-n-eq0 c =
    let a = c.args in
    beyond a.plane.now a.width a.k a.fill _ c.ranges.fill.fits c.kept-n.ensures c.if-n-eq0.true

pub returns-else-n-eq0 : goal.returns-else-n-eq0
returns-else-n-eq0 c =
    let a = c.args in
    rw c.ones.ensures at c.blend.ensures
    ∙ extended a.plane.now a.width a.k a.fill _ c.ranges.fill.fits c.kept-n.ensures
