-- `words::unchecked::blend`: digit by digit.
use Rattle.words.proofs.Extend.{blend}
use Rattle.words.proofs.unchecked.blend.Goals as goal

pub returns : goal.returns
returns c =
    let a = c.args in
    let h = c.ranges in
    blend a.old a.mask a.new h.old.fits h.mask.fits h.new.fits
