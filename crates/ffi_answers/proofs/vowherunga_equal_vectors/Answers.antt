-- The answer is coded, and a comparison of two vectors is their equality.
use mathlib.Core.Path.{ap, ◌∙◌}
use Rattle.words.specs.Planes.{lent}
use Rattle.compare.proofs.Reals.{vectors}
use Rattle.abi.specs.Coded.{coded_bit}
use Rattle.ffi_answers.proofs.vowherunga_equal_vectors.Goals as goal

pub returns : goal.returns
returns c =
    let a = c.args in
    c.from.ensures
    ∙ ap coded_bit (c.compare_vectors.ensures ∙ vectors a.a a.b (lent a.av.now a.au.now) (lent a.bv.now a.bu.now))
