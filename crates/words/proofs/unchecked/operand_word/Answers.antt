-- `words::unchecked::operand_word`: each plane by its digit.
use mathlib.Core.Path.{ap, ap₂, ◌∙◌}
use Rattle.words.specs.declared.Word.{Word}
use Rattle.words.specs.Planes.{value_digit, unknown_digit, word_by}
use Rattle.words.proofs.Planes.{value-digit-lt, unknown-digit-lt}
use Rattle.words.proofs.Extend.{operand, value-is, unknown-is}
use Rattle.words.proofs.unchecked.operand_word.Goals as goal

pub returns : goal.returns
returns c =
    let a = c.args in
    let f = c.filled-fill in
    let w = a.width in
    let v = a.value.now in
    let u = a.unknown.now in
    ap₂ word_by
    (c.extended_word-v.ensures ∙ operand value_digit w v u v (value-is v u) value-digit-lt a.k _ a.beyond (ap (λ (x : Word). x.value) f.ensures))
    (c.extended_word-u.ensures ∙ operand unknown_digit w v u u (unknown-is v u) unknown-digit-lt a.k _ a.beyond (ap (λ (x : Word). x.unknown) f.ensures))
