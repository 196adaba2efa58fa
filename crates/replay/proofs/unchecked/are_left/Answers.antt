-- By the field that tells it, and the first comparison.
use Rattle.std.proofs.Common.{sym, ◌∙◌}
use Rattle.words.specs.Planes.{lent}
use Rattle.replay.proofs.Readings.{compared}
use Rattle.replay.proofs.unchecked.are_left.Goals as goal

pub returns-then-same_words : goal.returns-then-same_words
returns-then-same_words c =
    let a = c.args in
    let q = compared a.out a.line.now (lent a.value.now a.unknown.now) _ _ _ _ c.left_at-k.ensures c.field.ensures.unknown_value in
    sym (q ∙ rw (sym c.same_words.ensures ∙ c.if-same_words.true) (sym c.same_words-then-same_words.ensures))

pub returns-else-same_words : goal.returns-else-same_words
returns-else-same_words c =
    let a = c.args in
    let q = compared a.out a.line.now (lent a.value.now a.unknown.now) _ _ _ _ c.left_at-k.ensures c.field.ensures.unknown_value in
    sym (q ∙ rw (sym c.same_words.ensures ∙ c.if-same_words.false) (sym c.if-same_words.false))
