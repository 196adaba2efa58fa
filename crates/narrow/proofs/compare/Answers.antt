-- `narrow::compare`: the places of two vectors of 64 bits.
use mathlib.Core.Path.{refl, ◌∙◌}
use Rattle.value.specs.Checks.{plain}
use Rattle.narrow.proofs.Comparisons.{compared-word}
use Rattle.narrow.proofs.Operands.{plain-narrow}
use Rattle.narrow.proofs.compare.Goals as goal

pub returns : goal.returns
returns c =
    let a = c.args in
    c.compare_words.ensures ∙ compared-word a.op (plain 64) (plain 64) a.a a.b (plain-narrow a.a) (plain-narrow a.b) (λ _. refl)
