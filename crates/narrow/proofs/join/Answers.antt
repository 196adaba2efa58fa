-- `narrow::join`: the lanes of two vectors of 64 bits.
use mathlib.Core.Path.{refl, ap, ◌∙◌}
use Rattle.value.specs.Checks.{plain}
use Rattle.narrow.specs.Narrow.{single}
use Rattle.narrow.proofs.Operators.{joined-word}
use Rattle.narrow.proofs.Operands.{plain-narrow}
use Rattle.narrow.proofs.join.Goals as goal

pub returns : goal.returns
returns c =
    let a = c.args in
    ap single c.lanes.ensures ∙ joined-word a.op (plain 64) (plain 64) a.a a.b (plain-narrow a.a) (plain-narrow a.b) (λ _. refl)
