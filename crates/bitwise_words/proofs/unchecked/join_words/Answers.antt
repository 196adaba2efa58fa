-- `bitwise_words::unchecked::join_words`: the words below k are the lanes of the operands' words.
use Rattle.lanes.proofs.Places.{fewer}
use mathlib.Core.Path.{refl, ap}
use native.Mathlib.Omega.{arith}
use Rattle.words.specs.declared.Word.{Word}
use Rattle.words.proofs.Fill.{start, more}
use Rattle.bitwise_words.proofs.unchecked.join_words.Goals as goal

pub loop-k-init : goal.loop-k-init
loop-k-init c = (start refl, start refl)

pub loop-k-preserved : goal.loop-k-preserved
loop-k-preserved c = (
  more c.loop-k.invariant.0 (omega (arith, c.requires)) (ap (λ (w : Word). w.value) c.lanes-r.ensures),
  more c.loop-k.invariant.1 (omega (arith, c.requires)) (ap (λ (w : Word). w.unknown) c.lanes-r.ensures),
)

pub returns : goal.returns
returns c =
    record { filled_to = fewer c.loop-k.invariant.0 _ (omega arith) (λ i _. refl); filled_to_2 = fewer c.loop-k.invariant.1 _ (omega arith) (λ i _. refl) }
