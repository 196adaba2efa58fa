-- `bits::unchecked::get`: the two digits at the place.
use mathlib.Core.Path.{sym, ap₂, ◌∙◌}
use native.Mathlib.Omega.{arith}
use Rattle.bit.specs.declared.LogicBit.TheVariants.{Zero}
use Rattle.words.specs.Planes.{stored, plane_bit}
use Rattle.words.proofs.Planes.{get_d-tabulate-out, at-planes, stored_one, stored-x, stored-z}
use Rattle.bits.proofs.unchecked.get.Goals as goal

pub returns-then-w-i : goal.returns-then-w-i
returns-then-w-i c =
    let a = c.args in
    sym (get_d-tabulate-out a.width (λ i. stored (plane_bit a.value.now i) (plane_bit a.unknown.now i)) a.i Zero (omega arith))

pub returns-then-v-eq0 : goal.returns-then-v-eq0
returns-then-v-eq0 c =
    let a = c.args in
    sym (at-planes a.width a.value.now a.unknown.now a.i (omega arith) ∙ ap₂ stored c.if-v-eq0.true c.if-u-eq0.true)

pub returns-else-v-eq0 : goal.returns-else-v-eq0
returns-else-v-eq0 c =
    let a = c.args in
    sym (at-planes a.width a.value.now a.unknown.now a.i (omega arith) ∙ stored_one _ _ c.if-v-eq0.false c.if-u-eq0.true)

pub returns-then-v-eq0-2 : goal.returns-then-v-eq0-2
returns-then-v-eq0-2 c =
    let a = c.args in
    sym (at-planes a.width a.value.now a.unknown.now a.i (omega arith) ∙ stored-x _ _ c.if-v-eq0-2.true c.if-u-eq0.false)

pub returns-else-v-eq0-2 : goal.returns-else-v-eq0-2
returns-else-v-eq0-2 c =
    let a = c.args in
    sym (at-planes a.width a.value.now a.unknown.now a.i (omega arith) ∙ stored-z _ _ c.if-v-eq0-2.false c.if-u-eq0.false)
