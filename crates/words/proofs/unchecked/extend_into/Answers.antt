-- `words::unchecked::extend_into`: the words below k are those of the vector.
use mathlib.Core.Path.{refl, sym, ap, ap₂, ◌∙◌}
use Prim.Native.Nat.{ℕ, ◌-◌, ◌^◌}
use native.Mathlib.Omega.{arith}
use lib.Bits.{bit_and}
use lib.ListN.{get_or}
use Rattle.bit.specs.declared.LogicBit.{LogicBit}
use Rattle.words.specs.declared.Word.{Word}
use Rattle.words.specs.Planes.{value_digit, unknown_digit, word_count, from_planes, lent}
use Rattle.words.proofs.Planes.{length-tabulate, value-digit-lt, unknown-digit-lt}
use Rattle.words.proofs.Extend.{cut-vector}
use Rattle.words.proofs.Fill.{start, more, plane-done}
use Rattle.words.proofs.unchecked.extend_into.Invariants.{vector}
use Rattle.words.proofs.unchecked.extend_into.Goals as goal

pub loop-k-init : goal.loop-k-init
loop-k-init c = (start refl, start refl)

pub loop-k-preserved : goal.loop-k-preserved
loop-k-preserved c =
    let a = c.args in
    let f : ℕ → LogicBit = λ i. get_or (from_planes a.from_width a.from_value.now a.from_unknown.now) i a.beyond in
    let m = c.ones-m.ensures ∙ ap (λ (n : ℕ). 2 ^ n - 1) c.kept-n.ensures in
    let x = c.operand_word-x.ensures in (
      more c.loop-k.invariant.0 (omega arith)
          (ap₂ bit_and (ap (λ (y : Word). y.value) x) m ∙ cut-vector value_digit value-digit-lt refl a.width c.loop-k.k _ f refl),
      more c.loop-k.invariant.1 (omega (arith, c.requires.value_len.0, c.requires.value_len.1))
          (ap₂ bit_and (ap (λ (y : Word). y.unknown) x) m ∙ cut-vector unknown_digit unknown-digit-lt refl a.width c.loop-k.k _ f refl),
    )

pub returns : goal.returns
returns c =
    let a = c.args in
    let R = vector a.width a.from_value.now a.from_unknown.now a.from_width a.beyond in
    let e = ap word_count (sym (length-tabulate a.width _)) in
    ap₂ lent (plane-done value_digit R _ _ _ c.loop-k.invariant.0 (omega arith) (c.requires.value_len.0 ∙ e))
    (plane-done unknown_digit R _ _ _ c.loop-k.invariant.1 (omega arith) (c.requires.value_len.1 ∙ e))
