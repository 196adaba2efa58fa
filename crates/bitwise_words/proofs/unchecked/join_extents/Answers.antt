-- `bitwise_words::unchecked::join_extents`: whole words straight from the planes; behind them the words below k are those of the result.
use mathlib.Core.Path.{sym, ap, ap₂, ◌∙◌}
use Prim.Native.Nat.{ℕ, ◌-◌, ◌/◌, ◌^◌}
use native.Mathlib.Omega.{arith}
use lib.Bits.{bit_and}
use lib.ListN.{get_or}
use Rattle.bit.specs.declared.LogicBit.{LogicBit}
use Rattle.words.specs.declared.Word.{Word}
use Rattle.words.specs.Planes.{from_planes, word_by}
use Rattle.words.proofs.Fill.{more}
use Rattle.lanes.specs.Lanes.{op_bit}
use Rattle.lanes.proofs.Places.{cut_word, rest-word}
use Rattle.bitwise_words.proofs.Operands.{all-written, value_written, unknown-written}
use Rattle.bitwise_words.proofs.unchecked.join_extents.Goals as goal

pub loop-k-init : goal.loop-k-init
loop-k-init c =
    let a = c.args in
    let n = ap (λ (k : ℕ). k / 64) c.least-whole.ensures in
    let h = c.join_whole.ensures in (
      value_written a.op a.width a.x a.av.now a.au.now a.y a.bv.now a.bu.now c.requires.width_le_width.0 _ _ _ _ (h.filled_to.long ∙ c.requires.ov_len.0) n h.filled_to,
      unknown-written a.op a.width a.x a.av.now a.au.now a.y a.bv.now a.bu.now c.requires.width_le_width.0 _ _ _ _ (h.filled_to_2.long ∙ c.requires.ov_len.1) n h.filled_to_2,
    )

pub loop-k-preserved : goal.loop-k-preserved
unfolding cut_word
loop-k-preserved c =
    let a = c.args in
    let f : ℕ → LogicBit = λ i. get_or (from_planes a.x.width a.av.now a.au.now) i a.x.beyond in
    let g : ℕ → LogicBit = λ i. get_or (from_planes a.y.width a.bv.now a.bu.now) i a.y.beyond in
    let e =
    ap₂ (λ (z : Word) (m : ℕ). word_by (bit_and z.value m) (bit_and z.unknown m)) c.lanes-r.ensures (c.ones-m.ensures ∙ ap (λ (i : ℕ). 2 ^ i - 1) c.kept.ensures)
    ∙ rest-word (op_bit a.op) f g a.width c.loop-k.k c.operand_word-p.result c.operand_word-q.result c.operand_word-p.ensures c.operand_word-q.ensures in (
      more c.loop-k.invariant.0 (omega (arith, c.loop-k.invariant.0.long)) (ap (λ (z : Word). z.value) e),
      more c.loop-k.invariant.1 (omega (arith, c.loop-k.invariant.0.long)) (ap (λ (z : Word). z.unknown) e),
    )

pub shape_of-ov : goal.shape_of-ov
shape_of-ov c =
    c.loop-k.invariant.0.long ∙ sym c.requires.ov_len.0

pub shape_of-ou : goal.shape_of-ou
shape_of-ou c =
    c.loop-k.invariant.1.long ∙ sym c.requires.ov_len.1

pub returns : goal.returns
returns c =
    let a = c.args in
    let h = c.loop-k.invariant in
    all-written a.op a.width a.x a.av.now a.au.now a.y a.bv.now a.bu.now _ _ _ h.0 h.1 (omega (arith, h.0.long))
