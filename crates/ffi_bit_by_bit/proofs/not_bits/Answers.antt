-- `not_bits`: the words below k are those of the inverted vector.
use mathlib.Core.Path.{◌≡◌, sym, ap, ap₂, ◌∙◌}
use native.Mathlib.Omega.{arith}
use lib.ListN.{length}
use Rattle.words.specs.declared.Word.{Word}
use Rattle.words.specs.Planes.{value_digit, unknown_digit, word_count, from_planes, lent}
use Rattle.words.proofs.Planes.{length-tabulate}
use Rattle.words.proofs.Fill.{more, plane-done}
use Rattle.ffi_bit_by_bit.proofs.not_bits.Invariants.{result}
use Rattle.ffi_bit_by_bit.proofs.not_bits.Goals as goal

pub loop-k-preserved : goal.loop-k-preserved
loop-k-preserved c = (
  more c.loop-k.invariant.0 (omega arith) (ap (λ (x : Word). x.value) c.not_word-x.ensures),
  more c.loop-k.invariant.1 (omega (arith, c.requires.ov_len.0, c.requires.ov_len.1)) (ap (λ (x : Word). x.unknown) c.not_word-x.ensures),
)

pub returns : goal.returns
returns c =
    let a = c.args in
    let bs = from_planes a.width a.av.now a.au.now in
    let R = result a.width a.av.now a.au.now in
    let p = c.requires.ov_len in
    let n : length R ≡ a.width = length-tabulate (length bs) _ ∙ length-tabulate a.width _ in
    let e = ap word_count (sym n) in
    ap₂ lent
    (plane-done value_digit R _ _ _ c.loop-k.invariant.0 (omega arith) (p.0 ∙ e))
    (plane-done unknown_digit R _ _ _ c.loop-k.invariant.1 (omega (arith, p.0, p.1)) (p.1 ∙ e))
