-- `compare_words::unchecked::marks_at`: the marks of the two words read.
use mathlib.Core.Path.{ap, ap₂, ◌∙◌}
use Prim.Native.Nat.{ℕ, ◌-◌, ◌^◌}
use native.Mathlib.Omega.{arith}
use lib.Bits.{bit_and}
use Rattle.words.specs.declared.Word.{Word}
use Rattle.compare_words.specs.declared.unchecked.Marks.{Marks}
use Rattle.compare_words.specs.Compared.{marks_of, cut_marks}
use Rattle.compare_words.proofs.Words.{marks_by, whole-marks}
use Rattle.compare_words.proofs.unchecked.marks_at.Goals as goal

pub returns-then-k-n : goal.returns-then-k-n
returns-then-k-n c =
    let a = c.args in
    let p = c.requires.n_bound in
    let l = c.if-k-n.true in
    whole-marks a.op a.width a.a a.b a.av.now a.au.now a.bv.now a.bu.now a.k
    (omega (arith, l, p.0)) (omega (arith, l, p.1.0)) (omega (arith, l, p.1.1)) _ c.lane_marks.ensures

pub returns-else-k-n : goal.returns-else-k-n
unfolding cut_marks
returns-else-k-n c =
    let a = c.args in
    ap₂ (λ (r : Marks) (m : ℕ). marks_by (bit_and r.apart m) (bit_and r.doubt m))
    (c.lane_marks-r.ensures ∙ ap₂ (λ (x y : Word). marks_of a.op x y) c.operand_word-x.ensures c.operand_word-y.ensures)
    (c.ones-m.ensures ∙ ap (λ (n : ℕ). 2 ^ n - 1) c.kept.ensures)
