-- `text::unchecked::fill_planes`: the words below k are those of the vector, and `left` characters are not yet read.
use mathlib.Core.Path.{◌≡◌, refl, sym, ap, ap₂, ◌∙◌}
use mathlib.Core.List.{List}
use Prim.Native.Nat.{ℕ, ◌+◌, ◌-◌, ◌*◌, min}
use native.Mathlib.Omega.{arith}
use Rattle.words.specs.declared.Word.{Word}
use Rattle.words.specs.Planes.{value_digit, unknown_digit, word_count, lent}
use Rattle.words.proofs.Fill.{start, more, plane-done}
use Rattle.text.specs.Answers.{bits_in}
use Rattle.text.proofs.Characters.{length-in, word-at}
use Rattle.text.proofs.unchecked.fill_planes.Goals as goal

pub loop-k-init : goal.loop-k-init
loop-k-init c = (omega arith, start refl, start refl)

pub overflow_sub-left : goal.overflow_sub-left
overflow_sub-left c = omega arith

pub overflow_add-place : goal.overflow_add-place
overflow_add-place c = omega arith

pub read_word-x-requires : goal.read_word-x-requires
read_word-x-requires c = (omega arith, omega arith)

pub loop-k-preserved : goal.loop-k-preserved
loop-k-preserved c =
    let a = c.args in
    let s : List ℕ = a.s.now in
    let k : ℕ = c.loop-k.k in
    let left : ℕ = c.loop-k.left in
    let n : ℕ = c.min-n.result in
    let e : n ≡ min 64 (a.width - k * 64) = omega (arith, c.min-n.ensures, c.loop-k.invariant.0) in
    let f : left - n + n ≡ a.width - k * 64 = omega arith in
    let x = c.read_word-x.ensures in (
      omega arith,
      more c.loop-k.invariant.1 (omega arith) (ap (λ (y : Word). y.value) x ∙ word-at value_digit s a.place a.width k n (left - n) c.requires.width_in_bounds e f),
      more c.loop-k.invariant.2 (omega (arith, c.requires.value_len.0, c.requires.value_len.1))
          (ap (λ (y : Word). y.unknown) x ∙ word-at unknown_digit s a.place a.width k n (left - n) c.requires.width_in_bounds e f),
    )

pub returns : goal.returns
returns c =
    let a = c.args in
    let R = bits_in a.s.now a.place a.width in
    let e = ap word_count (sym (length-in a.s.now a.place a.width c.requires.width_in_bounds)) in
    ap₂ lent (plane-done value_digit R _ _ _ c.loop-k.invariant.1 (omega arith) (c.requires.value_len.0 ∙ e))
    (plane-done unknown_digit R _ _ _ c.loop-k.invariant.2 (omega (arith, c.requires.value_len.0, c.requires.value_len.1)) (c.requires.value_len.1 ∙ e))
