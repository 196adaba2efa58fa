-- The invariant: the first k words are those of the bits, and `left` characters are not yet read.
use Rattle.std.proofs.Common.{◌≡◌, ℕ, ◌+◌, ◌-◌, ◌*◌, min, cond, List, length, refl, ap, ◌∙◌, arith}
use Rattle.words.specs.declared.Word.{Word}
use Rattle.words.specs.Vector.{tabulate}
use Rattle.replay.specs.Fields.{bits_of, loaded}
use Rattle.replay.proofs.Words.{more, plane-word}
use Rattle.replay.proofs.parse.load.Goals as goal

pub loop-k-init : goal.loop-k-init
unfolding tabulate
loop-k-init c = (omega arith, refl)

pub loop-k-preserved : goal.loop-k-preserved
loop-k-preserved c =
    let a = c.args in
    let t : List ℕ = a.bits.now in
    let k : ℕ = c.loop-k.k in
    let n : ℕ = c.min-m.result in
    let left : ℕ = c.loop-k.left - n in
    let e : n ≡ min 64 (length t - k * 64) = omega (arith, c.min-m.ensures, c.loop-k.invariant.0) in
    let f : left + n ≡ length t - k * 64 = omega arith in
    let w = c.word_of.ensures ∙ ap (λ (y : Word). cond a.is_unknown y.unknown y.value) c.read_word-w.ensures
    ∙ plane-word t k n left e f a.is_unknown
    in (
      omega arith,
      more _ k a.plane.now c.loop-k.plane c.word_of.result (omega arith) c.loop-k.invariant.1 w,
    )

pub returns : goal.returns
returns c =
    let a = c.args in
    let e : c.loop-k.k ≡ a.n = omega arith in
    c.loop-k.invariant.1 ∙ ap (λ (m : ℕ). loaded a.is_unknown (bits_of a.bits.now) m a.plane.now) e
