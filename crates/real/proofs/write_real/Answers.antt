-- `real::write_real`: the words below k are those of the vector, and `zeros` says whether those of the size are all 0.
use Rattle.std.proofs.Common.{ℕ, ◌-◌, ◌*◌, ◌^◌, Bool, ◌&&◌, eqb, sym, refl, ap, ◌∙◌, ap₂, arith}
use lib.Bits.{bit_and}
use Rattle.words.specs.Planes.{value_digit, unknown_digit, word_count, lent}
use Rattle.words.proofs.Fill.{start, more, plane-done}
use Rattle.real.specs.Round.{real_vector}
use Rattle.real.proofs.Wrap.{zeros-none, zeros-next, signed_word, value-word, unknown-word, real-length}
use Rattle.real.proofs.write_real.Goals as goal

pub loop-k-init : goal.loop-k-init
loop-k-init c =
    let r = c.rounded_real-r.result in
    (zeros-none (r.digits * 2 ^ r.shift), start refl, start refl)

pub size_word-word-requires : goal.size_word-word-requires
size_word-word-requires c = omega arith

pub loop-k-preserved : goal.loop-k-preserved
loop-k-preserved c =
    let r = c.rounded_real-r in
    let a = c.args in
    let k = c.loop-k.k in
    let m = r.result.digits * 2 ^ r.result.shift in
    let w = c.size_word-word.ensures in (
      ap₂ (λ (b : Bool) (y : ℕ). b && eqb y 0) c.loop-k.invariant.0 w ∙ zeros-next m k,
      more c.loop-k.invariant.1 (omega arith)
          (ap₂ bit_and (c.signed_word.ensures ∙ ap (signed_word r.result.negative c.loop-k.zeros) w) (c.ones-m.ensures ∙ ap (λ (n : ℕ). 2 ^ n - 1) c.kept.ensures)
          ∙ value-word a.width a.f k r.result.negative c.loop-k.zeros m _ r.ensures c.loop-k.invariant.0 refl),
      more c.loop-k.invariant.2 (omega (arith, c.requires.0, c.requires.1)) (unknown-word a.width a.f k),
    )

pub returns : goal.returns
returns c =
    let R = real_vector c.args.width c.args.f in
    let e = ap word_count (sym (real-length c.args.width c.args.f 0)) in
    ap₂ lent (plane-done value_digit R _ _ _ c.loop-k.invariant.1 (omega arith) (c.requires.0 ∙ e))
    (plane-done unknown_digit R _ _ _ c.loop-k.invariant.2 (omega (arith, c.requires.0, c.requires.1)) (c.requires.1 ∙ e))
