-- The invariant: the digits that are left.
use Rattle.std.proofs.Common.{◌≡◌, ℕ, ◌+◌, ◌*◌, ◌%◌, ◌^◌, List, get_or, drop, sym, ap, ◌∙◌, arith}
use Rattle.replay.specs.Text.{digits_from}
use Rattle.replay.proofs.Texts.{digit, no-digit}
use Rattle.replay.proofs.parse.decimal.Goals as goal

pub loop-c-preserved : goal.loop-c-preserved
loop-c-preserved c =
    let s : List ℕ = c.args.s.now in
    let n : ℕ = c.loop-c.n in
    let i : ℕ = c.loop-c.c-index in
    let d : ℕ = get_or s i 0 % 16 in
    let e : (n * 10 % 2 ^ 64 + c.from.result) % 2 ^ 64 ≡ (n * 10 + d) % 2 ^ 64 = omega (arith, c.from.ensures) in
    c.loop-c.invariant ∙ digit n s i (omega arith) ∙ ap (λ (m : ℕ). digits_from m (drop (i + 1) s)) (sym e)

pub returns : goal.returns
returns c = sym (c.loop-c.invariant ∙ no-digit c.loop-c.n c.args.s.now c.loop-c.c-index (omega arith))
