-- `words::unchecked::word_from`: the rest of one word, and where there is a next one, its beginning.
use mathlib.Core.Path.{ap, ◌∙◌}
use Prim.Native.Nat.{ℕ, ◌-◌, ◌/◌, ◌%◌}
use native.Mathlib.Omega.{arith}
use lib.ListN.{get_or-eq_default}
use Rattle.words.specs.Vector.{bit_at}
use Rattle.words.proofs.Digits.{bit-of-zero}
use Rattle.words.proofs.Shift.{alone, across, past, from_place}
use Rattle.words.proofs.unchecked.word_from.Goals as goal

pub returns-then-plane-k : goal.returns-then-plane-k
returns-then-plane-k c = past c.args.plane.now c.args.pos (omega arith)

pub returns-then-j-eq0 : goal.returns-then-j-eq0
returns-then-j-eq0 c =
    let a = c.args in
    alone a.plane.now (λ q. (c.shared_slice_known-1.given q).fits) (a.pos / 64) (a.pos % 64) (omega arith) (λ i l h. absurd (omega (arith, c.if-j-eq0.true)))
    ∙ from_place a.plane.now a.pos

pub returns-then-plane-next : goal.returns-then-plane-next
returns-then-plane-next c =
    let a = c.args in
    alone a.plane.now (λ q. (c.shared_slice_known-1.given q).fits) (a.pos / 64) (a.pos % 64) (omega arith)
    (λ i l h. ap (λ (x : ℕ). bit_at x (i - (64 - a.pos % 64))) (get_or-eq_default a.plane.now 0 c.if-plane-next.true) ∙ bit-of-zero (i - (64 - a.pos % 64)))
    ∙ from_place a.plane.now a.pos

pub returns : goal.returns
returns c =
    let a = c.args in
    across a.plane.now (λ q. (c.shared_slice_known-1.given q).fits) (a.pos / 64) (a.pos % 64) (omega arith)
    ∙ from_place a.plane.now a.pos
