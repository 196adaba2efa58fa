-- `reduce_words::unchecked::xor_bits`: by the laws of parity, word after word.
use mathlib.Core.Bool.{true, false}
use native.Mathlib.Omega.{arith}
use borrow.Author.Tests.{eq-eqb, ne_eqb}
use Rattle.reduce_words.proofs.Places.{lent-planes}
use Rattle.reduce_words.proofs.Parity.{begin, another, unknown-found, parity}
use Rattle.reduce_words.proofs.unchecked.xor_bits.Goals as goal

pub loop-k-init : goal.loop-k-init
loop-k-init c = begin _ _ _

pub returns-then-unknown-k-ne0 : goal.returns-then-unknown-k-ne0
returns-then-unknown-k-ne0 c =
    unknown-found _ _ _ (lent-planes c.requires.plane c.requires.plane_2 c.type_inv.value c.type_inv.unknown) _ _ c.loop-k.invariant
    c.if-unknown-k-ne0.true

pub loop-k-preserved : goal.loop-k-preserved
loop-k-preserved c =
    another _ _ _ (lent-planes c.requires.plane c.requires.plane_2 c.type_inv.value c.type_inv.unknown) _ _ c.loop-k.invariant
    c.loop-k.auto.sum-fits.fits c.if-unknown-k-ne0.false

pub returns-then-sum-eq0 : goal.returns-then-sum-eq0
returns-then-sum-eq0 c = parity _ _ _ _ _ c.loop-k.invariant (omega arith) true (eq-eqb _ _ c.if-sum-eq0.true)

pub returns-else-sum-eq0 : goal.returns-else-sum-eq0
returns-else-sum-eq0 c = parity _ _ _ _ _ c.loop-k.invariant (omega arith) false (ne_eqb _ _ c.if-sum-eq0.false)
