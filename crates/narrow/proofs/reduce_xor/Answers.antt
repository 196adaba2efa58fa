-- `narrow::reduce_xor`: an unknown bit, else the parity of the value word.
use mathlib.Core.Bool.{true, false}
use borrow.Author.Tests.{eq-eqb, ne_eqb}
use Rattle.narrow.proofs.Answered.{parity-unknown, parity-known}
use borrow.Author.Rules.{rules}
use Rattle.narrow.proofs.reduce_xor.Goals as goal

pub returns-then-a-ne0 : goal.returns-then-a-ne0
returns-then-a-ne0 c = parity-unknown c.args.a (search rules) (search rules) c.if-a-ne0.true

pub returns-then-a-eq0 : goal.returns-then-a-eq0
returns-then-a-eq0 c =
    parity-known c.args.a (search rules) (search rules) c.if-a-ne0.false true (eq-eqb _ _ c.if-a-eq0.true)

pub returns : goal.returns
returns c =
    parity-known c.args.a (search rules) (search rules) c.if-a-ne0.false false (ne_eqb _ _ c.if-a-eq0.false)
