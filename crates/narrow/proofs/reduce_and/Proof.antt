-- `narrow::reduce_and`: a known 0, then an unknown bit, each told by one word's places below the width.
use mathlib.Core.Path.{◌≡◌, refl, ap, ◌∙◌}
use mathlib.Core.Bool.{true, false, not}
use Prim.Native.Nat.{ℕ, ◌-◌, ◌^◌, min}
use native.Mathlib.Omega.{arith}
use borrow.Author.Tests.{eq-eqb, ne_eqb}
use Rattle.narrow.proofs.Answered.{and_word}
use borrow.Author.Rules.{rules}
use Rattle.narrow.proofs.reduce_and.Statement.{statement}
use Rattle.narrow.proofs.reduce_and.Tie as tie

-- the places below the width
mask : (c : tie.After-ones-m) → c.ones-m.result ≡ 2 ^ min 64 c.args.width - 1
mask c = c.ones-m.ensures ∙ ap (λ (n : ℕ). 2 ^ n - 1) c.least-n.ensures

least-requires : tie.Need-least-n-requires
least-requires c κs = search rules

ones-requires : tie.Need-ones-m-requires
ones-requires c κs = search rules

returns : tie.Need-returns-then-v-u-ne0
returns c =
    and_word c.args.a (search rules) (search rules) _ _ (omega arith) (mask c.before) true _ (ap not (ne_eqb _ _ c.if-v-u-ne0.true)) refl

returns-2 : tie.Need-returns-then-u-m-ne0
returns-2 c =
    and_word c.args.a (search rules) (search rules) _ _ (omega arith) (mask c.before.before) false true (ap not (eq-eqb _ _ c.if-v-u-ne0.false)) (ap not (ne_eqb _ _ c.if-u-m-ne0.true))

returns-3 : tie.Need-returns
returns-3 c =
    and_word c.args.a (search rules) (search rules) _ _ (omega arith) (mask c.before.before) false false (ap not (eq-eqb _ _ c.if-v-u-ne0.false)) (ap not (eq-eqb _ _ c.if-u-m-ne0.false))

pub reduce_and_spec : {M : Type 1} → statement M
reduce_and_spec = tie.close (tie.spec least-requires ones-requires returns returns-2 returns-3)
