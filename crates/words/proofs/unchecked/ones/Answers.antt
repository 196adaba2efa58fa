-- `words::unchecked::ones`: all ones, shifted right by what is missing.
use mathlib.Core.Path.{◌≡◌, sym, ap, ◌∙◌}
use Prim.Native.Nat.{ℕ, ◌+◌, ◌-◌, ◌/◌, ◌^◌}
use native.Mathlib.Omega.{arith}
use Rattle.words.proofs.Digits.{ones_shr}
use Rattle.words.proofs.unchecked.ones.Goals as goal

pub returns-then-n-eq0 : goal.returns-then-n-eq0
returns-then-n-eq0 c = rw c.if-n-eq0.true

pub returns-else-n-eq0 : goal.returns-else-n-eq0
returns-else-n-eq0 c =
    let n = c.args.n in
    let e : n + (64 - n) ≡ 64 = omega arith in
    ap (λ (k : ℕ). (2 ^ k - 1) / 2 ^ (64 - n)) (sym e) ∙ ones_shr n (64 - n)
