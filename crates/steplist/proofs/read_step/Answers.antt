-- `steplist::read_step`: the four lines one behind the other.
use mathlib.Core.Path.{◌≡◌}
use mathlib.Core.List.{List}
use Prim.Native.Nat.{ℕ}
use lib.ListN.{drop}
use Rattle.std.proofs.Common.{Some, None}
use Rattle.text.specs.Read.{number_line}
use Rattle.text.specs.Read.Got.{found, broken}
use Rattle.text.specs.Answers.{line_in}
use Rattle.text.specs.declared.Line.{Line}
use Rattle.text.proofs.Decimal.{line-exact}
use Rattle.text.proofs.Places.{line-none, line-some}
use Rattle.steplist.specs.OpLine.{largest}
use Rattle.steplist.specs.Listing.{a_key, b_key, c_key, numbers, step}
use Rattle.steplist.proofs.read_step.Goals as goal

-- the number that stands behind a key, which is at most m
none : (s k : List ℕ) (at m n : ℕ) → m ≡ n → None ≡ line_in s (number_line k m (drop at s)) → number_line k n (drop at s) ≡ broken
none s k at m n e h = rw (← e) (line-none s (number_line k m (drop at s)) h)

some : (s k : List ℕ) (at m n : ℕ) (l : Line) → m ≡ n → Some l ≡ line_in s (number_line k m (drop at s)) → number_line k n (drop at s) ≡ found l.number (drop l.next s)
some s k at m n l e h = rw (← e) (line-some (line-exact k m) s at l h)

pub returns-in_err-line : goal.returns-in_err-line
unfolding step
returns-in_err-line c = rw (c.from_residual.ensures, ← c.in_err-line.ensures)

pub returns-in_err-a : goal.returns-in_err-a
unfolding step numbers
returns-in_err-a c =
    let s = c.args.s.now in
    let o = c.in_ok-line.line in
    rw (c.from_residual-in_err-a.ensures, ← c.in_ok-line.ensures, none s a_key o.next c.largest.result (largest o.value 0) c.largest.ensures c.in_err-a.ensures)

pub returns-in_err-b : goal.returns-in_err-b
unfolding step numbers
returns-in_err-b c =
    let s = c.args.s.now in
    let o = c.in_ok-line.line in
    let a = c.in_ok-a.a in
    rw (
      c.from_residual-in_err-b.ensures,
      ← c.in_ok-line.ensures,
      some s a_key o.next c.largest.result (largest o.value 0) a c.largest.ensures c.in_ok-a.ensures,
      none s b_key a.next c.largest-2.result (largest o.value 1) c.largest-2.ensures c.in_err-b.ensures,
    )

pub returns-in_err-c : goal.returns-in_err-c
unfolding step numbers
returns-in_err-c c =
    let s = c.args.s.now in
    let o = c.in_ok-line.line in
    let a = c.in_ok-a.a in
    let b = c.in_ok-b.b in
    rw (
      c.from_residual-in_err-c.ensures,
      ← c.in_ok-line.ensures,
      some s a_key o.next c.largest.result (largest o.value 0) a c.largest.ensures c.in_ok-a.ensures,
      some s b_key a.next c.largest-2.result (largest o.value 1) b c.largest-2.ensures c.in_ok-b.ensures,
      none s c_key b.next c.largest-3.result (largest o.value 2) c.largest-3.ensures c.in_err-c.ensures,
    )

pub returns : goal.returns
unfolding step numbers
returns c =
    let s = c.args.s.now in
    let o = c.in_ok-line.line in
    let a = c.in_ok-a.a in
    let b = c.in_ok-b.b in
    rw (
      ← c.in_ok-line.ensures,
      some s a_key o.next c.largest.result (largest o.value 0) a c.largest.ensures c.in_ok-a.ensures,
      some s b_key a.next c.largest-2.result (largest o.value 1) b c.largest-2.ensures c.in_ok-b.ensures,
      some s c_key b.next c.largest-3.result (largest o.value 2) c.in_ok-c.c c.largest-3.ensures c.in_ok-c.ensures,
    )
