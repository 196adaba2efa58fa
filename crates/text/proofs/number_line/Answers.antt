-- `text::number_line`: what is left of the number at the place reached reads as all of it does behind the key.
use mathlib.Core.Path.{◌≡◌, refl, ◌∙◌}
use mathlib.Core.Bool.{true}
use mathlib.Core.List.{List}
use Prim.Native.Nat.{ℕ, ◌+◌}
use native.Mathlib.Omega.{arith}
use lib.Dec.{ltb}
use lib.ListN.{drop, get_or}
use borrow.Author.Tests.{lt-ltb, le-ltb}
use Rattle.std.proofs.Common.{Some}
use Rattle.bit.proofs.Tests.{and-true}
use Rattle.text.specs.Read.{key, number, number_line}
use Rattle.text.specs.Answers.{place_in}
use Rattle.text.proofs.Exact.{key-exact}
use Rattle.text.proofs.Places.{begins, place-some, place-none}
use Rattle.text.proofs.Turns.{rest-ends, rest-done, rest-other, digit-range, rest_over, rest-digit}
use Rattle.text.proofs.number_line.Goals as goal

-- the number is read behind the key
behind-key : (s k : List ℕ) (at from m : ℕ) → Some from ≡ place_in s (key k (drop at s)) → number_line k m (drop at s) ≡ number m (drop from s)
unfolding number_line
behind-key s k at from m e = rw (place-some (key-exact k) s at from e).1

pub returns-in_err-from : goal.returns-in_err-from
unfolding number_line
returns-in_err-from c = rw (c.from_residual.ensures, place-none c.args.s.now _ c.in_err-from.ensures)

pub loop-i-init : goal.loop-i-init
loop-i-init c = let f = c.in_ok-from.from in (omega arith, λ e. refl, rw (le-ltb f f (omega arith)))

pub returns-then-c-from : goal.returns-then-c-from
returns-then-c-from c =
    let a = c.args in
    let s = a.s.now in
    let f = c.in_ok-from.from in
    let q = and-true _ _ c.if-c-from.true in
    rw (behind-key s a.key.now a.at f a.limit c.in_ok-from.ensures, c.loop-i.invariant.2, rest-done s a.limit c.loop-i.i (omega arith) (ltb f c.loop-i.i) c.loop-i.v q.0 q.1, begins s (c.loop-i.i + 1) (omega arith))

pub returns-then-c-v : goal.returns-then-c-v
returns-then-c-v c =
    let a = c.args in
    let s = a.s.now in
    let f = c.in_ok-from.from in
    rw (behind-key s a.key.now a.at f a.limit c.in_ok-from.ensures, c.loop-i.invariant.2, rest-other s a.limit c.loop-i.i (omega arith) (ltb f c.loop-i.i) c.loop-i.v c.if-c-from.false c.if-c-v.true)

pub returns-then-limit-v : goal.returns-then-limit-v
returns-then-limit-v c =
    let a = c.args in
    let s = a.s.now in
    let f = c.in_ok-from.from in
    let r = digit-range (get_or s c.loop-i.i 0) _ c.if-c-v.false in
    rw (behind-key s a.key.now a.at f a.limit c.in_ok-from.ensures, c.loop-i.invariant.2, rest_over s a.limit c.loop-i.i (omega arith) r.0 r.1 (ltb f c.loop-i.i) c.loop-i.v c.loop-i.invariant.1 r.2 c.if-limit-v.true)

pub loop-i-preserved : goal.loop-i-preserved
loop-i-preserved c =
    let a = c.args in
    let s = a.s.now in
    let f = c.in_ok-from.from in
    let r = digit-range (get_or s c.loop-i.i 0) _ c.if-c-v.false in
    let b : ltb f (c.loop-i.i + 1) ≡ true = lt-ltb f (c.loop-i.i + 1) (omega arith) in (
      c.if-limit-v.false,
      λ e. let z : ◌≡◌ {A = ℕ} 0 1 = cc in absurd (omega arith),
      c.loop-i.invariant.2
          ∙ rest-digit s a.limit c.loop-i.i (omega arith) r.0 r.1 (ltb f c.loop-i.i) c.loop-i.v c.loop-i.invariant.1 r.2 c.if-limit-v.false
          ∙ rw b,
    )

pub returns : goal.returns
returns c =
    let a = c.args in
    rw (behind-key a.s.now a.key.now a.at c.in_ok-from.from a.limit c.in_ok-from.ensures, c.loop-i.invariant.2, rest-ends a.s.now a.limit (ltb c.in_ok-from.from c.loop-i.i) c.loop-i.v c.loop-i.i c.loop-i-test.false)
