-- `text::unchecked::one_of`: the lines that were not tried yet give what all of them do.
use mathlib.Core.Path.{◌≡◌, refl, ◌∙◌}
use mathlib.Core.List.{List}
use Prim.Native.Nat.{ℕ, ◌+◌, ◌-◌}
use native.Mathlib.Omega.{arith}
use lib.ListN.{length, take, drop}
use Rattle.std.proofs.Common.{Option, Some, None}
use Rattle.text.specs.Read.{broken, key}
use Rattle.text.specs.Answers.{place_in}
use Rattle.text.proofs.Exact.{key-exact}
use Rattle.text.proofs.Names.{left-none, left-on, left-found, left-next}
use Rattle.text.proofs.Places.{begins, within, place-some, place-none}
use Rattle.text.proofs.unchecked.one_of.Goals as goal
use Rattle.text.proofs.unchecked.one_of.Goals.{then-c-eq10+in_default, else-c-eq10}

-- what the comparison of the line says, whatever the place is called at which the line begins
from-start : (s lines t : List ℕ) (r : Option ℕ) (start j x : ℕ) → r ≡ place_in s (key (take (j + 1 - x) (drop x lines)) t) → x ≡ start
    → r ≡ place_in s (key (take (j + 1 - start) (drop start lines)) t)
from-start s lines t r start j x h e = rw (← e) h

pub loop-j-init : goal.loop-j-init
loop-j-init c = (omega arith, omega arith, refl)

pub returns-in-Some : goal.returns-in-Some
returns-in-Some c =
    let a = c.args in
    let l = c.loop-j in
    let line : List ℕ = take (l.j + 1 - l.start) (drop l.start a.lines.now) in
    let q = from-start a.s.now a.lines.now (drop a.at a.s.now) (Some c.in-Some.next) l.start l.j _ c.in-Some.ensures (omega arith) in
    let k = place-some (key-exact line) a.s.now a.at c.in-Some.next q in
    let n : length a.s.now - length (drop c.in-Some.next a.s.now) ≡ c.in-Some.next =
    begins a.s.now c.in-Some.next (within a.s.now (key line (drop a.at a.s.now)) c.in-Some.next q)
    in
    rw (l.invariant.2, left-found a.lines.now (drop a.at a.s.now) l.start l.j l.number l.invariant.1 c.loop-j-test.true c.if-c-eq10.true (drop c.in-Some.next a.s.now) k.1, n)

pub loop-j-preserved : goal.loop-j-preserved
loop-j-preserved c =
    let a = c.args in
    let l = c.loop-j in
    let t : List ℕ = drop a.at a.s.now in
    elim c.if-c-eq10.branch [
      | then-c-eq10+in_default w ↦
          let k : key (take (l.j + 1 - l.start) (drop l.start a.lines.now)) t ≡ broken =
          place-none a.s.now _ (from-start a.s.now a.lines.now t None l.start l.j _ w.in_default.ensures (omega arith))
          in
          rw (w.number-is, w.start-is) (omega arith, omega arith, l.invariant.2 ∙ left-next a.lines.now t l.start l.j l.number l.invariant.1 c.loop-j-test.true w.if-c-eq10.true k)
      | else-c-eq10 w ↦
          let e : c.if-c-eq10.start ≡ l.start = omega arith in
          rw (w.number-is, e) (l.invariant.0, omega arith, l.invariant.2 ∙ left-on a.lines.now t l.start l.j l.number l.invariant.1 c.loop-j-test.true w.if-c-eq10.false)
    ]

pub returns : goal.returns
returns c = rw (c.loop-j.invariant.2, left-none _ _ _ _ _ c.loop-j-test.false)
