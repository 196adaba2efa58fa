-- `truth_bits`: no bit below i is a known 1, and `seen` tells whether one is unknown.
use mathlib.Core.Path.{◌≡◌, sym, ◌∙◌}
use mathlib.Core.Bool.{true, false}
use Prim.Native.Nat.{◌<◌}
use native.Mathlib.Omega.{arith}
use Rattle.std.proofs.lemmas.Bool.Decides.{nat_tests}
use Rattle.bit.specs.Rules.{code}
use Rattle.bit.proofs.Tests.{or-all}
use Rattle.words.proofs.Planes.{length-tabulate}
use Rattle.ffi_bit_by_bit.proofs.Scan.{unknown_code, start, more_zero, more_unknown, found, done}
use Rattle.ffi_bit_by_bit.proofs.truth_bits.Goals as goal
use Rattle.ffi_bit_by_bit.proofs.truth_bits.Goals.{in-Zero, in-X}

pub loop-i-init : goal.loop-i-init
loop-i-init c = start _

pub loop-i-preserved : goal.loop-i-preserved
loop-i-preserved c = elim c.match-b.branch [
  | in-Zero w ↦ rw w.seen-is (more_zero _ c.loop-i.invariant (sym c.get-b.ensures ∙ w.in-Zero.is))
  | in-X w ↦
      let unknown = w.in-X.is in
      let above : 1 < code c.get-b.result = unknown_code unknown in
      let seen : c.match-b.seen ≡ true = grind (arith, nat_tests, or-all) in
      rw seen (more_unknown _ c.loop-i.invariant (rw c.get-b.ensures at unknown))
]

pub returns-in-One : goal.returns-in-One
returns-in-One c = found _ c.loop-i.invariant (sym c.get-b.ensures ∙ c.in-One.is)

pub returns-then-seen : goal.returns-then-seen
returns-then-seen c = done _ c.loop-i.invariant (rw length-tabulate (omega arith)) true c.if-seen.true

pub returns : goal.returns
returns c = done _ c.loop-i.invariant (rw length-tabulate (omega arith)) false c.if-seen.false
