-- `cells::check_cells`: each cell that agrees leaves less of the check; the first that does not decides it.
use mathlib.Core.Path.{◌≡◌, sym}
use Prim.Native.Nat.{◌≤◌}
use native.Mathlib.Omega.{arith}
use lib.ListN.{length}
use borrow.Author.Tests.{le-leb, eq-eqb}
use Rattle.cells.specs.Cells.{agree, check_cells}
use Rattle.cells.proofs.Spans.{cell-fits}
use Rattle.cells.proofs.Walk.{left_more, left_wrong, left_done}
use Rattle.cells.proofs.check_cells.Goals as goal

pub returns-then-not-cell_agrees : goal.returns-then-not-cell_agrees
unfolding check_cells agree
returns-then-not-cell_agrees c =
    let few : c.args.count ≤ 320 = omega arith in
    let level : length c.args.value.now ≡ length c.args.unknown.now = omega arith in
    let w = left_wrong _ _ _ _ c.loop-c.invariant.1 _ c.loop-c-test.true (sym c.if-not-cell_agrees.ensures) in
    simp (le-leb _ _ few, eq-eqb _ _ level, w)

pub loop-c-preserved : goal.loop-c-preserved
loop-c-preserved c =
    let e = sym c.if-not-cell_agrees.ensures in
    let f = cell-fits _ _ _ e in
    (omega (arith, f.begins, f.within), left_more _ _ _ _ c.loop-c.invariant.1 _ c.loop-c-test.true e _ (omega arith))

pub returns : goal.returns
unfolding check_cells agree
returns c =
    let few : c.args.count ≤ 320 = omega arith in
    let level : length c.args.value.now ≡ length c.args.unknown.now = omega arith in
    let d = left_done _ _ _ _ c.loop-c.invariant.1 (omega arith) in
    simp (le-leb _ _ few, eq-eqb _ _ level, d.0, d.1)
