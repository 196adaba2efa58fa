-- `literal_read::read_size`: one law for each way that a byte takes.
use mathlib.Core.Path.{◌≡◌, sym, ap, ◌∙◌}
use mathlib.Core.List.{List, ◌∷◌}
use Prim.Native.Nat.{ℕ, ◌+◌, ◌<◌}
use native.Mathlib.Numerals.{add-one}
use native.Mathlib.Omega.{arith}
use lib.ListN.{length, drop, get_or, drop_of_length-le}
use lib.Seq.{drop-cons}
use borrow.Author.Tests.{eq-eqb, ne_eqb}
use Rattle.literal_read.specs.Literal.{literal}
use Rattle.literal_read.proofs.Sizes.{size_left, size-begins, size-ends, size-stops, size-other, size-over, size-digit, size-underscore}
use Rattle.literal_read.proofs.read_size.Goals as goal
use Rattle.literal_read.proofs.read_size.Goals.{then-c-width+else-c-width-2+else-width-gt-MAX_SIZE, else-c-width}

-- the byte that is read
turn : (s : List ℕ) (w i : ℕ) → literal s ≡ size_left w (drop i s) → i < length s → literal s ≡ size_left w (get_or s i 0 ∷ drop (i + 1) s)
turn s w i e l = e ∙ ap (size_left w) (rw add-one (drop-cons s i 0 l))

pub loop-i-init : goal.loop-i-init
loop-i-init c = (omega arith, size-begins c.args.s.now)

pub returns-then-width-eq0-clause-s_size : goal.returns-then-width-eq0-clause-s_size
returns-then-width-eq0-clause-s_size c =
    let l = c.loop-i in
    let none : l.width ≡ 0 = omega arith in
    sym (turn c.args.s.now l.width l.i l.invariant.1 c.loop-i-test.true ∙ size-stops l.width _ _ (eq-eqb _ 39 c.if-c-eq39.true)
    ∙ rw (eq-eqb l.width 0 none))

pub returns-then-c-eq39-clause-s_size : goal.returns-then-c-eq39-clause-s_size
returns-then-c-eq39-clause-s_size c =
    let l = c.loop-i in
    let some : l.width ≡ 0 → ⊥ = omega arith in
    sym (turn c.args.s.now l.width l.i l.invariant.1 c.loop-i-test.true ∙ size-stops l.width _ _ (eq-eqb _ 39 c.if-c-eq39.true)
    ∙ rw (ne_eqb l.width 0 some))

pub returns-then-c-width-2-clause-s_size : goal.returns-then-c-width-2-clause-s_size
returns-then-c-width-2-clause-s_size c =
    let l = c.loop-i in
    sym (turn c.args.s.now l.width l.i l.invariant.1 c.loop-i-test.true
    ∙ size-other l.width _ _ (ne_eqb _ 39 c.if-c-eq39.false) c.if-c-width.true c.if-c-width-2.true)

pub returns-then-width-gt-MAX_SIZE-clause-s_size : goal.returns-then-width-gt-MAX_SIZE-clause-s_size
returns-then-width-gt-MAX_SIZE-clause-s_size c =
    let l = c.loop-i in
    sym (turn c.args.s.now l.width l.i l.invariant.1 c.loop-i-test.true
    ∙ size-over l.width _ _ (ne_eqb _ 39 c.if-c-eq39.false) c.if-c-width.true c.if-c-width-2.false c.if-width-gt-MAX_SIZE.true)

pub loop-i-preserved : goal.loop-i-preserved
loop-i-preserved c =
    let l = c.loop-i in
    let t = turn c.args.s.now l.width l.i l.invariant.1 c.loop-i-test.true in
    let a = ne_eqb _ 39 c.if-c-eq39.false in
    elim c.if-c-width.branch [
      | then-c-width+else-c-width-2+else-width-gt-MAX_SIZE w ↦ rw w.width-is
          (w.if-width-gt-MAX_SIZE.false, t ∙ size-digit l.width _ _ a w.if-c-width.true w.if-c-width-2.false w.if-width-gt-MAX_SIZE.false)
      | else-c-width w ↦ rw w.width-is (l.invariant.0, t ∙ size-underscore l.width _ _ a w.if-c-width.false)
    ]

pub returns-clause-s_size : goal.returns-clause-s_size
returns-clause-s_size c =
    let l = c.loop-i in
    sym (l.invariant.1 ∙ ap (size_left l.width) (drop_of_length-le c.args.s.now c.loop-i-test.false) ∙ size-ends l.width)
