-- `compare_words::unchecked::scan_extents`: a word without a mismatch is passed, the lowest mismatch of a word leaves the scan, and behind the last word
-- what is unsure tells the answer.
use Rattle.std.proofs.Common.{Option, Some, None}
use mathlib.Core.Path.{◌≡◌, refl, sym, ap, ◌∙◌}
use Prim.Native.Nat.{ℕ, ◌+◌, ◌*◌, ◌^◌, ◌≤◌, ◌<◌}
use native.Mathlib.Nat.{zero-mul}
use native.Mathlib.Omega.{arith}
use lib.Count.{count_trailing_zeros}
use lib.ListN.{length}
use Rattle.bit.specs.declared.LogicBit.{LogicBit}
use Rattle.words.specs.Planes.{word_count, word_at, lent, Planes}
use Rattle.words.proofs.Planes.{length-tabulate}
use Rattle.words.proofs.Extend.{word-bit}
use Rattle.extension.specs.declared.Extent.{Extent}
use Rattle.extension.specs.Extension.{extent_at}
use Rattle.compare_words.specs.declared.Comparison.{Comparison}
use Rattle.compare_words.specs.Compared.{places_over}
use Rattle.compare_words.proofs.Places.{Scanned, stands-inside, found-open, found-same}
use Rattle.compare_words.proofs.Words.{halved, few, next, next-first, left, same_start}
use Rattle.compare_words.proofs.unchecked.scan_extents.Goals as goal
use Rattle.compare_words.proofs.unchecked.scan_extents.Goals.{then-doubt-eq0, else-doubt-eq0, else-words-test, then-words-test+then-loop-bits-test+then-bits-eq1}

-- what was told of the place of a mismatch
no-place : {A : Type 0} {x : Option ℕ} {i : ℕ} → x ≡ None → x ≡ Some i → A
no-place e f = let z : ◌≡◌ {A = ℕ} 0 1 = cc in absurd (omega arith)

one-place : {x : Option ℕ} {i j : ℕ} → x ≡ Some i → x ≡ Some j → i ≡ j
one-place e f = cc

-- the lowest unsure place lies below the width
inside : (op : Comparison) (w : ℕ) (a : Extent) (p : Planes) (b : Extent) (q : Planes) (doubt first at k : ℕ)
    → Scanned op (places_over w a p b q) doubt first at k → (doubt ≡ 0 → ⊥) → at * 64 + count_trailing_zeros 64 first < w
inside op w a p b q doubt first at k s z = rw length-tabulate at (stands-inside op (places_over w a p b q) doubt first at k s z)

-- all words are scanned
all : (w : ℕ) (a : Extent) (p : Planes) (b : Extent) (q : Planes) (k : ℕ) → word_count w ≤ k → length (places_over w a p b q) ≤ k * 64
all w a p b q k l = rw length-tabulate (omega arith)

pub words-init : goal.words-init
words-init c =
    let a = c.args in
    let e = c.least-n.ensures in
    let p = c.requires.width_le_width in
    let f = c.pass_same-k.ensures in (
      refl,
      same_start a.op a.width a.a a.b a.av.now a.au.now a.bv.now a.bu.now c.pass_same-k.result
          (omega (arith, f.0, e, p.0)) (omega (arith, f.0, e)) (omega (arith, f.0, e)) f.1,
    )

pub overflow_add-mismatch : goal.overflow_add-mismatch
overflow_add-mismatch c =
    let lies = few c.loop-bits.bits c.loop-bits.j 64 c.loop-bits-test.true c.loop-bits.invariant.2 in omega (arith, lies)

pub overflow_cast-mismatch : goal.overflow_cast-mismatch
overflow_cast-mismatch c =
    let lies = few c.loop-bits.bits c.loop-bits.j 64 c.loop-bits-test.true c.loop-bits.invariant.2 in omega (arith, lies)

pub overflow_add-j : goal.overflow_add-j
overflow_add-j c =
    let lies = few c.loop-bits.bits c.loop-bits.j 64 c.loop-bits-test.true c.loop-bits.invariant.2 in omega (arith, lies)

pub loop-bits-preserved : goal.loop-bits-preserved
loop-bits-preserved c =
    let l = c.loop-bits in
    let h = halved l.bits l.j (omega arith) in
    (l.invariant.0, l.invariant.1 ∙ h, rw (sym h) l.invariant.2)

pub words-preserved : goal.words-preserved
words-preserved c =
    let a = c.args in
    let f : ℕ → LogicBit = extent_at a.a (lent a.av.now a.au.now) in
    let g : ℕ → LogicBit = extent_at a.b (lent a.bv.now a.bu.now) in
    let k = c.words.k in
    let read = c.loop-bits.invariant.1 ∙ ap (λ (n : ℕ). n * 2 ^ c.loop-bits.j) c.loop-bits-test.false ∙ zero-mul _ in
    let none : c.marks_at-m.result.apart ≡ 0 = omega (arith, read) in
    elim c.if-doubt-eq0.branch [
      | then-doubt-eq0 w ↦ (
        c.loop-bits.invariant.0,
        rw (w.first-is, w.at-is)
            (next-first a.op f g a.width k (word_at f k) (word_at g k) (word-bit f k) (word-bit g k) _ c.marks_at-m.ensures _ _ _ c.words.invariant.1 none w.if-doubt-eq0.true),
      )
      | else-doubt-eq0 w ↦ (
        c.loop-bits.invariant.0,
        rw (w.first-is, w.at-is)
            (next a.op f g a.width k (word_at f k) (word_at g k) (word-bit f k) (word-bit g k) _ c.marks_at-m.ensures _ _ _ c.words.invariant.1 none w.if-doubt-eq0.false),
      )
    ]

pub overflow_mul-result : goal.overflow_mul-result
overflow_mul-result c =
    let a = c.args in
    let w = c.words in
    omega (arith, inside a.op a.width a.a (lent a.av.now a.au.now) a.b (lent a.bv.now a.bu.now) w.doubt w.first w.at w.k w.invariant.1 c.if-doubt-eq0-2.false)

pub overflow_cast-result : goal.overflow_cast-result
overflow_cast-result c =
    let a = c.args in
    let w = c.words in
    omega (arith, inside a.op a.width a.a (lent a.av.now a.au.now) a.b (lent a.bv.now a.bu.now) w.doubt w.first w.at w.k w.invariant.1 c.if-doubt-eq0-2.false)

pub overflow_add-result : goal.overflow_add-result
overflow_add-result c =
    let a = c.args in
    let w = c.words in
    omega (arith, inside a.op a.width a.a (lent a.av.now a.au.now) a.b (lent a.bv.now a.bu.now) w.doubt w.first w.at w.k w.invariant.1 c.if-doubt-eq0-2.false)

pub returns-in-Some : goal.returns-in-Some
returns-in-Some c =
    let a = c.args in
    let f : ℕ → LogicBit = extent_at a.a (lent a.av.now a.au.now) in
    let g : ℕ → LogicBit = extent_at a.b (lent a.bv.now a.bu.now) in
    let k = c.words.k in
    elim c.words-test.branch [
      | else-words-test w ↦ no-place (w.mismatch-is ∙ c.words.invariant.0) c.in-Some.is
      | then-words-test+then-loop-bits-test+then-bits-eq1 w ↦
          let i : c.in-Some.i ≡ k * 64 + w.loop-bits.j = one-place c.in-Some.is w.mismatch-is in
          let apart : w.marks_at-m.result.apart ≡ w.loop-bits.bits * 2 ^ w.loop-bits.j = omega (arith, w.loop-bits.invariant.1) in
          rw i
          (left a.op f g a.width k (word_at f k) (word_at g k) (word-bit f k) (word-bit g k) _ w.marks_at-m.ensures _ _ _ c.words.invariant.1
          w.loop-bits.bits w.loop-bits.j apart
          (few w.loop-bits.bits w.loop-bits.j 64 w.loop-bits-test.true w.loop-bits.invariant.2) (omega arith))
    ]

pub returns-in-None : goal.returns-in-None
returns-in-None c =
    let a = c.args in
    let l = c.words in
    elim c.words-test.branch [
      | else-words-test w ↦
          found-same a.op (places_over a.width a.a (lent a.av.now a.au.now) a.b (lent a.bv.now a.bu.now)) l.doubt l.first l.at l.k l.invariant.1
          (all a.width a.a (lent a.av.now a.au.now) a.b (lent a.bv.now a.bu.now) l.k (omega (arith, c.word_count-count.ensures, w.words-test.false))) c.if-doubt-eq0-2.true
      | then-words-test+then-loop-bits-test+then-bits-eq1 w ↦ no-place c.in-None.is w.mismatch-is
    ]

pub returns-in-None-2 : goal.returns-in-None-2
returns-in-None-2 c =
    let a = c.args in
    let l = c.words in
    elim c.words-test.branch [
      | else-words-test w ↦
          found-open a.op (places_over a.width a.a (lent a.av.now a.au.now) a.b (lent a.bv.now a.bu.now)) l.doubt l.first l.at l.k l.invariant.1
          (all a.width a.a (lent a.av.now a.au.now) a.b (lent a.bv.now a.bu.now) l.k (omega (arith, c.word_count-count.ensures, w.words-test.false))) c.if-doubt-eq0-2.false
      | then-words-test+then-loop-bits-test+then-bits-eq1 w ↦ no-place c.in-None-2.is w.mismatch-is
    ]
