-- `compare_words::unchecked::compare_words`: the marks of the only word tell the answer.
use Rattle.compare_words.proofs.Words.{one_word}
use borrow.Author.Tests.{eq-eqb, ne_eqb}
use Rattle.compare_words.proofs.unchecked.compare_words.Goals as goal

pub returns-then-r-m-ne0 : goal.returns-then-r-m-ne0
returns-then-r-m-ne0 c =
    let a = c.args in
    simp (ne_eqb _ _ c.if-r-m-ne0.true) at (one_word a.width c.requires a.a a.b a.op _ c.lane_marks-r.ensures _ c.ones-m.ensures)

pub returns-then-r-m-eq0 : goal.returns-then-r-m-eq0
returns-then-r-m-eq0 c =
    let a = c.args in
    simp (eq-eqb _ _ c.if-r-m-ne0.false, eq-eqb _ _ c.if-r-m-eq0.true) at (one_word a.width c.requires a.a a.b a.op _ c.lane_marks-r.ensures _ c.ones-m.ensures)

pub returns-else-r-m-eq0 : goal.returns-else-r-m-eq0
returns-else-r-m-eq0 c =
    let a = c.args in
    simp (eq-eqb _ _ c.if-r-m-ne0.false, ne_eqb _ _ c.if-r-m-eq0.false) at (one_word a.width c.requires a.a a.b a.op _ c.lane_marks-r.ensures _ c.ones-m.ensures)
