-- `literal_write::write_literal`: the vector is accepted, its length is given, the text has that length.
use mathlib.Core.Path.{◌≡◌, sym, ap, ◌∙◌}
use native.Mathlib.Omega.{arith}
use lib.ListN.{length}
use borrow.Author.Tests.{eq-eqb, ne_eqb}
use Rattle.std.proofs.lemmas.Result.{err_from_is_err_and}
use Rattle.refusal.specs.Outcome.{outcome}
use Rattle.refusal.specs.Outcome.Answer.{given}
use Rattle.words.specs.Planes.{lent}
use Rattle.value.specs.Checks.{vector}
use Rattle.value.proofs.Checks.{vector_accepted}
use Rattle.literal_write.specs.Write.{literal_text}
use Rattle.literal_write.proofs.Lengths.{by_length, by-length, length-given}
use Rattle.literal_write.proofs.write_literal.Goals as goal

pub returns-in_err-n : goal.returns-in_err-n
returns-in_err-n c =
    let a = c.args in
    let p = lent a.value.now a.unknown.now in
    let r = c.from_residual-in_err-n in
    let e = err_from_is_err_and r.result r.ensures.1 in
    rw (e.1, e.2)
    (sym (by-length a.h p a.text.now (sym c.in_ok-check_vector.ensures) ∙ ap (by_length (literal_text (vector a.h p)) a.text.now) (sym c.in_err-n.ensures)))

pub returns-then-text-n : goal.returns-then-text-n
returns-then-text-n c =
    let a = c.args in
    let p = lent a.value.now a.unknown.now in
    let other : length a.text.now ≡ c.in_ok-n.n → ⊥ = omega arith in
    sym (by-length a.h p a.text.now (sym c.in_ok-check_vector.ensures) ∙ ap (by_length (literal_text (vector a.h p)) a.text.now) (sym c.in_ok-n.ensures)
    ∙ rw (ne_eqb (length a.text.now) c.in_ok-n.n other))

pub put_literal-requires-clause-value_len : goal.put_literal-requires-clause-value_len
put_literal-requires-clause-value_len c =
    let a = c.args in
    let k = (vector_accepted a.h (lent a.value.now a.unknown.now) (sym c.in_ok-check_vector.ensures)).planes in
    (k.value-plane.count, k.unknown-plane.count)

pub put_literal-requires-clause-text_len : goal.put_literal-requires-clause-text_len
unfolding literal_text
put_literal-requires-clause-text_len c =
    let a = c.args in
    let same : length a.text.now ≡ c.in_ok-n.n = omega arith in
    same ∙ sym (length-given a.h (lent a.value.now a.unknown.now) _ (sym c.in_ok-n.ensures))

pub returns : goal.returns
unfolding literal_text
returns c =
    let a = c.args in
    let p = lent a.value.now a.unknown.now in
    let same : length a.text.now ≡ c.in_ok-n.n = omega arith in
    ap (outcome (given tt)) {y = literal_text (vector a.h p)} c.put_literal.ensures
    ∙ sym (by-length a.h p a.text.now (sym c.in_ok-check_vector.ensures) ∙ ap (by_length (literal_text (vector a.h p)) a.text.now) (sym c.in_ok-n.ensures)
    ∙ rw (eq-eqb (length a.text.now) c.in_ok-n.n same))
