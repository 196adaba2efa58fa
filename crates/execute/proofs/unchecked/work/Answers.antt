-- `execute::unchecked::work`: an answer's bit is written in the one word of each plane; an arm that is named is copied; an insert splices a copy.
use mathlib.Core.Path.{◌≡◌, refl, sym, ap, ap₂, ◌∙◌}
use mathlib.Core.List.{[], ◌∷◌}
use Prim.Native.Nat.{ℕ}
use native.Mathlib.Omega.{arith}
use Rattle.words.specs.declared.Word.{Word}
use Rattle.words.specs.Vector.{at}
use Rattle.words.specs.Planes.{Planes, word_count, value_digit, unknown_digit, from_planes, vector_of, lent, lent_by, planes_of}
use Rattle.words.proofs.Fill.{start, more, plane-done}
use Rattle.bits.specs.Bits.{spliced}
use Rattle.bits.proofs.Splice.{planes-again}
use Rattle.value.specs.Checks.{vector}
use Rattle.reduce_words.specs.declared.Truth.TheVariants.{True, False}
use Rattle.reduce_words.specs.Fold.{truth_of}
use Rattle.ops.specs.declared.Family.{Family}
use Rattle.ops.specs.Ops.{family_header, answer_bit}
use Rattle.execute.proofs.Words.{everywhere, value-word, unknown-word, first_word}
use Rattle.execute.proofs.unchecked.work.Goals as goal

pub returns-in-Answer : goal.returns-in-Answer
returns-in-Answer c =
    let a = c.args in
    let one = λ (k : Family). word_count (family_header k a.a a.b a.c).width in
    let n = c.requires.ov_len.0 ∙ sym (ap one c.in-Answer.ensures) in
    let m = c.requires.ov_len.1 ∙ sym (ap one c.in-Answer.ensures) in
    let r = answer_bit c.in-Answer.q (vector a.a (lent_by a.av.now a.au.now)) (vector a.b (lent_by a.bv.now a.bu.now)) in
    let answered : c.answer.result ≡ r = cc in
    let low = everywhere _ _ c.filled-x.ensures ∙ answered in
    rw (← c.in-Answer.ensures)
    (ap₂ lent
    (plane-done value_digit (r ∷ []) _ _ _ (more {out = a.ov.now} (start n) (omega arith) (value-word c.filled-x.result r low)) (omega arith) refl)
    (plane-done unknown_digit (r ∷ []) _ _ _ (more {out = a.ou.now} (start m) (omega arith) (unknown-word c.filled-x.result r low)) (omega arith) refl))

pub returns-in-True : goal.returns-in-True
returns-in-True c =
    let a = c.args in
    let first : truth_of (from_planes a.a.width a.av.now a.au.now) ≡ True = cc in
    rw (← c.in-Select.ensures, first)
    (ap₂ lent c.copy_words.ensures c.copy_words-in-True.ensures
    ∙ planes-again a.b.width a.bv.now a.bu.now c.requires.plane_2.0 c.requires.plane_2.1 (λ i. (c.type_inv.bv i).fits) (λ i. (c.type_inv.bu i).fits))

pub returns-in-False : goal.returns-in-False
returns-in-False c =
    let a = c.args in
    let first : truth_of (from_planes a.a.width a.av.now a.au.now) ≡ False = cc in
    rw (← c.in-Select.ensures, first)
    (ap₂ lent c.copy_words-in-False.ensures c.copy_words-in-False-2.ensures
    ∙ planes-again a.c.width a.cv.now a.cu.now c.requires.plane_3.0 c.requires.plane_3.1 (λ i. (c.type_inv.cv i).fits) (λ i. (c.type_inv.cu i).fits))

-- a splice, by other names of what it goes by
splice-again : (w pos m : ℕ) (p : Planes) (x : Word) {left : Planes} → left ≡ planes_of (spliced (vector_of w p) pos m x) → (q : Planes) → p ≡ q
    → (n : ℕ) → m ≡ n → (y : Word) → x ≡ y → left ≡ planes_of (spliced (vector_of w q) pos n y)
splice-again w pos m p x e q hp n hm y hx = e ∙ (λ i. planes_of (spliced (vector_of w (hp i)) pos (hm i) (hx i)))

pub returns-in-Insert : goal.returns-in-Insert
returns-in-Insert c =
    let a = c.args in
    rw (← c.in-Insert.ensures)
    (splice-again a.a.width a.pos _ _ _ c.splice64.ensures
    _ (ap₂ lent c.copy_words-in-Insert.ensures c.copy_words-in-Insert-2.ensures)
    a.b.width (omega arith)
    _ (c.operand_word-bits.ensures ∙ first_word (at (from_planes a.b.width a.bv.now a.bu.now))))
