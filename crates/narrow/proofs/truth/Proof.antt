-- `narrow::truth`: a known 1, then an unknown bit, each told by one word.
use mathlib.Core.Path.{◌≡◌, refl, sym, ap, ◌∙◌}
use mathlib.Core.Bool.{Bool, true, false, not}
use Rattle.words.specs.Planes.{vector_of}
use Rattle.reduce_words.specs.Fold.{truth_of, not_zero, truth_by_words}
use Rattle.reduce_words.proofs.ByWords.{told}
use Rattle.narrow.specs.Narrow.{single}
use Rattle.narrow.proofs.Answered.{truth-word, truth-bits}
use borrow.Author.Tests.{eq-eqb, ne_eqb}
use borrow.Author.Rules.{rules}
use Rattle.narrow.proofs.truth.Statement.{statement}
use Rattle.narrow.proofs.truth.Tie as tie

-- the two tests
by_tests : (c : tie.After-known_ones) (s u : Bool) → let a = c.args.a in not_zero c.known_ones.result ≡ s → not_zero a.unknown ≡ u
    → (told s u ≡ truth_by_words (single a)) × (told s u ≡ truth_of (vector_of 64 (single a)))
by_tests c s u e f =
    let a = c.args.a in
    let w = truth-word a s u (sym (ap not_zero c.known_ones.ensures) ∙ e) f in
    (w, w ∙ truth-bits a (search rules) (search rules))

known-ones-requires : tie.Need-known_ones-requires
known-ones-requires c κs = search rules

returns : tie.Need-returns-then-known_ones-ne0
returns c = by_tests c.before true _ (ap not (ne_eqb _ _ c.if-known_ones-ne0.true)) refl

returns-2 : tie.Need-returns-then-u-ne0
returns-2 c = by_tests c.before.before false true (ap not (eq-eqb _ _ c.if-known_ones-ne0.false)) (ap not (ne_eqb _ _ c.if-u-ne0.true))

returns-3 : tie.Need-returns
returns-3 c = by_tests c.before.before false false (ap not (eq-eqb _ _ c.if-known_ones-ne0.false)) (ap not (eq-eqb _ _ c.if-u-ne0.false))

pub truth_spec : {M : Type 1} → statement M
truth_spec = tie.close (tie.spec known-ones-requires returns returns-2 returns-3)
