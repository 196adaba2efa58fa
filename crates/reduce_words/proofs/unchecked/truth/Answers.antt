-- `reduce_words::unchecked::truth`: by words it is what the scan tells; the law gives it by bits.
use mathlib.Core.Path.{◌≡◌, sym, ap, ◌∙◌}
use mathlib.Core.Bool.{Bool, true, false, not}
use mathlib.Core.List.{List}
use Prim.Native.Nat.{ℕ, ◌+◌, ◌≤◌, ◌<◌}
use native.Mathlib.Omega.{arith}
use borrow.Author.Tests.{eq-eqb, ne_eqb}
use lib.Bits.{bit_or}
use lib.ListN.{length, get_or}
use Rattle.words.specs.Planes.{lent, word_in}
use Rattle.words.proofs.Planes.{get_d_tabulate, length-tabulate}
use Rattle.lanes.specs.Lanes.{known_ones}
use Rattle.reduce_words.specs.declared.Truth.TheVariants.{True}
use Rattle.reduce_words.specs.Fold.{not_zero, ones_by_words, truth_by_words}
use Rattle.reduce_words.proofs.Places.{lent-planes}
use Rattle.reduce_words.proofs.ByWords.{told, truth-by-words}
use Rattle.reduce_words.proofs.Scan.{left, found, more, end}
use Rattle.reduce_words.proofs.unchecked.truth.Goals as goal

-- behind k words, with the invariant
module _ (v u : List ℕ) (seen k : ℕ) (i : truth_by_words (lent v u) ≡ left (ones_by_words (lent v u)) u seen k) where
  abbrev ones : List ℕ
  ones = ones_by_words (lent v u)

  -- the known ones of word k
  module _ (l : k < length v) (m : k < length u) (x : ℕ) (e : x ≡ known_ones (word_in (lent v u) k)) where
    marks : get_or ones k 0 ≡ x
    marks = get_d_tabulate _ _ k 0 l ∙ sym e

    long : k < length ones
    long = rw length-tabulate l

    one-found : (x ≡ 0 → ⊥) → True ≡ truth_by_words (lent v u)
    one-found z = sym (i ∙ found ones u seen k long m (λ y. z (sym marks ∙ y)))

    one-more : x ≡ 0 → truth_by_words (lent v u) ≡ left ones u (bit_or seen (get_or u k 0)) (k + 1)
    one-more z = i ∙ more ones u seen k long m (marks ∙ z)

  all-scanned : length v ≤ k → length u ≤ k → (z : Bool) → not_zero seen ≡ z → told false z ≡ truth_by_words (lent v u)
  all-scanned l m z e = sym (i ∙ end ones u seen k (rw length-tabulate l) m z e)

pub returns-then-known_ones-ne0 : goal.returns-then-known_ones-ne0
returns-then-known_ones-ne0 c =
    let a = c.args in
    let e : True ≡ truth_by_words (lent a.value.now a.unknown.now) =
    one-found _ _ _ _ c.loop-k.invariant c.loop-k-test.true (omega arith) _ c.known_ones.ensures c.if-known_ones-ne0.true in
    record { value = e; value_2 = e ∙ truth-by-words _ _ _ (lent-planes c.requires.plane c.requires.plane_2 c.type_inv.value c.type_inv.unknown) }

pub loop-k-preserved : goal.loop-k-preserved
loop-k-preserved c = one-more _ _ _ _ c.loop-k.invariant c.loop-k-test.true (omega arith) _ c.known_ones.ensures c.if-known_ones-ne0.false

pub returns-then-seen-ne0 : goal.returns-then-seen-ne0
returns-then-seen-ne0 c =
    let a = c.args in
    let e : told false true ≡ truth_by_words (lent a.value.now a.unknown.now) =
    all-scanned _ _ _ _ c.loop-k.invariant (omega arith) (omega arith) true (ap not (ne_eqb _ _ c.if-seen-ne0.true)) in
    record { value = e; value_2 = e ∙ truth-by-words _ _ _ (lent-planes c.requires.plane c.requires.plane_2 c.type_inv.value c.type_inv.unknown) }

pub returns : goal.returns
returns c =
    let a = c.args in
    let e : told false false ≡ truth_by_words (lent a.value.now a.unknown.now) =
    all-scanned _ _ _ _ c.loop-k.invariant (omega arith) (omega arith) false (ap not (eq-eqb _ _ c.if-seen-ne0.false)) in
    record { value = e; value_2 = e ∙ truth-by-words _ _ _ (lent-planes c.requires.plane c.requires.plane_2 c.type_inv.value c.type_inv.unknown) }
