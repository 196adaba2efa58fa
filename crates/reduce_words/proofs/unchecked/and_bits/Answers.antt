-- `reduce_words::unchecked::and_bits`: words below the width are scanned whole, the last one is cut off at the width.
use mathlib.Core.Path.{◌≡◌, sym, ap, ◌∙◌}
use mathlib.Core.Bool.{Bool, true, false, not}
use mathlib.Core.List.{List}
use Prim.Native.Nat.{ℕ, ◌+◌, ◌-◌, ◌*◌, ◌^◌, ◌≤◌, ◌<◌, min}
use native.Mathlib.Omega.{arith}
use borrow.Author.Tests.{eq-eqb, ne_eqb}
use lib.Bits.{bit_and, bit_or}
use lib.ListN.{length, get_or}
use Rattle.bit.specs.declared.LogicBit.TheVariants.{Zero}
use Rattle.bit.specs.Rules.{not_bit}
use Rattle.words.specs.Planes.{from_planes, lent, complement, Plane}
use Rattle.words.proofs.Planes.{length-tabulate}
use Rattle.reduce_words.specs.declared.Truth.{Truth}
use Rattle.reduce_words.specs.declared.Truth.TheVariants.{True}
use Rattle.reduce_words.specs.Fold.{contains, reduce_and, truth_bit, not_zero}
use Rattle.reduce_words.proofs.Folds.{contains-and}
use Rattle.reduce_words.proofs.Places.{lent-planes}
use Rattle.reduce_words.proofs.ByWords.{told, known_zeros, zeros-cut, zeros-whole, zeros-by-words}
use Rattle.reduce_words.proofs.Scan.{left, found, more, end}
use Rattle.reduce_words.proofs.unchecked.and_bits.Goals as goal

-- behind k words, with the invariant
module _ (w : ℕ) (v u : List ℕ) (seen k : ℕ) (i : contains Zero (from_planes w v u) ≡ left (known_zeros w (lent v u)) u seen k) where
  abbrev zeros : List ℕ
  zeros = known_zeros w (lent v u)

  -- what is told, as a bit
  answer : (t : Truth) → left zeros u seen k ≡ t → not_bit (truth_bit t) ≡ reduce_and (from_planes w v u)
  answer t e = ap (λ (t : Truth). not_bit (truth_bit t)) (sym (i ∙ e)) ∙ contains-and (from_planes w v u)

  -- the known zeros of word k
  module _ (l : k < length v) (m : k < length u) (x : ℕ) (marks : get_or zeros k 0 ≡ x) where
    long : k < length zeros
    long = rw length-tabulate l

    zero-found : (x ≡ 0 → ⊥) → Zero ≡ reduce_and (from_planes w v u)
    zero-found z = answer True (found zeros u seen k long m (λ y. z (sym marks ∙ y)))

    zero-more : x ≡ 0 → contains Zero (from_planes w v u) ≡ left zeros u (bit_or seen (get_or u k 0)) (k + 1)
    zero-more z = i ∙ more zeros u seen k long m (marks ∙ z)

  all-scanned : length v ≤ k → length u ≤ k → (z : Bool) → not_zero seen ≡ z → not_bit (truth_bit (told false z)) ≡ reduce_and (from_planes w v u)
  all-scanned l m z e = answer (told false z) (end zeros u seen k (rw length-tabulate l) m z e)

-- behind the loop, at the last word: m is cut off at the width
module _ (w : ℕ) (v u : List ℕ) (seen k : ℕ) (i : contains Zero (from_planes w v u) ≡ left (known_zeros w (lent v u)) u seen k)
    (l : length v - 1 ≤ k) (n : k ≤ length v - 1) (p : Plane w v) (q : Plane w u) (m : ℕ) (cut : m ≡ 2 ^ (w - (length v - 1) * 64) - 1) where
  abbrev last : ℕ
  last = length v - 1

  -- the known zeros of the last word
  abbrev marks_left : ℕ
  marks_left = bit_and (complement (bit_or (get_or v last 0) (get_or u last 0))) m

  top-marks : get_or (known_zeros w (lent v u)) last 0 ≡ marks_left
  top-marks =
      let e : w - last * 64 ≡ min 64 (w - last * 64) = omega (arith, p.count) in
      zeros-cut w v u last (omega (arith, p.count)) m (cut ∙ ap (λ (n : ℕ). 2 ^ n - 1) e)

  left-to-tell : contains Zero (from_planes w v u) ≡ left (known_zeros w (lent v u)) u seen last
  left-to-tell = let e : k ≡ last = omega arith in i ∙ ap (left (known_zeros w (lent v u)) u seen) e

  last-found : (marks_left ≡ 0 → ⊥) → Zero ≡ reduce_and (from_planes w v u)
  last-found = zero-found w v u seen last left-to-tell (omega (arith, p.count)) (omega (arith, p.count, q.count)) marks_left top-marks

  none-found : marks_left ≡ 0 → (z : Bool) → not_zero (bit_or seen (get_or u last 0)) ≡ z → not_bit (truth_bit (told false z)) ≡ reduce_and (from_planes w v u)
  none-found e =
      all-scanned w v u (bit_or seen (get_or u last 0)) (last + 1)
      (zero-more w v u seen last left-to-tell (omega (arith, p.count)) (omega (arith, p.count, q.count)) marks_left top-marks e)
      (omega arith) (omega (arith, p.count, q.count))

pub loop-k-init : goal.loop-k-init
loop-k-init c = sym (zeros-by-words _ _ _ (lent-planes c.requires.plane c.requires.plane_2 c.type_inv.value c.type_inv.unknown))

pub returns-then-value-k-ne0 : goal.returns-then-value-k-ne0
returns-then-value-k-ne0 c =
    zero-found _ _ _ _ _ c.loop-k.invariant (omega arith) (omega arith) _ (zeros-whole _ _ _ _ (omega arith) (omega arith)) c.if-value-k-ne0.true

pub loop-k-preserved : goal.loop-k-preserved
loop-k-preserved c =
    zero-more _ _ _ _ _ c.loop-k.invariant (omega arith) (omega arith) _ (zeros-whole _ _ _ _ (omega arith) (omega arith)) c.if-value-k-ne0.false

pub returns-then-value-last-ne0 : goal.returns-then-value-last-ne0
returns-then-value-last-ne0 c =
    last-found _ _ _ _ _ c.loop-k.invariant c.loop-k-test.false c.loop-k.auto.k-end c.requires.plane c.requires.plane_2 _ c.ones-m.ensures
    c.if-value-last-ne0.true

pub returns-then-seen-u-ne0 : goal.returns-then-seen-u-ne0
returns-then-seen-u-ne0 c =
    none-found _ _ _ _ _ c.loop-k.invariant c.loop-k-test.false c.loop-k.auto.k-end c.requires.plane c.requires.plane_2 _ c.ones-m.ensures
    c.if-value-last-ne0.false true (ap not (ne_eqb _ _ c.if-seen-u-ne0.true))

pub returns : goal.returns
returns c =
    none-found _ _ _ _ _ c.loop-k.invariant c.loop-k-test.false c.loop-k.auto.k-end c.requires.plane c.requires.plane_2 _ c.ones-m.ensures
    c.if-value-last-ne0.false false (ap not (eq-eqb _ _ c.if-seen-u-ne0.false))
