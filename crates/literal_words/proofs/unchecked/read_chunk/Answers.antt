-- `literal_words::unchecked::read_chunk`: what is read is a chunk, and the first turn is always made.
use mathlib.Core.Path.{◌≡◌}
use mathlib.Core.Bool.{true, ◌&&◌, ◌||◌}
use mathlib.Core.List.{List, ◌∷◌}
use Prim.Native.Nat.{ℕ, ◌+◌, ◌*◌, ◌^◌, ◌≤◌, ◌<◌}
use native.Mathlib.Nat.{mul-le-mul}
use native.Mathlib.Numerals.{add-one}
use native.Mathlib.Omega.{arith}
use lib.Arith.{digits_lt}
use lib.Dec.{ltb, leb}
use lib.ListN.{length, get_or, drop}
use lib.Seq.{drop-cons}
use borrow.Author.Tests.{ltb-true, leb-true, eq-eqb, ne_eqb}
use Rattle.bit.proofs.Tests.{and-true}
use Rattle.literal_words.specs.Digits.{is_unknown, is_underscore, digit_number}
use Rattle.literal_words.specs.Passes.{has_number, value_number, unknown_number, readable}
use Rattle.literal_words.proofs.Passes.{readable-parts, goes_over, goes-digit, has-number, value-lt, unknown-lt}
use Rattle.literal_words.proofs.unchecked.read_chunk.Invariants.{Read}
use Rattle.literal_words.proofs.unchecked.read_chunk.Goals as goal

-- what the loop's test says
test : (i n p m : ℕ) → (ltb i n && leb p m) ≡ true → m ≤ 2 ^ 28 → (i < n) × (p ≤ 2 ^ 28)
test i n p m t M = let q = and-true _ _ t in let l = leb-true p m q.1 in (ltb-true i n q.0, omega arith)

module _ {r : ℕ} {s : List ℕ} {from v u p i : ℕ} (h : Read r s from v u p i) (l : i < length s) where
  next : drop i s ≡ get_or s i 0 ∷ drop (i + 1) s
  next = rw (add-one, drop-cons s i 0)

  parts : let c = get_or s i 0 in ((ltb (digit_number c) r || (is_unknown c || is_underscore c)) ≡ true) × (readable r (drop (i + 1) s) ≡ true)
  parts = readable-parts r _ _ (rw next at h.rest)

  over : get_or s i 0 ≡ 95 → Read r s from v u p (i + 1)
  over e = let m = eq-eqb _ _ e in record {
    begun = omega (arith, h.begun);
    first = λ f. absurd (omega (arith, h.begun));
    small = h.small;
    rest = parts.1;
    to_value = goes_over r (value_number r) p v _ _ _ (rw next at h.to_value) m;
    to_unknown = goes_over r (unknown_number r) p u _ _ _ (rw next at h.to_unknown) m;
  }

  -- the next digit, d and e being what it adds to either plane
  module _ (n : get_or s i 0 ≡ 95 → ⊥) (P : p ≤ 2 ^ 28) (L : 2 ≤ r) (R : r ≤ 16)
      {d : ℕ} (D : has_number (get_or s i 0) ≡ true → d ≡ value_number r (get_or s i 0)) where
    few : p * r ≤ 2 ^ 32
    few = mul-le-mul P R

    of_digit : d ≡ value_number r (get_or s i 0)
    of_digit = D (has-number r _ R parts.0 (ne_eqb _ _ n))

    value-small : v * r + d < p * r
    value-small = digits_lt h.small.1 (rw of_digit (value-lt r _ (omega arith) parts.0 (ne_eqb _ _ n)))

    module _ {e : ℕ} (E : e ≡ unknown_number r (get_or s i 0)) where
      unknown-small : u * r + e < p * r
      unknown-small = digits_lt h.small.2 (rw E (unknown-lt r (get_or s i 0) (omega arith)))

      digit : Read r s from (v * r + d) (u * r + e) (p * r) (i + 1)
      digit = let m = ne_eqb _ _ n in record {
        begun = omega (arith, h.begun);
        first = λ f. absurd (omega (arith, h.begun));
        small = (few, value-small, unknown-small);
        rest = parts.1;
        to_value = goes-digit r (value_number r) p v _ _ _ (rw next at h.to_value) of_digit m;
        to_unknown = goes-digit r (unknown_number r) p u _ _ _ (rw next at h.to_unknown) E m;
      }

pub overflow_add-value : goal.overflow_add-value
overflow_add-value c =
    let l = c.requires.le_r in
    let t : (c.loop-i.i < length c.args.s.now) × (c.loop-i.power ≤ 2 ^ 28) = test _ _ _ _ c.loop-i-test.true (omega arith) in
    omega (
      arith,
      few c.loop-i.invariant t.0 c.if-c-ne95.true t.1 l.0 l.1 c.value_number.ensures,
      value-small c.loop-i.invariant t.0 c.if-c-ne95.true t.1 l.0 l.1 c.value_number.ensures,
    )

pub overflow_add-unknown : goal.overflow_add-unknown
overflow_add-unknown c =
    let l = c.requires.le_r in
    let t : (c.loop-i.i < length c.args.s.now) × (c.loop-i.power ≤ 2 ^ 28) = test _ _ _ _ c.loop-i-test.true (omega arith) in
    omega (
      arith,
      few c.loop-i.invariant t.0 c.if-c-ne95.true t.1 l.0 l.1 c.value_number.ensures,
      unknown-small c.loop-i.invariant t.0 c.if-c-ne95.true t.1 l.0 l.1 c.value_number.ensures c.unknown_number.ensures,
    )

pub loop-i-preserved-then-c-ne95 : goal.loop-i-preserved-then-c-ne95
loop-i-preserved-then-c-ne95 c =
    let l = c.requires.le_r in
    let t : (c.loop-i.i < length c.args.s.now) × (c.loop-i.power ≤ 2 ^ 28) = test _ _ _ _ c.loop-i-test.true (omega arith) in
    digit c.loop-i.invariant t.0 c.if-c-ne95.true t.1 l.0 l.1 c.value_number.ensures c.unknown_number.ensures

pub loop-i-preserved : goal.loop-i-preserved
loop-i-preserved c = over c.loop-i.invariant (test _ _ _ _ c.loop-i-test.true (omega arith)).0 c.if-c-ne95.false
