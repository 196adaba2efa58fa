-- The reductions and truth beside each other.
--     and-fold, or-fold, xor-fold     a reduction is its single-bit rule, folded over the bits from the rule's neutral bit
--     truth_or      truth as a bit is the or-reduction
--     contains-and     whether a known 0 stands in a vector, denied, is the and-reduction
use mathlib.Core.Path.{◌≡◌, refl, sym, ap, ◌∙◌}
use mathlib.Core.Bool.{Bool, true, false, not, ◌&&◌, ◌||◌, cond}
use mathlib.Core.List.{List, [], ◌∷◌, foldr}
use Prim.Native.Nat.{ℕ, ◌+◌, ◌%◌}
use native.Mathlib.Nat.{zero-add}
use native.Mathlib.Omega.{arith}
use borrow.Author.Tests.{eq-eqb, ne_eqb, eqb-true, eqb-false}
use lib.Dec.{T, eqb}
use Rattle.bit.specs.declared.LogicBit.{LogicBit}
use Rattle.bit.specs.declared.LogicBit.TheVariants.{Zero, One, X, Z}
use Rattle.bit.specs.Rules.{same, and_bit, or_bit, xor_bit, not_bit}
use Rattle.bit.proofs.Tests.{and_left, and_right}
use Rattle.bit.proofs.Table.{all, each, same-eq}
use Rattle.reduce_words.specs.declared.Truth.TheVariants.{False, True, Unknown}
use Rattle.reduce_words.specs.Fold.{any_of, count_of, is_unknown, reduce_and, reduce_or, reduce_xor, contains, truth_of, truth_bit}

-- ---- and, or

abbrev both : (Bool → Bool) → Bool
both p = p true && p false

each-bool : (p : Bool → Bool) → T (both p) → (b : Bool) → T (p b)
each-bool p t true = and_left (p true) (p false) t
each-bool p t false = and_right (p true) (p false) t

-- the bit d if it was seen, else x if an unknown bit was, else e
abbrev decided : LogicBit → LogicBit → Bool → Bool → LogicBit
decided d e seen x = cond seen d (cond x X e)

module _ (f : LogicBit → LogicBit → LogicBit) (d e : LogicBit) where
  -- the rule, put before a vector's reduction, is the reduction with one bit more
  abbrev steps : LogicBit → Bool → Bool → Bool
  steps b seen x = same (f b (decided d e seen x)) (decided d e (same d b || seen) (is_unknown b || x))

  folded : T (all (λ b. both (λ seen. both (steps b seen)))) → (bs : List LogicBit) → decided d e (any_of (same d) bs) (any_of is_unknown bs) ≡ foldr f e bs
  folded t [] = refl
  folded t (b ∷ bs) =
      let seen : Bool = any_of (same d) bs in
      let x : Bool = any_of is_unknown bs in
      sym (same-eq (f b (decided d e seen x)) (decided d e (same d b || seen) (is_unknown b || x))
      (each-bool (steps b seen) (each-bool (λ seen. both (steps b seen)) (each (λ b. both (λ seen. both (steps b seen))) t b) seen) x))
      ∙ ap (f b) (folded t bs)

pub and-fold : (bs : List LogicBit) → reduce_and bs ≡ foldr and_bit One bs
and-fold = folded and_bit Zero One tt

pub or-fold : (bs : List LogicBit) → reduce_or bs ≡ foldr or_bit Zero bs
or-fold = folded or_bit One Zero tt

-- ---- xor

abbrev parity : Bool → ℕ → LogicBit
parity x n = cond x X (cond (eqb (n % 2) 0) Zero One)

even-suc : (n : ℕ) → eqb ((1 + n) % 2) 0 ≡ not (eqb (n % 2) 0)
even-suc n = go (eqb (n % 2) 0) refl
  where
    go : (z : Bool) → eqb (n % 2) 0 ≡ z → eqb ((1 + n) % 2) 0 ≡ not z
    go true e = let h = eqb-true (n % 2) 0 e in ne_eqb ((1 + n) % 2) 0 (λ z. omega arith)
    go false e = let h = eqb-false (n % 2) 0 e in eq-eqb ((1 + n) % 2) 0 (omega arith)

xor-known : (z : Bool) → cond z Zero One ≡ xor_bit Zero (cond z Zero One)
xor-known true = refl
xor-known false = refl

xor-one : (z : Bool) → cond (not z) Zero One ≡ xor_bit One (cond z Zero One)
xor-one true = refl
xor-one false = refl

xor_step : (b : LogicBit) (x : Bool) (n : ℕ) → parity (is_unknown b || x) (cond (same One b) 1 0 + n) ≡ xor_bit b (parity x n)
xor_step Zero true n = refl
xor_step Zero false n = simp zero-add (xor-known (eqb (n % 2) 0))
xor_step One true n = refl
xor_step One false n = ap (λ (z : Bool). cond z Zero One) (even-suc n) ∙ xor-one (eqb (n % 2) 0)
xor_step X x n = refl
xor_step Z x n = refl

pub xor-fold : (bs : List LogicBit) → reduce_xor bs ≡ foldr xor_bit Zero bs
xor-fold [] = refl
xor-fold (b ∷ bs) = xor_step b (any_of is_unknown bs) (count_of (same One) bs) ∙ ap (xor_bit b) (xor-fold bs)

-- ---- truth

pub truth_or : (bs : List LogicBit) → truth_bit (truth_of bs) ≡ reduce_or bs
truth_or bs = go (any_of (same One) bs) (any_of is_unknown bs)
  where
    go : (seen x : Bool) → truth_bit (cond seen True (cond x Unknown False)) ≡ decided One Zero seen x
    go true x = refl
    go false true = refl
    go false false = refl

pub contains-and : (bs : List LogicBit) → not_bit (truth_bit (contains Zero bs)) ≡ reduce_and bs
contains-and bs = go (any_of (same Zero) bs) (any_of is_unknown bs)
  where
    go : (seen x : Bool) → not_bit (truth_bit (cond seen True (cond x Unknown False))) ≡ decided Zero One seen x
    go true x = refl
    go false true = refl
    go false false = refl
