-- What the scan finds of two vectors tells the rule.
--     equal_told, wildcard_told    as the definitions have it
--     equal-goes, wildcard-goes    the bit goes with the rule
use mathlib.Core.Path.{◌≡◌, refl, sym, ap₂, ◌∙◌}
use mathlib.Core.Bool.{Bool, true, false, not, ◌&&◌, cond}
use Prim.Native.Nat.{ℕ}
use Rattle.bit.specs.declared.LogicBit.{LogicBit}
use Rattle.bit.specs.Rules.{same, known}
use Rattle.value.specs.Checks.{Vector}
use Rattle.reduce_words.specs.Fold.{any_of}
use Rattle.compare_words.specs.declared.Comparison.{Comparison}
use Rattle.compare_words.specs.declared.Comparison.TheVariants.{Equal, WildcardEqual}
use Rattle.compare_words.specs.declared.Found.{Found}
use Rattle.compare_words.specs.declared.Found.TheVariants.{Mismatch, Unsure, Same}
use Rattle.compare_words.specs.Compared.{mismatch, unsure, on_pair, places, compared, lowest, found, found_bit}
use Rattle.compare_words.proofs.Places.{answer_found}
use Rattle.decide.specs.declared.Rule.TheVariants.{KnownMismatch, Unknown, AllEqual}
use Rattle.decide.specs.Rule.{every_place, right_known, differs, holds_unknown, rule_of, GoesWith}
use Rattle.decide.specs.Decide.{found_rule}

goes : (f : Found) → GoesWith (found_rule f) (found_bit f)
goes (Mismatch i) = refl
goes (Unsure i) = refl
goes Same = refl

-- tests that agree on all pairs of bits are one test
as_one : {t s : LogicBit → LogicBit → Bool} → ((x y : LogicBit) → t x y ≡ s x y) → t ≡ s
as_one h = λ i x y. h x y i

differ-right : (p q s : Bool) → (p && q && s) ≡ (q && p && q && s)
differ-right true true s = refl
differ-right true false s = refl
differ-right false true s = refl
differ-right false false s = refl

unknown-right : (p q : Bool) → (q && not p) ≡ (q && not (p && q))
unknown-right true true = refl
unknown-right true false = refl
unknown-right false true = refl
unknown-right false false = refl

module _ (op : Comparison) (compares : LogicBit → LogicBit → Bool)
    (m : mismatch op ≡ differs compares) (u : unsure op ≡ holds_unknown compares) (a b : Vector) where
  rule-scanned : found_rule (found op (places a b)) ≡ rule_of compares a b
  rule-scanned =
      go (any_of (on_pair (mismatch op)) (places a b)) (any_of (on_pair (unsure op)) (places a b))
      ∙ ap₂ (λ (m u : LogicBit → LogicBit → Bool).
      cond (any_of (on_pair m) (places a b)) (KnownMismatch (lowest (on_pair m) (places a b)))
      (cond (any_of (on_pair u) (places a b)) (Unknown (lowest (on_pair u) (places a b))) AllEqual)) m u
    where
      i : ℕ
      i = lowest (on_pair (mismatch op)) (places a b)

      j : ℕ
      j = lowest (on_pair (unsure op)) (places a b)

      go : (m d : Bool) → found_rule (cond m (Mismatch i) (cond d (Unsure j) Same)) ≡ cond m (KnownMismatch i) (cond d (Unknown j) AllEqual)
      go true d = refl
      go false true = refl
      go false false = refl

  goes_with : GoesWith (rule_of compares a b) (compared op a b)
  goes_with = rw (sym rule-scanned, sym (answer_found op (places a b))) (goes (found op (places a b)))

differ-known : mismatch WildcardEqual ≡ differs right_known
differ-known = as_one (λ x y. differ-right (known x) (known y) (not (same x y)))

unknown-known : unsure WildcardEqual ≡ holds_unknown right_known
unknown-known = as_one (λ x y. unknown-right (known x) (known y))

module _ (a b : Vector) where
  pub equal_told : found_rule (found Equal (places a b)) ≡ rule_of every_place a b
  equal_told = rule-scanned Equal every_place refl refl a b

  pub equal-goes : GoesWith (rule_of every_place a b) (compared Equal a b)
  equal-goes = goes_with Equal every_place refl refl a b

  pub wildcard_told : found_rule (found WildcardEqual (places a b)) ≡ rule_of right_known a b
  wildcard_told = rule-scanned WildcardEqual right_known differ-known unknown-known a b

  pub wildcard-goes : GoesWith (rule_of right_known a b) (compared WildcardEqual a b)
  wildcard-goes = goes_with WildcardEqual right_known differ-known unknown-known a b
