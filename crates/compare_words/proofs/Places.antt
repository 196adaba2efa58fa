-- Two operands place by place.
--     zero-apart, zero-unsure     two zeros neither mismatch nor leave the answer open
--     one_apart, one-unsure       nor do two ones
--     answer_found                what a scan finds gives the answer
--     none-clear, lowest-at       no member passes a test; one passes, and none before it does
--     found_at                    what is found where a place mismatches and none below it does
--     found-open, found-same      what is found where the scan ends without a mismatch: the lowest unsure place; none
--     stands-inside               the lowest unsure place is one of the list
--     equal-and                   equality is the and-reduction of the places, each by whether its bits are the same
use mathlib.Core.Path.{◌≡◌, refl, sym, ap, ap₂, ◌∙◌}
use mathlib.Core.Logic.{⊎_elim}
use mathlib.Core.Bool.{Bool, true, false, not, ◌||◌, cond}
use mathlib.Core.List.{List, [], ◌∷◌}
use Prim.Native.Nat.{ℕ, zero, suc, ◌+◌, ◌*◌, ◌≤◌, ◌<◌, suc-le-suc}
use native.Mathlib.Nat.{zero-lt-suc}
use native.Mathlib.Omega.{arith}
use lib.Count.{count_trailing_zeros}
use lib.Dec.{eqb}
use lib.ListN.{length, get_or, get_or-eq_default}
use Rattle.bit.specs.declared.LogicBit.{LogicBit}
use Rattle.bit.specs.declared.LogicBit.TheVariants.{Zero, One, X, Z}
use Rattle.bit.specs.Rules.{same, not_bit, xor_bit}
use Rattle.words.specs.Vector.{tabulate}
use Rattle.words.proofs.Digits.{lt-or-ge}
use Rattle.value.specs.Checks.{Vector}
use Rattle.reduce_words.specs.Fold.{any_of, is_unknown, reduce_and}
use Rattle.reduce_words.proofs.Gather.{gather_cong}
use Rattle.reduce_words.proofs.Places.{any-tabulate}
use Rattle.extension.specs.Extension.{larger_width, operand_at}
use Rattle.compare_words.specs.declared.Comparison.{Comparison}
use Rattle.compare_words.specs.declared.Comparison.TheVariants.{Equal, CaseEqual, CasezEqual, CasexEqual, WildcardEqual}
use Rattle.compare_words.specs.declared.Found.TheVariants.{Mismatch, Unsure, Same}
use Rattle.compare_words.specs.Compared.{mismatch, unsure, on_pair, decided, compared, lowest, found, found_bit}

-- what stands at each place beyond the width
abbrev pub zeros : LogicBit × LogicBit
zeros = (Zero, Zero)

-- two zeros, and two ones
alike : (op : Comparison)
    → (mismatch op Zero Zero ≡ false) × (unsure op Zero Zero ≡ false) × (mismatch op One One ≡ false) × (unsure op One One ≡ false)
alike Equal = (refl, refl, refl, refl)
alike CaseEqual = (refl, refl, refl, refl)
alike CasezEqual = (refl, refl, refl, refl)
alike CasexEqual = (refl, refl, refl, refl)
alike WildcardEqual = (refl, refl, refl, refl)

module _ (op : Comparison) where
  pub zero-apart : mismatch op Zero Zero ≡ false
  zero-apart = (alike op).0

  pub zero-unsure : unsure op Zero Zero ≡ false
  zero-unsure = (alike op).1

  pub one_apart : mismatch op One One ≡ false
  one_apart = (alike op).2

  pub one-unsure : unsure op One One ≡ false
  one-unsure = (alike op).3

-- ---- what a scan finds

pub answer_found : (op : Comparison) (ps : List (LogicBit × LogicBit)) → found_bit (found op ps) ≡ decided op ps
answer_found op ps = go (any_of (on_pair (mismatch op)) ps) (any_of (on_pair (unsure op)) ps)
  where
    go : (m d : Bool)
        → found_bit (cond m (Mismatch (lowest (on_pair (mismatch op)) ps)) (cond d (Unsure (lowest (on_pair (unsure op)) ps)) Same)) ≡ cond m Zero (cond d X One)
    go true d = refl
    go false true = refl
    go false false = refl

module _ {A : Type 0} (p : A → Bool) (e : A) where
  -- none of the first n members passes; beyond its end the list is continued by e
  abbrev pub Clear : List A → ℕ → Type 0
  Clear bs n = (i : ℕ) → i < n → p (get_or bs i e) ≡ false

  pub none-clear : (bs : List A) → Clear bs (length bs) → any_of p bs ≡ false
  none-clear [] h = refl
  none-clear (b ∷ bs) h = ap₂ ◌||◌ (h 0 (zero-lt-suc (length bs))) (none-clear bs (λ i l. h (suc i) (suc-le-suc l)))

  -- a member that passes, with none before it, is the lowest
  pub lowest-at : p e ≡ false → (bs : List A) (i : ℕ) → Clear bs i → p (get_or bs i e) ≡ true → (any_of p bs ≡ true) × (lowest p bs ≡ i)
  lowest-at fails [] i h t = let z : ◌≡◌ {A = ℕ} 0 1 = cc in absurd (omega arith)
  lowest-at fails (b ∷ bs) zero h t = (ap (λ (z : Bool). z || any_of p bs) t, ap (λ (z : Bool). cond z 0 (suc (lowest p bs))) t)
  lowest-at fails (b ∷ bs) (suc i) h t =
      let first = h 0 (zero-lt-suc i) in
      let r = lowest-at fails bs i (λ j l. h (suc j) (suc-le-suc l)) t in
      (ap₂ ◌||◌ first r.0, ap₂ (λ (z : Bool) (n : ℕ). cond z 0 (suc n)) first r.1)

turned : {A : Type 0} (x y : A) (z : Bool) → cond (not z) x y ≡ cond z y x
turned x y true = refl
turned x y false = refl

-- 0 on a mismatch, else x where a place is unsure, else 1
abbrev pub answered : Bool → ℕ → LogicBit
answered m d = cond m Zero (cond (eqb d 0) One X)

module _ (op : Comparison) (ps : List (LogicBit × LogicBit)) where
  pub by_tests : (m : Bool) (d : ℕ) → any_of (on_pair (mismatch op)) ps ≡ m → any_of (on_pair (unsure op)) ps ≡ not (eqb d 0)
      → answered m d ≡ decided op ps
  by_tests m d hm hd = sym (ap₂ (λ (x y : Bool). cond x Zero (cond y X One)) hm hd ∙ ap (λ (x : LogicBit). cond m Zero x) (turned X One (eqb d 0)))

  -- what a scan by words knows behind k words: no place there mismatches; if `doubt` is 0, none there is unsure, and if not, the lowest one that is has
  -- the place of the lowest one of `first` in word `at`
  pub record Scanned (doubt first at k : ℕ) : Type 0 where
    pub apart : Clear (on_pair (mismatch op)) zeros ps (k * 64)
    pub sure : doubt ≡ 0 → Clear (on_pair (unsure op)) zeros ps (k * 64)
    pub below : (doubt ≡ 0 → ⊥) → Clear (on_pair (unsure op)) zeros ps (at * 64 + count_trailing_zeros 64 first)
    pub stands : (doubt ≡ 0 → ⊥) → on_pair (unsure op) (get_or ps (at * 64 + count_trailing_zeros 64 first) zeros) ≡ true

  pub found_at : (i : ℕ) → Clear (on_pair (mismatch op)) zeros ps i → on_pair (mismatch op) (get_or ps i zeros) ≡ true → Mismatch i ≡ found op ps
  found_at i h t =
      let r = lowest-at (on_pair (mismatch op)) zeros (zero-apart op) ps i h t in
      sym (ap₂ (λ (m : Bool) (n : ℕ). cond m (Mismatch n) (cond (any_of (on_pair (unsure op)) ps) (Unsure (lowest (on_pair (unsure op)) ps)) Same)) r.0 r.1)

  -- an unsure place is one of the list
  pub stands-inside : (doubt first at k : ℕ) → Scanned doubt first at k → (doubt ≡ 0 → ⊥) → at * 64 + count_trailing_zeros 64 first < length ps
  stands-inside doubt first at k s z =
      ⊎_elim (λ l. l)
      (λ l. let e : false ≡ true = sym (ap (on_pair (unsure op)) (get_or-eq_default ps zeros l) ∙ zero-unsure op) ∙ s.stands z in
      let z : ◌≡◌ {A = ℕ} 0 1 = cc in absurd (omega arith))
      (lt-or-ge (at * 64 + count_trailing_zeros 64 first) (length ps))

  module _ (doubt first at k : ℕ) (s : Scanned doubt first at k) (l : length ps ≤ k * 64) where
    told : (d : Bool) → any_of (on_pair (unsure op)) ps ≡ d → cond d (Unsure (lowest (on_pair (unsure op)) ps)) Same ≡ found op ps
    told d e =
        sym (ap₂ (λ (m d : Bool). cond m (Mismatch (lowest (on_pair (mismatch op)) ps)) (cond d (Unsure (lowest (on_pair (unsure op)) ps)) Same))
        (none-clear (on_pair (mismatch op)) zeros ps (λ i h. s.apart i (omega arith))) e)

    pub found-open : (doubt ≡ 0 → ⊥) → Unsure (at * 64 + count_trailing_zeros 64 first) ≡ found op ps
    found-open z =
        let r = lowest-at (on_pair (unsure op)) zeros (zero-unsure op) ps (at * 64 + count_trailing_zeros 64 first) (s.below z) (s.stands z) in
        ap (λ (n : ℕ). Unsure n) (sym r.1) ∙ told true r.0

    pub found-same : doubt ≡ 0 → Same ≡ found op ps
    found-same z = told false (none-clear (on_pair (unsure op)) zeros ps (λ i h. s.sure z i (omega arith)))

-- ---- equality as a reduction

same-or-x : (a b : LogicBit) → (mismatch Equal a b ≡ same Zero (not_bit (xor_bit a b))) × (unsure Equal a b ≡ is_unknown (not_bit (xor_bit a b)))
same-or-x Zero Zero = (refl, refl)
same-or-x Zero One = (refl, refl)
same-or-x Zero X = (refl, refl)
same-or-x Zero Z = (refl, refl)
same-or-x One Zero = (refl, refl)
same-or-x One One = (refl, refl)
same-or-x One X = (refl, refl)
same-or-x One Z = (refl, refl)
same-or-x X b = (refl, refl)
same-or-x Z b = (refl, refl)

module _ (n : ℕ) (f g : ℕ → LogicBit) where
  -- whether the bits of place i are the same, x if either is unknown
  abbrev alike_at : ℕ → LogicBit
  alike_at i = not_bit (xor_bit (f i) (g i))

  through : (t : LogicBit → LogicBit → Bool) (p : LogicBit → Bool) → ((i : ℕ) → t (f i) (g i) ≡ p (alike_at i))
      → any_of (on_pair t) (tabulate n (λ i. (f i, g i))) ≡ any_of p (tabulate n alike_at)
  through t p h =
      any-tabulate (on_pair t) n (λ i. (f i, g i)) ∙ gather_cong ◌||◌ false n (λ i. t (f i) (g i)) (λ i. p (alike_at i)) (λ i _. h i)
      ∙ sym (any-tabulate p n alike_at)

  pub equal-and : decided Equal (tabulate n (λ i. (f i, g i))) ≡ reduce_and (tabulate n (λ i. not_bit (xor_bit (f i) (g i))))
  equal-and =
      ap₂ (λ (x y : Bool). cond x Zero (cond y X One))
      (through (mismatch Equal) (same Zero) (λ i. (same-or-x (f i) (g i)).0))
      (through (unsure Equal) is_unknown (λ i. (same-or-x (f i) (g i)).1))

pub compared-and : (a b : Vector) → compared Equal a b
    ≡ reduce_and
    (tabulate (larger_width a.header b.header)
    (λ i. not_bit (xor_bit (operand_at a b.header i) (operand_at b a.header i))))
compared-and a b =
    equal-and (larger_width a.header b.header) (operand_at a b.header) (operand_at b a.header)
