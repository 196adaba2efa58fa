-- Exactly one rule fits two vectors, the one that is told (`one-fits`).
use mathlib.Core.Path.{◌≡◌, refl, sym, ap, ap₂, ◌∙◌}
use mathlib.Core.Bool.{Bool, true, false, not, ◌&&◌, ◌||◌, cond}
use mathlib.Core.List.{List, [], ◌∷◌}
use Prim.Native.Nat.{ℕ, zero, suc, ◌<◌, suc-le-suc}
use native.Mathlib.Nat.{zero-lt-suc, le_of_suc-le-suc}
use native.Mathlib.Omega.{arith}
use borrow.Author.Tests.{not-false}
use lib.ListN.{length, get_or}
use Rattle.bit.specs.declared.LogicBit.{LogicBit}
use Rattle.bit.specs.declared.LogicBit.TheVariants.{Zero, One, X, Z}
use Rattle.bit.specs.Rules.{same, known}
use Rattle.bit.proofs.Tests.{or-false, and_none}
use Rattle.words.proofs.Planes.{length-tabulate, get_d_tabulate}
use Rattle.value.specs.Checks.{Vector}
use Rattle.reduce_words.specs.Fold.{any_of}
use Rattle.extension.specs.Extension.{larger_width, operand_at}
use Rattle.compare_words.specs.Compared.{on_pair, places, lowest}
use Rattle.compare_words.proofs.Places.{zeros, Clear, none-clear, lowest-at}
use Rattle.decide.specs.declared.Rule.{Rule}
use Rattle.decide.specs.declared.Rule.TheVariants.{KnownMismatch, Unknown, AllEqual, Numeric}
use Rattle.decide.specs.Rule.{differs, holds_unknown, rule_of, passes, NoPlace, LowestPlace, Fits, OneFits}

no : {A : Type 0} → false ≡ true → A
no h = let z : ◌≡◌ {A = ℕ} 0 1 = cc in absurd (omega arith)

-- ---- the lowest member that passes

module _ {A : Type 0} (p : A → Bool) (e : A) where
  -- none passes
  clear : (bs : List A) → any_of p bs ≡ false → Clear p e bs (length bs)
  clear [] h i l = absurd (omega arith)
  clear (b ∷ bs) h zero l = (or-false (p b) (any_of p bs) h).0
  clear (b ∷ bs) h (suc i) l = clear bs (or-false (p b) (any_of p bs) h).1 i (le_of_suc-le-suc l)

  -- one passes, and none before it does
  record Lowest (bs : List A) (i : ℕ) : Type 0 where
    inside : i < length bs
    holds : p (get_or bs i e) ≡ true
    none : Clear p e bs i

  lowest-of : (bs : List A) → any_of p bs ≡ true → Lowest bs (lowest p bs)
  lowest-of [] h = no h
  lowest-of (b ∷ bs) h = go (p b) refl h (lowest-of bs)
    where
      go : (z : Bool) → p b ≡ z → (z || any_of p bs) ≡ true → (any_of p bs ≡ true → Lowest bs (lowest p bs))
          → Lowest (b ∷ bs) (cond z 0 (suc (lowest p bs)))
      go true q h r = record { inside = zero-lt-suc (length bs); holds = q; none = λ j l. absurd (omega arith) }
      go false q h r =
          let s = r h in
          record { inside = suc-le-suc s.inside; holds = s.holds; none = λ j l. below q s j l }
        where
          below : p b ≡ false → Lowest bs (lowest p bs) → (j : ℕ) → j < suc (lowest p bs) → p (get_or (b ∷ bs) j e) ≡ false
          below q s zero l = q
          below q s (suc j) l = s.none j (le_of_suc-le-suc l)

-- ---- one place

-- compared, it holds no two different known bits and no unknown one: its bits are known and the same
equal-place : (c p q s : Bool) → (c && p && q && not s) ≡ false → (c && not (p && q)) ≡ false → c ≡ true → (p && s) ≡ true
equal-place false p q s d u t = no t
equal-place true false q s d u t = no (sym u)
equal-place true true false s d u t = no (sym u)
equal-place true true true s d u t = not-false s d

same_known : (x y : LogicBit) → (known x && same x y) ≡ true → ((known x && known y && not (same x y)) ≡ false) × (not (known x && known y) ≡ false)
same_known Zero Zero h = (refl, refl)
same_known Zero One h = no h
same_known Zero X h = no h
same_known Zero Z h = no h
same_known One Zero h = no h
same_known One One h = (refl, refl)
same_known One X h = no h
same_known One Z h = no h
same_known X y h = no h
same_known Z y h = no h

neither : (c : Bool) (x y : LogicBit) → (c ≡ true → (known x && same x y) ≡ true)
    → ((c && known x && known y && not (same x y)) ≡ false) × ((c && not (known x && known y)) ≡ false)
neither false x y h = (refl, refl)
neither true x y h = same_known x y (h refl)

-- ---- all places

module _ (a b : Vector) where
  abbrev width : ℕ
  width = larger_width a.header b.header

  abbrev pair : ℕ → LogicBit × LogicBit
  pair i = (operand_at a b.header i, operand_at b a.header i)

  module _ (t : LogicBit → LogicBit → Bool) where
    at_place : (i : ℕ) → i < width → on_pair t (get_or (places a b) i zeros) ≡ passes a b t i
    at_place i l = ap (on_pair t) (get_d_tabulate width pair i zeros l)

    no_place : any_of (on_pair t) (places a b) ≡ false → NoPlace a b t
    no_place h i l = sym (at_place i l) ∙ clear (on_pair t) zeros (places a b) h i (rw (length-tabulate width pair) l)

    lowest-place : any_of (on_pair t) (places a b) ≡ true → LowestPlace a b t (lowest (on_pair t) (places a b))
    lowest-place h =
        let s = lowest-of (on_pair t) zeros (places a b) h in
        let l : lowest (on_pair t) (places a b) < width = rw (length-tabulate width pair) at s.inside in
        record { inside = l; holds = sym (at_place _ l) ∙ s.holds; none_lower = λ j k. sym (at_place j (omega (arith, k, l))) ∙ s.none j k }

    none-there : NoPlace a b t → any_of (on_pair t) (places a b) ≡ false
    none-there h =
        none-clear (on_pair t) zeros (places a b)
        (λ i l. let k : i < width = rw (length-tabulate width pair) at l in at_place i k ∙ h i k)

    lowest-there : t Zero Zero ≡ false → (i : ℕ) → LowestPlace a b t i
        → (any_of (on_pair t) (places a b) ≡ true) × (lowest (on_pair t) (places a b) ≡ i)
    lowest-there fails i s =
        lowest-at (on_pair t) zeros fails (places a b) i
        (λ j l. at_place j (omega (arith, l, s.inside)) ∙ s.none_lower j l) (at_place i s.inside ∙ s.holds)

module _ (compares : LogicBit → LogicBit → Bool) (a b : Vector) where
  abbrev told : Bool → ℕ → Bool → ℕ → Rule
  told m i d j = cond m (KnownMismatch i) (cond d (Unknown j) AllEqual)

  fits : Fits compares a b (rule_of compares a b)
  fits = go (any_of (on_pair (differs compares)) (places a b)) refl (any_of (on_pair (holds_unknown compares)) (places a b)) refl
    where
      go : (m : Bool) → any_of (on_pair (differs compares)) (places a b) ≡ m → (d : Bool) → any_of (on_pair (holds_unknown compares)) (places a b) ≡ d
          → Fits compares a b (told m (lowest (on_pair (differs compares)) (places a b)) d (lowest (on_pair (holds_unknown compares)) (places a b)))
      go true h d k = lowest-place a b (differs compares) h
      go false h true k = (no_place a b (differs compares) h, lowest-place a b (holds_unknown compares) k)
      go false h false k =
          λ i l c. equal-place (passes a b compares i) (known (pair a b i).0) (known (pair a b i).1) (same (pair a b i).0 (pair a b i).1)
          (no_place a b (differs compares) h i l) (no_place a b (holds_unknown compares) k i l) c

  differ-fails : differs compares Zero Zero ≡ false
  differ-fails = and_none (compares Zero Zero && true && true)

  unknown-fails : holds_unknown compares Zero Zero ≡ false
  unknown-fails = and_none (compares Zero Zero)

  alone : (r : Rule) → Fits compares a b r → r ≡ rule_of compares a b
  alone (KnownMismatch i) f =
      let s = lowest-there a b (differs compares) differ-fails i f in
      sym (ap₂ (λ (m : Bool) (n : ℕ). told m n (any_of (on_pair (holds_unknown compares)) (places a b)) (lowest (on_pair (holds_unknown compares)) (places a b)))
      s.0 s.1)
  alone (Unknown i) f =
      let s = lowest-there a b (holds_unknown compares) unknown-fails i f.1 in
      sym (ap₂ (λ (m d : Bool). told m (lowest (on_pair (differs compares)) (places a b)) d (lowest (on_pair (holds_unknown compares)) (places a b)))
      (none-there a b (differs compares) f.0) s.0 ∙ ap (λ (n : ℕ). Unknown n) s.1)
  alone AllEqual f =
      let n : (i : ℕ) → i < width a b → (passes a b (differs compares) i ≡ false) × (passes a b (holds_unknown compares) i ≡ false) =
      λ i l. neither (passes a b compares i) (pair a b i).0 (pair a b i).1 (f i l) in
      sym (ap₂ (λ (m d : Bool). told m (lowest (on_pair (differs compares)) (places a b)) d (lowest (on_pair (holds_unknown compares)) (places a b)))
      (none-there a b (differs compares) (λ i l. (n i l).0)) (none-there a b (holds_unknown compares) (λ i l. (n i l).1)))
  alone Numeric f = absurd f

pub one-fits : OneFits
one-fits compares a b = record { fitting = fits compares a b; alone = alone compares a b }
