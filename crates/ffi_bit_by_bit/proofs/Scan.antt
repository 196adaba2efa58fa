-- A scan of a vector for a known 1, bit by bit.
--     unknown_code                   the code of a bit that is x or z
--     start                          no bit read yet
--     more_zero, more_unknown        one more, which is 0, or x or z
--     found, done                    a known 1 is read; all bits are read
use mathlib.Core.Path.{◌≡◌, refl, sym, ap, ap₂, ◌∙◌, subst}
use mathlib.Core.Logic.{◌⊎◌, ⊎_elim}
use mathlib.Core.Bool.{Bool, true, false, ◌||◌, cond, or_assoc}
use mathlib.Core.List.{List}
use Prim.Native.Nat.{ℕ, ◌+◌, ◌≤◌, ◌<◌}
use native.Mathlib.Nat.{add-zero}
use native.Mathlib.Omega.{arith}
use lib.ListN.{length}
use Rattle.bit.specs.declared.LogicBit.{LogicBit}
use Rattle.bit.specs.declared.LogicBit.TheVariants.{Zero, One, X, Z}
use Rattle.bit.specs.Rules.{code, same}
use Rattle.bit.proofs.Tests.{or-none, or-all}
use Rattle.words.specs.Vector.{at}
use Rattle.reduce_words.specs.declared.Truth.TheVariants.{False, True, Unknown}
use Rattle.reduce_words.specs.Fold.{any_of, is_unknown, truth_of}
use Rattle.reduce_words.proofs.Gather.{gather, some, gather-add}
use Rattle.reduce_words.proofs.Places.{any_some, any_found}

pub unknown_code : {b : LogicBit} → (b ≡ X) ⊎ (b ≡ Z) → 1 < code b
unknown_code e = ⊎_elim (λ x. rw x (omega arith)) (λ z. rw z (omega arith)) e

some_more : (i : ℕ) (f : ℕ → Bool) → some (i + 1) f ≡ (some i f || f i)
unfolding gather
some_more i f = gather-add ◌||◌ false (λ b. refl) or_assoc i 1 f ∙ ap (λ (x : Bool). some i f || x) (or-none (f (i + 0)) ∙ ap f (add-zero i))

module _ (bs : List LogicBit) where
  -- what is known of the bits below i: none is a known 1, and whether one is unknown was seen
  pub record Read (seen : Bool) (i : ℕ) : Type 0 where
    pub absent : some i (λ j. same One (at bs j)) ≡ false
    pub told : seen ≡ some i (λ j. is_unknown (at bs j))

  pub start : Read false 0
  unfolding gather
  start = record { absent = refl; told = refl }

  module _ {seen : Bool} {i : ℕ} (r : Read seen i) where
    more : (b : LogicBit) → at bs i ≡ b → same One b ≡ false → Read (seen || is_unknown b) (i + 1)
    more b e other = record {
      absent = some_more i (λ j. same One (at bs j)) ∙ ap₂ ◌||◌ r.absent (ap (same One) e ∙ other);
      told = ap₂ ◌||◌ r.told (sym (ap is_unknown e)) ∙ sym (some_more i (λ j. is_unknown (at bs j)));
    }

    pub more_zero : at bs i ≡ Zero → Read seen (i + 1)
    more_zero e = subst (λ (s : Bool). Read s (i + 1)) (or-none seen) (more Zero e refl)

    pub more_unknown : (at bs i ≡ X) ⊎ (at bs i ≡ Z) → Read true (i + 1)
    more_unknown e = subst (λ (s : Bool). Read s (i + 1)) (or-all seen) (⊎_elim (λ x. more X x refl) (λ z. more Z z refl) e)

    pub found : at bs i ≡ One → True ≡ truth_of bs
    found e =
        let h : any_of (same One) bs ≡ true =
        any_found (same One) Zero refl bs (i + 1) (some_more i (λ j. same One (at bs j)) ∙ ap₂ ◌||◌ r.absent (ap (same One) e)) in
        rw h

    pub done : length bs ≤ i → (x : Bool) → seen ≡ x → cond x Unknown False ≡ truth_of bs
    done l x e =
        let h : any_of (same One) bs ≡ false = any_some (same One) Zero refl bs i l ∙ r.absent in
        let u : any_of is_unknown bs ≡ x = any_some is_unknown Zero refl bs i l ∙ sym r.told ∙ e in
        rw (h, u)
