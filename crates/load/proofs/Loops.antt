-- What is left of a list, once its first inputs are done: the invariant of the loop.
--     even, uneven            what a test of the arenas' lengths tells
--     next_one, none_left     what a tabulated list has from a place on
--     feed-more, feed-last, feed-done     an input that is taken, one that is refused, and no input left
use mathlib.Core.Path.{◌≡◌, refl, sym, ap, ap₂, ◌∙◌, subst}
use mathlib.Core.Bool.{Bool, true, false, not, ◌&&◌}
use mathlib.Core.List.{[], ◌∷◌}
use Prim.Native.Nat.{ℕ, ◌+◌, ◌≤◌, ◌<◌}
use native.Mathlib.Numerals.{add-one}
use native.Mathlib.Omega.{arith}
use borrow.Author.Tests.{ltb-true, eqb-true, eqb-false, lt-ltb}
use lib.Dec.{ltb, eqb}
use lib.ListN.{length, drop, drop_of_length-le}
use lib.Seq.{drop-cons}
use Rattle.refusal.specs.Outcome.{Outcome, outcome}
use Rattle.refusal.specs.Outcome.Answer.{given, refused}
use Rattle.words.specs.Vector.{tabulate}
use Rattle.words.proofs.Planes.{length-tabulate, get_d_tabulate}
use Rattle.value.specs.Checks.{Vector}
use Rattle.store.specs.Store.{State}
use Rattle.load.specs.Inputs.{add_listed, add_inputs}
use Rattle.load.proofs.Turns.{inputs-done, input-turn, input_last}

-- ---- arenas of v and u words, before the first of n inputs or steps

pub even : (n v u : ℕ) → ltb 0 n && not (eqb v u) ≡ false → 0 < n → v ≡ u
even n v u h l = go (eqb v u) refl (subst (λ (b : Bool). b && not (eqb v u) ≡ false) (lt-ltb 0 n l) h)
  where
    go : (z : Bool) → eqb v u ≡ z → true && not z ≡ false → v ≡ u
    go true e h = eqb-true v u e
    go false e h = let z : ◌≡◌ {A = ℕ} 0 1 = cc in absurd (omega arith)

pub uneven : (n v u : ℕ) → ltb 0 n && not (eqb v u) ≡ true → (0 < n) × (v ≡ u → ⊥)
uneven n v u h = go (ltb 0 n) refl (eqb v u) refl h
  where
    go : (x : Bool) → ltb 0 n ≡ x → (y : Bool) → eqb v u ≡ y → x && not y ≡ true → (0 < n) × (v ≡ u → ⊥)
    go true ex false ey h = (ltb-true 0 n ex, eqb-false v u ey)
    go true ex true ey h = let z : ◌≡◌ {A = ℕ} 0 1 = cc in absurd (omega arith)
    go false ex y ey h = let z : ◌≡◌ {A = ℕ} 0 1 = cc in absurd (omega arith)

-- ---- the rest of a list

module _ {A : Type 0} (n : ℕ) (f : ℕ → A) (i : ℕ) where
  pub next_one : i < n → drop i (tabulate n f) ≡ f i ∷ drop (i + 1) (tabulate n f)
  next_one h =
      let l : i < length (tabulate n f) = omega (arith, length-tabulate n f) in
      drop-cons (tabulate n f) i (f i) l
      ∙ ap₂ (λ (x : A) (k : ℕ). x ∷ drop k (tabulate n f)) (get_d_tabulate n f i (f i) h) (sym (add-one i))

  pub none_left : n ≤ i → drop i (tabulate n f) ≡ []
  none_left h = drop_of_length-le (tabulate n f) {i = i} (omega (arith, length-tabulate n f))

-- the state s with the inputs from i on has the outcome of the state `from` with all n of them
abbrev pub Fed : (from : State) (n : ℕ) (f : ℕ → Vector) (s : State) (i : ℕ) → Type 0
Fed from n f s i = add_inputs from (tabulate n f) ≡ add_inputs s (drop i (tabulate n f))

module _ (n : ℕ) (f : ℕ → Vector) (from s : State) (i : ℕ) (h : Fed from n f s i) where
  pub feed-done : n ≤ i → outcome (given tt) s ≡ add_inputs from (tabulate n f)
  feed-done l = sym (h ∙ ap (add_inputs s) (none_left n f i l) ∙ inputs-done s)

  module _ (l : i < n) where
    onto : add_inputs from (tabulate n f) ≡ add_inputs s (f i ∷ drop (i + 1) (tabulate n f))
    onto = h ∙ ap (add_inputs s) (next_one n f i l)

    pub feed-more : (k : ℕ) (t : State) → outcome (given k) t ≡ add_listed s (f i) → Fed from n f t (i + 1)
    feed-more k t e =
        subst (λ (z : State). Fed from n f z (i + 1)) (sym (ap (λ (o : Outcome ℕ State). o.left) e))
        (onto ∙ input-turn s (f i) (drop (i + 1) (tabulate n f)) k (sym (ap (λ (o : Outcome ℕ State). o.answer) e)))

    pub feed-last : (k : ℕ) (t : State) → outcome (refused k) t ≡ add_listed s (f i) → outcome (refused k) t ≡ add_inputs from (tabulate n f)
    feed-last k t e =
        ap (λ (z : State). outcome (refused k) z) (ap (λ (o : Outcome ℕ State). o.left) e)
        ∙ sym (onto ∙ input_last s (f i) (drop (i + 1) (tabulate n f)) k (sym (ap (λ (o : Outcome ℕ State). o.answer) e)))
