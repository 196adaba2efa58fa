-- What a check answers where its answer was told, and what the checks of planes, of a vector and of a pair say where they accept.
use mathlib.Core.Path.{◌≡◌, refl, sym, ap, ◌∙◌, subst}
use mathlib.Core.Bool.{Bool, true, false, ◌&&◌, cond}
use Prim.Native.Nat.{ℕ, ◌≤◌}
use native.Mathlib.Omega.{arith}
use borrow.Author.Tests.{ltb-false, eqb-true, eqb-false}
use Rattle.std.specs.Prelude.{Result}
use lib.Dec.{T, eqb, ltb}
use lib.ListN.{length}
use Rattle.refusal.specs.declared.Refusal.{Refusal}
use Rattle.refusal.specs.Outcome.{Answer, after, answer}
use Rattle.refusal.specs.Outcome.Answer.{given, refused}
use Rattle.words.specs.Planes.{word_count, clear_above, Plane, Planes}
use Rattle.words.proofs.Top.{all-clear}
use Rattle.value.specs.declared.Header.{Header}
use Rattle.value.specs.Checks.{max_width, exactly, check_lengths, check_planes, check_vector, check_pair}

pub told : {A : Type 0} {r s : Result A Refusal} {a : Answer A} → answer r ≡ a → r ≡ s → a ≡ answer s
told e t = sym e ∙ ap answer t

pub exactly-accepted : (n : ℕ) (p : Planes) (k : ℕ) → exactly n p k ≡ given tt → (length p.value ≡ n) × (length p.unknown ≡ n)
exactly-accepted n p k h = go (eqb (length p.value) n) refl (eqb (length p.unknown) n) refl h
  where
    go : (b : Bool) → eqb (length p.value) n ≡ b → (c : Bool) → eqb (length p.unknown) n ≡ c
        → ◌≡◌ {A = Answer Unit} (cond (b && c) (given tt) (refused k)) (given tt) → (length p.value ≡ n) × (length p.unknown ≡ n)
    go true eb true ec h = (eqb-true _ _ eb, eqb-true _ _ ec)
    go true _ false _ h = let z : ◌≡◌ {A = ℕ} 0 1 = cc in absurd (omega arith)
    go false _ c _ h = let z : ◌≡◌ {A = ℕ} 0 1 = cc in absurd (omega arith)

-- the width and the lengths that are accepted
pub record Lengths (w : ℕ) (p : Planes) : Type 0 where
  pub narrow : w ≤ max_width
  pub value_length : length p.value ≡ word_count w
  pub unknown_length : length p.unknown ≡ word_count w

pub lengths_accepted : (w : ℕ) (p : Planes) → check_lengths w p ≡ given tt → Lengths w p
unfolding check_lengths
lengths_accepted w p h = go (ltb max_width w) refl h
  where
    go : (a : Bool) → ltb max_width w ≡ a → ◌≡◌ {A = Answer Unit} (cond a (refused 1) (exactly (word_count w) p 2)) (given tt) → Lengths w p
    go true _ h = let z : ◌≡◌ {A = ℕ} 0 1 = cc in absurd (omega arith)
    go false e h =
        let l = exactly-accepted (word_count w) p 2 h in record { narrow = ltb-false _ _ e; value_length = l.0; unknown_length = l.1 }

-- planes that are accepted are those of a vector
pub record Checked (w : ℕ) (p : Planes) : Type 0 where
  pub narrow : w ≤ max_width
  pub value-plane : Plane w p.value
  pub unknown-plane : Plane w p.unknown

pub planes_accepted : (w : ℕ) (p : Planes) → check_planes w p ≡ given tt → Checked w p
unfolding check_planes
planes_accepted w p h = go (check_lengths w p) refl (clear_above w p.value) refl (clear_above w p.unknown) refl h
  where
    go : (a : Answer Unit) → check_lengths w p ≡ a → (b : Bool) → clear_above w p.value ≡ b → (c : Bool) → clear_above w p.unknown ≡ c
        → ◌≡◌ {A = Answer Unit} (after a (cond (b && c) (given tt) (refused 3))) (given tt) → Checked w p
    go (refused n) _ b _ c _ h = let z : ◌≡◌ {A = ℕ} 0 1 = cc in absurd (omega arith)
    go (given t) ea true eb true ec h =
        let l = lengths_accepted w p ea in
        record {
          narrow = l.narrow;
          value-plane = record { count = l.value_length; clear = all-clear w p.value (subst T (sym eb) tt) };
          unknown-plane = record { count = l.unknown_length; clear = all-clear w p.unknown (subst T (sym ec) tt) };
        }
    go (given t) _ true _ false _ h = let z : ◌≡◌ {A = ℕ} 0 1 = cc in absurd (omega arith)
    go (given t) _ false _ c _ h = let z : ◌≡◌ {A = ℕ} 0 1 = cc in absurd (omega arith)

-- planes that fit the header, and no fill of width 0
pub record Sound (h : Header) (p : Planes) : Type 0 where
  pub planes : Checked h.width p
  pub fill : h.is_fill ≡ true → h.width ≡ 0 → ⊥

pub vector_accepted : (h : Header) (p : Planes) → check_vector h p ≡ given tt → Sound h p
unfolding check_vector
vector_accepted h p a = go (check_planes h.width p) refl h.is_fill refl (eqb h.width 0) refl a
  where
    go : (x : Answer Unit) → check_planes h.width p ≡ x → (f : Bool) → h.is_fill ≡ f → (z : Bool) → eqb h.width 0 ≡ z
        → ◌≡◌ {A = Answer Unit} (after x (cond (f && z) (refused 4) (given tt))) (given tt) → Sound h p
    go (refused n) _ f _ z _ a = let e : ◌≡◌ {A = ℕ} 0 1 = cc in absurd (omega arith)
    go (given t) ex true _ true _ a = let e : ◌≡◌ {A = ℕ} 0 1 = cc in absurd (omega arith)
    go (given t) ex true _ false ez a = record { planes = planes_accepted h.width p ex; fill = λ _. eqb-false _ _ ez }
    go (given t) ex false ef z _ a =
        record { planes = planes_accepted h.width p ex; fill = λ e _. let y : true ≡ false = cc in let q : ◌≡◌ {A = ℕ} 0 1 = cc in omega arith }

pub sound-planes : {h : Header} {p : Planes} → Sound h p → Plane h.width p.value × Plane h.width p.unknown
sound-planes s = (s.planes.value-plane, s.planes.unknown-plane)

-- both operands of an accepted pair are in order
pub pair_accepted : (a : Header) (p : Planes) (b : Header) (q : Planes) → check_pair a p b q ≡ given tt → Sound a p × Sound b q
pair_accepted a p b q e = go (check_vector a p) refl e
  where
    go : (x : Answer Unit) → check_vector a p ≡ x → after x (check_vector b q) ≡ given tt → Sound a p × Sound b q
    go (refused n) _ h = let z : ◌≡◌ {A = ℕ} 0 1 = cc in absurd (omega arith)
    go (given t) ex h = (vector_accepted a p ex, vector_accepted b q h)
