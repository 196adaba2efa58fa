-- From the code's answers, which are places in the text, to the readers', which are rests of it.
--     begins, within    where the rest of the text from i on begins, and that a place is one of the text
--     place-some, place-none      what an answer that is a place says
--     line-some, line-none, line-within       what an answer with a number says
--     place-made    what is made of what was read does not change the place
use mathlib.Core.Path.{◌≡◌, refl, sym, ap}
use mathlib.Core.List.{List}
use Prim.Native.Nat.{ℕ, ◌-◌, ◌≤◌}
use native.Mathlib.Omega.{arith}
use lib.ListN.{length, drop, length-drop}
use Rattle.std.proofs.Common.{Some, None}
use Rattle.text.specs.Read.{Got, found, broken, next}
use Rattle.text.specs.Exact.{Exact}
use Rattle.text.specs.Answers.{place_in, line_in}
use Rattle.text.specs.declared.Line.{Line}
use Rattle.text.proofs.Exact.{rest_of}

pub begins : (s : List ℕ) (i : ℕ) → i ≤ length s → length s - length (drop i s) ≡ i
begins s i h = simp length-drop (omega arith)

pub within : {A : Type 0} (s : List ℕ) (g : Got A) (i : ℕ) → Some i ≡ place_in s g → i ≤ length s
within s (found a u) i e = let q : i ≡ length s - length u = cc in omega arith
within s broken i e = let z : ◌≡◌ {A = ℕ} 0 1 = cc in absurd (omega arith)

pub place-none : {A : Type 0} (s : List ℕ) (g : Got A) → None ≡ place_in s g → g ≡ broken
place-none s (found a u) e = let z : ◌≡◌ {A = ℕ} 0 1 = cc in absurd (omega arith)
place-none s broken e = refl

pub line-none : (s : List ℕ) (g : Got ℕ) → None ≡ line_in s g → g ≡ broken
line-none s (found v u) e = let z : ◌≡◌ {A = ℕ} 0 1 = cc in absurd (omega arith)
line-none s broken e = refl

pub place-made : {A B : Type 0} (s : List ℕ) (g : Got A) (b : B) → place_in s (next g (λ x. found b)) ≡ place_in s g
place-made s (found a u) b = refl
place-made s broken b = refl

module _ {A : Type 0} {r : List ℕ → Got A} {w : A → List ℕ} {P : A → Type 0} (x : Exact r w P) (s : List ℕ) (at i : ℕ) where
  pub place-some : Some i ≡ place_in s (r (drop at s)) → (a : A) × (r (drop at s) ≡ found a (drop i s))
  place-some e = go (r (drop at s)) (λ a u h. rest_of x s at a u h) e
    where
      go : (g : Got A) → ((a : A) (u : List ℕ) → g ≡ found a u → drop (length s - length u) s ≡ u) → Some i ≡ place_in s g
          → (a : A) × (g ≡ found a (drop i s))
      go (found a u) h e = let q : i ≡ length s - length u = cc in (a, rw q (ap (found a) (sym (h a u refl))))
      go broken h e = let z : ◌≡◌ {A = ℕ} 0 1 = cc in absurd (omega arith)

module _ {r : List ℕ → Got ℕ} {w : ℕ → List ℕ} {P : ℕ → Type 0} (x : Exact r w P) (s : List ℕ) (at : ℕ) (l : Line) where
  pub line-some : Some l ≡ line_in s (r (drop at s)) → r (drop at s) ≡ found l.number (drop l.next s)
  line-some e = go (r (drop at s)) (λ a u h. rest_of x s at a u h) e
    where
      go : (g : Got ℕ) → ((a : ℕ) (u : List ℕ) → g ≡ found a u → drop (length s - length u) s ≡ u) → Some l ≡ line_in s g
          → g ≡ found l.number (drop l.next s)
      go (found v u) h e =
          let q : l ≡ record { number = v; next = length s - length u } = cc in
          rw q (ap (found v) (sym (h v u refl)))
      go broken h e = let z : ◌≡◌ {A = ℕ} 0 1 = cc in absurd (omega arith)

  pub line-within : Some l ≡ line_in s (r (drop at s)) → P l.number × (l.next ≤ length s)
  line-within e = go (r (drop at s)) refl e
    where
      go : (g : Got ℕ) → r (drop at s) ≡ g → Some l ≡ line_in s g → P l.number × (l.next ≤ length s)
      go (found v u) h e =
          let q : l ≡ record { number = v; next = length s - length u } = cc in
          rw q ((x.only v (drop at s) u h).0, omega arith)
      go broken h e = let z : ◌≡◌ {A = ℕ} 0 1 = cc in absurd (omega arith)
