-- Exact readers made of exact readers.
--     key-exact, key-append     the bytes of a key, also of a key in two parts
--     next-exact, made-exact    a reader behind another, and the value that is made of what was read
--     limit-exact   the same limits in other words
--     after-key     a reader behind a key
--     many-exact    several values, one behind the other
--     rest_of       what a reader leaves is a rest of the text, and begins where the lengths say
use mathlib.Core.Path.{◌≡◌, refl, sym, ap, ◌∙◌, subst, subst⁻¹}
use mathlib.Core.Bool.{Bool, true, false}
use mathlib.Core.List.{List, [], ◌∷◌, ◌++◌, append_assoc}
use Prim.Native.Nat.{ℕ, zero, suc, ◌-◌}
use native.Mathlib.Omega.{arith}
use lib.Dec.{eqb}
use lib.ListN.{length, take, drop, length-append, take-append-drop}
use lib.Seq.{drop_at}
use borrow.Author.Tests.{eq-eqb, eqb-true}
use Rattle.text.specs.Read.{Got, found, broken, only_if, next, many, key}
use Rattle.text.specs.Write.{texts}
use Rattle.text.specs.Exact.{Exact, All}

-- ---- what was found

pub when-found : {A : Type 0} (b : Bool) (g : Got A) (a : A) (u : List ℕ) → only_if b g ≡ found a u → (b ≡ true) × (g ≡ found a u)
when-found true g a u h = (refl, h)
when-found false g a u h = let z : ◌≡◌ {A = ℕ} 0 1 = cc in absurd (omega arith)

pub next-found : {A B : Type 0} (g : Got A) (f : A → List ℕ → Got B) (b : B) (u : List ℕ) → next g f ≡ found b u
    → (a : A) × (t : List ℕ) × (g ≡ found a t) × (f a t ≡ found b u)
next-found (found a t) f b u h = (a, t, refl, h)
next-found broken f b u h = let z : ◌≡◌ {A = ℕ} 0 1 = cc in absurd (omega arith)

-- ---- a key

pub key-only : (k t u : List ℕ) (x : Unit {0}) → key k t ≡ found x u → t ≡ k ++ u
unfolding key
key-only [] t u x h = cc
key-only (k ∷ ks) [] u x h = let z : ◌≡◌ {A = ℕ} 0 1 = cc in absurd (omega arith)
key-only (k ∷ ks) (c ∷ t) u x h =
    let b = when-found (eqb c k) (key ks t) x u h in
    let r = key-only ks t u x b.1 in
    let e = eqb-true c k b.0 in
    cc (e, r)

key-accepts : (k t : List ℕ) (x : Unit {0}) → key k (k ++ t) ≡ found x t
unfolding key
key-accepts [] t x = refl
key-accepts (k ∷ ks) t x = rw (eq-eqb k k refl) (key-accepts ks t x)

pub key-exact : (k : List ℕ) → Exact (key k) (λ x. k) (λ x. Unit {0})
key-exact k = record { accepts = λ a t p. key-accepts k t a; only = λ a t u h. (tt, key-only k t u a h) }

pub key-append : (j k t : List ℕ) → key (j ++ k) t ≡ next (key j t) (λ x. key k)
unfolding key
key-append [] k t = refl
key-append (c ∷ j) k [] = refl
key-append (c ∷ j) k (d ∷ t) = go (eqb d c) (key-append j k t)
  where
    go : (b : Bool) → key (j ++ k) t ≡ next (key j t) (λ x. key k) → only_if b (key (j ++ k) t) ≡ next (only_if b (key j t)) (λ x. key k)
    go true ih = ih
    go false ih = refl

-- ---- one reader behind another

-- the second reader may depend on the value that was read; g finds that value in the whole one
pub next-exact : {A B : Type 0} {r : List ℕ → Got A} {w : A → List ℕ} {P : A → Type 0} {f : A → List ℕ → Got B} {v : B → List ℕ} {Q : B → Type 0} (g : B → A)
    → Exact r w P → ((a : A) → Exact (f a) v (λ b. (g b ≡ a) × Q b))
    → Exact (λ t. next (r t) f) (λ b. w (g b) ++ v b) (λ b. P (g b) × Q b)
next-exact {A} {r} {w} {f} {v} g x y = record {
  accepts = λ b t p.
      ap (λ (l : List ℕ). next (r l) f) (append_assoc (w (g b)) (v b) t)
      ∙ ap (λ z. next z f) (x.accepts (g b) (v b ++ t) p.0)
      ∙ (y (g b)).accepts b t (refl, p.1);
  only = λ b t u h.
      let n = next-found (r t) f b u h in
      let a = n.0 in
      let p = x.only a t n.1 n.2 in
      let q = (y a).only b n.1 u n.3 in
      ((rw q.0.0 p.0, q.0.1), p.1 ∙ ap (λ (l : List ℕ). w a ++ l) q.1 ∙ sym (append_assoc (w a) (v b) u) ∙ ap (λ (z : A). (w z ++ v b) ++ u) (sym q.0.0));
}

pub made-exact : {A : Type 0} (a : A) → Exact (λ t. found a t) (λ b. []) (λ b. b ≡ a)
made-exact a = record { accepts = λ b t p. rw p; only = λ b t u h. (cc, cc) }

pub limit-exact : {A : Type 0} {r : List ℕ → Got A} {w : A → List ℕ} {P Q : A → Type 0} → ((a : A) → P a → Q a) → ((a : A) → Q a → P a) → Exact r w P → Exact r w Q
limit-exact f g x = record { accepts = λ a t q. x.accepts a t (g a q); only = λ a t u h. (f a (x.only a t u h).0, (x.only a t u h).1) }

pub after-key : {A : Type 0} {r : List ℕ → Got A} {w : A → List ℕ} {P : A → Type 0} (k : List ℕ) → Exact r w P → Exact (λ t. next (key k t) (λ x. r)) (λ a. k ++ w a) P
after-key k x =
    limit-exact (λ a p. p.1) (λ a p. (tt, p)) (next-exact (λ b. tt) (key-exact k) (λ a. limit-exact (λ b p. (refl, p)) (λ b p. p.1) x))

-- ---- several values

many-accepts : {A : Type 0} {r : List ℕ → Got A} {w : A → List ℕ} {P : A → Type 0} → Exact r w P
    → (l : List A) (t : List ℕ) → All P l → many r (length l) (texts w l ++ t) ≡ found l t
unfolding many texts
many-accepts x [] t p = refl
many-accepts {r} {w} x (a ∷ l) t p =
    rw (append_assoc (w a) (texts w l) t, x.accepts a (texts w l ++ t) p.0, many-accepts x l t p.1)

many-only : {A : Type 0} {r : List ℕ → Got A} {w : A → List ℕ} {P : A → Type 0} → Exact r w P
    → (n : ℕ) (l : List A) (t u : List ℕ) → many r n t ≡ found l u → ((length l ≡ n) × All P l) × (t ≡ texts w l ++ u)
unfolding many texts
many-only x zero [] t u h = ((refl, tt {0}), cc)
many-only x zero (a ∷ l) t u h = let z : ◌≡◌ {A = ℕ} 0 1 = cc in absurd (omega arith)
many-only {A} {r} {w} {P} x (suc n) l t u h =
    let f = next-found (r t) (λ a u. next (many r n u) (λ l. found (a ∷ l))) l u h in
    let a : A = f.0 in
    let v : List ℕ = f.1 in
    let g = next-found (many r n v) (λ l. found (a ∷ l)) l u f.3 in
    let k : List A = g.0 in
    let o = x.only a t v f.2 in
    let i = many-only x n k v g.1 g.2 in
    let e : a ∷ k ≡ l = cc g.3 in
    let q : g.1 ≡ u = cc g.3 in
    let s : t ≡ (w a ++ texts w k) ++ u =
    o.1 ∙ ap (λ (z : List ℕ). w a ++ z) (i.1 ∙ ap (λ (z : List ℕ). texts w k ++ z) q) ∙ sym (append_assoc (w a) (texts w k) u)
    in
    subst (λ (z : List A). ((length z ≡ suc n) × All P z) × (t ≡ texts w z ++ u)) e ((ap suc i.0.0, (o.0, i.0.1)), s)

pub many-exact : {A : Type 0} {r : List ℕ → Got A} {w : A → List ℕ} {P : A → Type 0} (n : ℕ)
    → Exact r w P → Exact (many r n) (texts w) (λ l. (length l ≡ n) × All P l)
many-exact {A} {r} {w} {P} n x = record {
  accepts = λ l t p. subst (λ (k : ℕ). many r k (texts w l ++ t) ≡ found l t) p.0 (many-accepts x l t p.1);
  only = λ l t u h. many-only x n l t u h;
}

-- ---- the rest of a text

rest_at : (s w u : List ℕ) (at : ℕ) → drop at s ≡ w ++ u → drop (length s - length u) s ≡ u
rest_at s w u at e =
    let p : List ℕ = take at s ++ w in
    let q : s ≡ p ++ u = sym (take-append-drop at s) ∙ ap (λ (x : List ℕ). take at s ++ x) e ∙ sym (append_assoc (take at s) w u) in
    let n : length p ≡ length s - length u = omega (arith, ap length q, length-append p u) in
    subst⁻¹ (λ (l : List ℕ). drop (length s - length u) l ≡ u) q (drop_at p u (length s - length u) n)

pub rest_of : {A : Type 0} {r : List ℕ → Got A} {w : A → List ℕ} {P : A → Type 0} → Exact r w P
    → (s : List ℕ) (at : ℕ) (a : A) (u : List ℕ) → r (drop at s) ≡ found a u → drop (length s - length u) s ≡ u
rest_of {w} x s at a u h = rest_at s (w a) u at (x.only a (drop at s) u h).1
