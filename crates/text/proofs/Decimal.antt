-- Numbers in decimal: what is read is what is written.
--     decimal_digit, decimal-more, decimal-split     the text of one digit, and of a number with one digit more
--     digit-bounds      the bytes of digits
--     number-exact, line-exact        the readers of a number and of a line with a number
use mathlib.Core.Path.{◌≡◌, refl, sym, ap, ◌∙◌}
use mathlib.Core.Bool.{Bool, true, false, cond}
use mathlib.Core.List.{List, [], ◌∷◌, ◌++◌, append_assoc}
use Prim.Native.Nat.{ℕ, zero, suc, ◌+◌, ◌-◌, ◌*◌, ◌/◌, ◌%◌, ◌≤◌, ◌<◌}
use native.Mathlib.Omega.{arith}
use lib.Dec.{ltb, leb, eqb}
use borrow.Author.Tests.{ne_eqb, le-leb, le-ltb, lt-ltb, eqb-true, leb-true, eqb-false, ltb-true, ltb-false}
use Rattle.bit.proofs.Tests.{and-true}
use Rattle.text.specs.Read.{Got, found, broken, only_if, next, line_end, key, is_digit, more, number, number_line}
use Rattle.text.specs.Write.{decimal_digits, decimal, number_text}
use Rattle.text.specs.Exact.{Exact}
use Rattle.text.proofs.Exact.{when-found, key-only, after-key}

-- ---- the text

-- room for more digits than there are changes nothing
digits-room : (f g n : ℕ) → n < f → n < g → decimal_digits f n ≡ decimal_digits g n
unfolding decimal_digits
digits-room zero g n p q = absurd (omega arith)
digits-room (suc f) zero n p q = absurd (omega arith)
digits-room (suc f) (suc g) n p q = go (ltb n 10) refl (λ h k. digits-room f g (n / 10) h k)
  where
    go : (b : Bool) → ltb n 10 ≡ b → (n / 10 < f → n / 10 < g → decimal_digits f (n / 10) ≡ decimal_digits g (n / 10)) → decimal_digits (suc f) n ≡ decimal_digits (suc g) n
    go true e ih = rw (e, decimal_digits)
    go false e ih =
        let h = ltb-false n 10 e in
        rw e (ap (λ (l : List ℕ). l ++ ((48 + n % 10) ∷ [])) (ih (omega arith) (omega arith)))

pub decimal_digit : (n : ℕ) → n < 10 → decimal n ≡ (48 + n) ∷ []
unfolding decimal decimal_digits
decimal_digit n h = rw (lt-ltb n 10 h)

pub decimal-more : (n d : ℕ) → 0 < n → d < 10 → decimal (n * 10 + d) ≡ decimal n ++ ((48 + d) ∷ [])
unfolding decimal decimal_digits
decimal-more n d h k =
    let e : (n * 10 + d) / 10 ≡ n = omega arith in
    let q : (n * 10 + d) % 10 ≡ d = omega arith in
    let big : 10 ≤ n * 10 + d = omega arith in
    rw (le-ltb (n * 10 + d) 10 big, e, q)
    (ap (λ (l : List ℕ). l ++ ((48 + d) ∷ [])) (digits-room (n * 10 + d) (suc n) n (omega arith) (omega arith)))

pub decimal-split : (n : ℕ) → 10 ≤ n → decimal n ≡ decimal (n / 10) ++ ((48 + n % 10) ∷ [])
decimal-split n h =
    let back : n / 10 * 10 + n % 10 ≡ n = omega arith in
    ap decimal (sym back) ∙ decimal-more (n / 10) (n % 10) (omega arith) (omega arith)

-- ---- no other text is read

pub digit-bounds : (c : ℕ) → is_digit c ≡ true → (48 ≤ c) × (c ≤ 57)
digit-bounds c h = let a = and-true (leb 48 c) (leb c 57) h in (leb-true 48 c a.0, leb-true c 57 a.1)

more-only : (m n : ℕ) (t u : List ℕ) (v : ℕ) → 0 < n → n ≤ m → more m n t ≡ found v u → (v ≤ m) × (decimal n ++ t ≡ decimal v ++ (10 ∷ u))
unfolding more
more-only m n [] u v p q h = let z : ◌≡◌ {A = ℕ} 0 1 = cc in absurd (omega arith)
more-only m n (c ∷ t) u v p q h = go (eqb c 10) refl h (λ k e. more-only m (n * 10 + (c - 48)) t u v k e)
  where
    go : (b : Bool) → eqb c 10 ≡ b
        → cond b (found n t) (only_if (is_digit c) (only_if (leb (n * 10 + (c - 48)) m) (more m (n * 10 + (c - 48)) t))) ≡ found v u
        → (0 < n * 10 + (c - 48) → n * 10 + (c - 48) ≤ m → more m (n * 10 + (c - 48)) t ≡ found v u
        → (v ≤ m) × (decimal (n * 10 + (c - 48)) ++ t ≡ decimal v ++ (10 ∷ u)))
        → (v ≤ m) × (decimal n ++ (c ∷ t) ≡ decimal v ++ (10 ∷ u))
    go true e h ih =
        let c10 = eqb-true c 10 e in
        let nv : n ≡ v = cc in
        let tu : t ≡ u = cc in
        (omega arith, rw (c10, nv, tu))
    go false e h ih =
        let d = when-found (is_digit c) _ v u h in
        let l = when-found (leb (n * 10 + (c - 48)) m) _ v u d.1 in
        let r = digit-bounds c d.0 in
        let lo = r.0 in
        let hi = r.1 in
        let small : c - 48 < 10 = omega arith in
        let back : 48 + (c - 48) ≡ c = omega arith in
        let i = ih (omega arith) (leb-true _ m l.0) l.1 in
        let dm : decimal (n * 10 + (c - 48)) ≡ decimal n ++ (c ∷ []) = decimal-more n (c - 48) p small ∙ ap (λ (x : ℕ). decimal n ++ (x ∷ [])) back in
        (i.0, sym (append_assoc (decimal n) (c ∷ []) t) ∙ ap (λ (x : List ℕ). x ++ t) (sym dm) ∙ i.1)

number-only : (m : ℕ) (t u : List ℕ) (v : ℕ) → number m t ≡ found v u → (v ≤ m) × (t ≡ number_text v ++ u)
unfolding number number_text
number-only m [] u v h = let z : ◌≡◌ {A = ℕ} 0 1 = cc in absurd (omega arith)
number-only m (c ∷ t) u v h = go (eqb c 48) refl h
  where
    alone : (g : Got (Unit {0})) → key line_end t ≡ g → c ≡ 48 → next g (λ x. found 0) ≡ found v u → (v ≤ m) × (c ∷ t ≡ number_text v ++ u)
    alone (found x w) e z h =
        let o = key-only line_end t w x e in
        let v0 : 0 ≡ v = cc in
        let wu : w ≡ u = cc in
        (omega arith, rw (z, o, ← v0, ← wu, decimal_digit 0 (omega arith)))
    alone broken e z h = let z : ◌≡◌ {A = ℕ} 0 1 = cc in absurd (omega arith)

    go : (b : Bool) → eqb c 48 ≡ b
        → cond b (next (key line_end t) (λ x. found 0)) (only_if (is_digit c) (only_if (leb (c - 48) m) (more m (c - 48) t))) ≡ found v u
        → (v ≤ m) × (c ∷ t ≡ number_text v ++ u)
    go true e h = alone (key line_end t) refl (eqb-true c 48 e) h
    go false e h =
        let d = when-found (is_digit c) _ v u h in
        let l = when-found (leb (c - 48) m) _ v u d.1 in
        let r = digit-bounds c d.0 in
        let lo = r.0 in
        let hi = r.1 in
        let ne = eqb-false c 48 e in
        let back : 48 + (c - 48) ≡ c = omega arith in
        let i = more-only m (c - 48) t u v (omega arith) (leb-true _ m l.0) l.1 in
        let dg : decimal (c - 48) ≡ c ∷ [] = decimal_digit (c - 48) (omega arith) ∙ ap (λ (x : ℕ). x ∷ []) back in
        (i.0, ap (λ (x : List ℕ). x ++ t) (sym dg) ∙ i.1 ∙ sym (append_assoc (decimal v) line_end u))

-- ---- the text is read

number-first : (m n : ℕ) (t : List ℕ) → 0 < n → n < 10 → n ≤ m → number m ((48 + n) ∷ t) ≡ more m n t
unfolding number
number-first m n t p h q =
    let ne : 48 + n ≡ 48 → ⊥ = omega arith in
    let lo : 48 ≤ 48 + n = omega arith in
    let hi : 48 + n ≤ 57 = omega arith in
    let back : 48 + n - 48 ≡ n = omega arith in
    rw (ne_eqb _ _ ne, le-leb _ _ lo, le-leb _ _ hi, back, le-leb _ _ q)

more-next : (m n d : ℕ) (t : List ℕ) → d < 10 → n * 10 + d ≤ m → more m n ((48 + d) ∷ t) ≡ more m (n * 10 + d) t
unfolding more
more-next m n d t h q =
    let ne : 48 + d ≡ 10 → ⊥ = omega arith in
    let lo : 48 ≤ 48 + d = omega arith in
    let hi : 48 + d ≤ 57 = omega arith in
    let back : 48 + d - 48 ≡ d = omega arith in
    rw (ne_eqb _ _ ne, le-leb _ _ lo, le-leb _ _ hi, back, le-leb _ _ q)

number-begun : (f m n : ℕ) (t : List ℕ) → n < f → 0 < n → n ≤ m → number m (decimal n ++ t) ≡ more m n t
number-begun zero m n t k p q = absurd (omega arith)
number-begun (suc f) m n t k p q = go (ltb n 10) refl (λ a b. number-begun f m (n / 10) ((48 + n % 10) ∷ t) a b (omega arith))
  where
    go : (b : Bool) → ltb n 10 ≡ b
        → (n / 10 < f → 0 < n / 10 → number m (decimal (n / 10) ++ ((48 + n % 10) ∷ t)) ≡ more m (n / 10) ((48 + n % 10) ∷ t))
        → number m (decimal n ++ t) ≡ more m n t
    go true e ih = rw (decimal_digit n (ltb-true n 10 e)) (number-first m n t p (ltb-true n 10 e) q)
    go false e ih =
        let h = ltb-false n 10 e in
        let back : n / 10 * 10 + n % 10 ≡ n = omega arith in
        rw (decimal-split n h)
        (ap (number m) (append_assoc (decimal (n / 10)) ((48 + n % 10) ∷ []) t)
        ∙ ih (omega arith) (omega arith)
        ∙ more-next m (n / 10) (n % 10) t (omega arith) (omega arith)
        ∙ ap (λ (x : ℕ). more m x t) back)

number-accepts : (m n : ℕ) (t : List ℕ) → n ≤ m → number m (number_text n ++ t) ≡ found n t
unfolding number_text number more key decimal decimal_digits
number-accepts m zero t q = refl
number-accepts m (suc n) t q =
    ap (number m) (append_assoc (decimal (suc n)) line_end t) ∙ number-begun (suc (suc n)) m (suc n) (10 ∷ t) (omega arith) (omega arith) q

pub number-exact : (m : ℕ) → Exact (number m) number_text (λ n. n ≤ m)
number-exact m = record { accepts = λ n t. number-accepts m n t; only = λ n t u. number-only m t u n }

pub line-exact : (k : List ℕ) (m : ℕ) → Exact (number_line k m) (λ n. k ++ number_text n) (λ n. n ≤ m)
unfolding number_line
line-exact k m = after-key k (number-exact m)
