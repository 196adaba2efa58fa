-- One of several names: what is read is what is written, and how the lines of a text are tried, one byte after the other.
--     one_of-exact   the reader of names of which no line begins with another's
--     keyed-names   a key and one of several names is one of several lines
--     tried-..      what is left to try, one law for each way through the code
use mathlib.Core.Path.{◌≡◌, refl, ap, ◌∙◌}
use mathlib.Core.Bool.{Bool, true, false, ◌&&◌, cond}
use mathlib.Core.List.{List, [], ◌∷◌, ◌++◌, append_assoc, map}
use Prim.Native.Nat.{ℕ, zero, suc, ◌+◌, ◌-◌, ◌≤◌, ◌<◌}
use native.Mathlib.Nat.{sub-zero}
use native.Mathlib.Numerals.{add-one}
use native.Mathlib.Omega.{arith}
use lib.Dec.{eqb}
use lib.ListN.{length, take, drop, get_or, drop_of_length-le, length-drop}
use lib.Seq.{drop-cons, take-suc, get_or-drop}
use borrow.Author.Tests.{eq-eqb, ne_eqb, eqb-true, eqb-false}
use Rattle.bit.proofs.Tests.{and-true}
use Rattle.text.specs.Read.{Got, found, broken, only_if, or_try, next, line_end, key, named, one_of, lines_from}
use Rattle.text.specs.Exact.{Exact}
use Rattle.text.proofs.Exact.{next-found, key-exact, key-append}

-- ---- the lines tried one after the other

-- the lines that end before j are not the text's; the next one begins at `start`
abbrev pub left : (lines t : List ℕ) (start j n : ℕ) → Got ℕ
left lines t start j n = one_of (lines_from (take (j - start) (drop start lines)) (drop j lines)) n t

module _ (lines t : List ℕ) (start j n : ℕ) where
  pub left-none : length lines ≤ j → left lines t start j n ≡ broken
  unfolding one_of
  left-none h = rw (drop_of_length-le lines h)

  module _ (l : start ≤ j) (h : j < length lines) where
    line-to : take (j + 1 - start) (drop start lines) ≡ take (j - start) (drop start lines) ++ (get_or lines j 0 ∷ [])
    line-to =
        let m : j + 1 - start ≡ suc (j - start) = omega arith in
        let d : j - start < length (drop start lines) = omega (arith, length-drop start lines) in
        let k : start + (j - start) ≡ j = omega arith in
        rw (m, take-suc (drop start lines) (j - start) 0 d, get_or-drop start lines (j - start) 0, k)

    -- a byte of the line
    pub left-on : (get_or lines j 0 ≡ 10 → ⊥) → left lines t start j n ≡ left lines t start (j + 1) n
    left-on e = rw (line-to, drop-cons lines j 0 h, ne_eqb _ 10 e, add-one j)

    -- the line ends, and stands in the text or not
    module _ (e : get_or lines j 0 ≡ 10) where
      abbrev line : List ℕ
      line = take (j + 1 - start) (drop start lines)

      ends : left lines t start j n ≡ or_try (next (key line t) (λ x. found n)) (left lines t (j + 1) (j + 1) (n + 1))
      unfolding one_of named
      ends =
          let z : j + 1 - (j + 1) ≡ 0 = omega arith in
          rw (line-to, e, drop-cons lines j 0 h, eq-eqb _ 10 e, z, add-one j, add-one n)

      pub left-found : (u : List ℕ) → key line t ≡ found tt u → left lines t start j n ≡ found n u
      left-found u k = ends ∙ rw k

      pub left-next : key line t ≡ broken → left lines t start j n ≡ left lines t (j + 1) (j + 1) (n + 1)
      left-next k = ends ∙ rw k

-- ---- behind a key

-- a key and one of several names is one of the lines of the key and a name
pub keyed-names : (k : List ℕ) (names : List (List ℕ)) (i : ℕ) (t : List ℕ) → one_of (map (λ n. k ++ n) names) i t ≡ next (key k t) (λ x. one_of names i)
unfolding one_of named
keyed-names k [] i t = none (key k t)
  where
    none : (g : Got (Unit {0})) → ◌≡◌ {A = Got ℕ} broken (next g (λ x u. broken))
    none (found x u) = refl
    none broken = refl
keyed-names k (n ∷ ns) i t =
    rw (append_assoc k n line_end, key-append k (n ++ line_end) t, keyed-names k ns (suc i) t) (go (key k t))
  where
    go : (g : Got (Unit {0})) → or_try (next (next g (λ x. key (n ++ line_end))) (λ y. found i)) (next g (λ x. one_of ns (suc i)))
        ≡ next g (λ x u. or_try (next (key (n ++ line_end) u) (λ y. found i)) (one_of ns (suc i) u))
    go (found x u) = refl
    go broken = refl

-- ---- exactness

-- neither text begins with the other
abbrev pub apart : List ℕ → List ℕ → Bool
apart [] b = false
apart (x ∷ a) [] = false
apart (x ∷ a) (y ∷ b) = cond (eqb y x) (apart a b) true

-- the line of k and those of ks
abbrev pub apart_all : List ℕ → List (List ℕ) → Bool
apart_all k [] = true
apart_all k (b ∷ bs) = apart (k ++ line_end) (b ++ line_end) && apart_all k bs

abbrev pub distinct : List (List ℕ) → Bool
distinct [] = true
distinct (k ∷ ks) = apart_all k ks && distinct ks

false-true : {A : Type 0} → false ≡ true → A
false-true e = let z : ◌≡◌ {A = ℕ} 0 1 = cc in absurd (omega arith)

apart-broken : (k b t : List ℕ) → apart k b ≡ true → key k (b ++ t) ≡ broken
unfolding key
apart-broken [] b t h = false-true h
apart-broken (x ∷ k) [] t h = false-true h
apart-broken (x ∷ k) (y ∷ b) t h = go (eqb y x) h (λ q. apart-broken k b t q)
  where
    go : (e : Bool) → cond e (apart k b) true ≡ true → (apart k b ≡ true → key k (b ++ t) ≡ broken) → only_if e (key k (b ++ t)) ≡ broken
    go true h ih = ih h
    go false h ih = refl

apart-at : (k : List ℕ) (ks : List (List ℕ)) (j : ℕ) → apart_all k ks ≡ true → j < length ks → apart (k ++ line_end) (get_or ks j [] ++ line_end) ≡ true
apart-at k [] j h p = absurd (omega arith)
apart-at k (b ∷ ks) zero h p = (and-true (apart (k ++ line_end) (b ++ line_end)) (apart_all k ks) h).0
apart-at k (b ∷ ks) (suc j) h p = apart-at k ks j (and-true (apart (k ++ line_end) (b ++ line_end)) (apart_all k ks) h).1 (omega arith)

one_of-accepts : (ks : List (List ℕ)) (i v : ℕ) (t : List ℕ) → distinct ks ≡ true → i ≤ v → v < i + length ks
    → one_of ks i ((get_or ks (v - i) [] ++ line_end) ++ t) ≡ found v t
unfolding one_of named
one_of-accepts [] i v t d p q = absurd (omega arith)
one_of-accepts (k ∷ ks) i v t d p q = go (eqb v i) refl (λ a b. one_of-accepts ks (suc i) v t (and-true (apart_all k ks) (distinct ks) d).1 a b)
  where
    go : (b : Bool) → eqb v i ≡ b
        → (suc i ≤ v → v < suc i + length ks → one_of ks (suc i) ((get_or ks (v - suc i) [] ++ line_end) ++ t) ≡ found v t)
        → or_try (named k i ((get_or (k ∷ ks) (v - i) [] ++ line_end) ++ t)) (one_of ks (suc i) ((get_or (k ∷ ks) (v - i) [] ++ line_end) ++ t)) ≡ found v t
    go true e ih =
        let q = eqb-true v i e in
        let n : v - i ≡ 0 = omega arith in
        rw (n, (key-exact (k ++ line_end)).accepts tt t tt, q)
    go false e ih =
        let ne = eqb-false v i e in
        let n : v - i ≡ suc (v - suc i) = omega arith in
        let a = apart-at k ks (v - suc i) (and-true (apart_all k ks) (distinct ks) d).0 (omega arith) in
        let r = apart-broken (k ++ line_end) (get_or ks (v - suc i) [] ++ line_end) t a in
        rw (n, r) (ih (omega arith) (omega arith))

one_of-only : (ks : List (List ℕ)) (i v : ℕ) (t u : List ℕ) → one_of ks i t ≡ found v u
    → ((i ≤ v) × (v < i + length ks)) × (t ≡ (get_or ks (v - i) [] ++ line_end) ++ u)
unfolding one_of named
one_of-only [] i v t u h = let z : ◌≡◌ {A = ℕ} 0 1 = cc in absurd (omega arith)
one_of-only (k ∷ ks) i v t u h = go (named k i t) refl h (λ q. one_of-only ks (suc i) v t u q)
  where
    go : (g : Got ℕ) → named k i t ≡ g → or_try g (one_of ks (suc i) t) ≡ found v u
        → (one_of ks (suc i) t ≡ found v u → ((suc i ≤ v) × (v < suc i + length ks)) × (t ≡ (get_or ks (v - suc i) [] ++ line_end) ++ u))
        → ((i ≤ v) × (v < i + suc (length ks))) × (t ≡ (get_or (k ∷ ks) (v - i) [] ++ line_end) ++ u)
    go (found w x) e h ih =
        let n = next-found (key (k ++ line_end) t) (λ y. found i) w x e in
        let o = ((key-exact (k ++ line_end)).only n.0 t n.1 n.2).1 in
        let f : found i n.1 ≡ found w x = n.3 in
        let iv : v ≡ i = cc in
        let xu : n.1 ≡ u = cc in
        let z : v - i ≡ 0 = omega arith in
        ((omega arith, omega arith), rw z (o ∙ ap (λ (l : List ℕ). (k ++ line_end) ++ l) xu))
    go broken e h ih =
        let r = ih h in
        let a = r.0.0 in
        let b = r.0.1 in
        let n : v - i ≡ suc (v - suc i) = omega arith in
        ((omega arith, omega arith), rw n r.1)

-- the line of name v
unfoldable pub name_text : List (List ℕ) → ℕ → List ℕ
name_text ks v = get_or ks v [] ++ line_end

pub one_of-exact : (ks : List (List ℕ)) → distinct ks ≡ true → Exact (one_of ks 0) (name_text ks) (λ v. v < length ks)
unfolding name_text
one_of-exact ks d = record {
  accepts = λ v t p. rw (sub-zero v) at (one_of-accepts ks 0 v t d (omega arith) (omega arith));
  only = λ v t u h. let r = one_of-only ks 0 v t u h in let a = r.0.1 in (omega arith, rw (sub-zero v) at r.1);
}
