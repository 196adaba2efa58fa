-- The readers at a place of a text.
--     key-stands    the bytes of a key, all at once
--     rest-..       the digits of a number, of which some are read, one law for each way through the code
--     many-done, many-next, many-broken     several values, of which some are read
--     many-short, many-bits     the bits of a vector, all at once
use mathlib.Core.Path.{◌≡◌, refl, sym, ap, ◌∙◌}
use mathlib.Core.Bool.{Bool, true, false, ◌&&◌, ◌||◌, cond}
use mathlib.Core.List.{List, [], ◌∷◌, ◌++◌, append-nil, map}
use Prim.Native.Nat.{ℕ, zero, suc, ◌+◌, ◌-◌, ◌*◌, ◌≤◌, ◌<◌}
use native.Mathlib.Numerals.{add-one}
use native.Mathlib.Omega.{arith}
use lib.Dec.{ltb, eqb}
use lib.ListN.{length, take, drop, get_or, drop_of_length-le}
use lib.Pointwise.{pointwise}
use lib.Seq.{drop-cons, append_snoc}
use borrow.Author.Tests.{eq-eqb, ne_eqb, le-leb, lt-leb, eqb-true, eqb-false, ltb-true, ltb-false}
use Rattle.std.specs.List.{list_all}
use Rattle.bit.proofs.Tests.{and-true, or-false}
use Rattle.text.specs.Read.{Got, found, broken, only_if, next, many, line_end, key, more, number, is_bit, of_byte, bit}

-- ---- a key

-- the bytes of a key, compared all at once
pub key-stands : (k t : List ℕ) → key k t ≡ cond (pointwise eqb (take (length k) t) k) (found tt (drop (length k) t)) broken
unfolding key
key-stands [] t = refl
key-stands (k ∷ ks) [] = refl
key-stands (k ∷ ks) (c ∷ t) = go (eqb c k) (key-stands ks t)
  where
    go : (b : Bool) → key ks t ≡ cond (pointwise eqb (take (length ks) t) ks) (found tt (drop (length ks) t)) broken
        → only_if b (key ks t) ≡ cond (b && pointwise eqb (take (length ks) t) ks) (found tt (drop (length ks) t)) broken
    go true ih = ih
    go false ih = refl

module _ (s k : List ℕ) (i j : ℕ) where
  key-done : (t : List ℕ) → length k ≤ j → key (drop j k) t ≡ found tt t
  unfolding key
  key-done t h = rw drop_of_length-le

  key-ends : j < length k → length s ≤ i → key (drop j k) (drop i s) ≡ broken
  unfolding key
  key-ends h e = rw (drop_of_length-le s e, drop-cons k j 0)

  key-same : j < length k → i < length s → get_or s i 0 ≡ get_or k j 0 → key (drop j k) (drop i s) ≡ key (drop (j + 1) k) (drop (i + 1) s)
  unfolding key
  key-same h e q = rw (add-one j, add-one i, drop-cons k j 0, drop-cons s i 0, eq-eqb _ _ q)

  key-other : j < length k → i < length s → (get_or s i 0 ≡ get_or k j 0 → ⊥) → key (drop j k) (drop i s) ≡ broken
  unfolding key
  key-other h e q = rw (drop-cons k j 0, drop-cons s i 0, ne_eqb _ _ q)

-- ---- a number

and-other : (a : Bool) → (a && true) ≡ false → a ≡ false
and-other true h = h
and-other false h = refl

more-ends : (s : List ℕ) (m n i : ℕ) → length s ≤ i → more m n (drop i s) ≡ broken
unfolding more
more-ends s m n i h = rw drop_of_length-le

module _ (s : List ℕ) (m n i : ℕ) (h : i < length s) where
  more-done : get_or s i 0 ≡ 10 → more m n (drop i s) ≡ found n (drop (i + 1) s)
  unfolding more
  more-done q = rw (add-one, drop-cons s i 0, eq-eqb _ _ q)

  more-low : (get_or s i 0 ≡ 10 → ⊥) → get_or s i 0 < 48 → more m n (drop i s) ≡ broken
  unfolding more
  more-low ne lo = rw (drop-cons s i 0, ne_eqb _ _ ne, lt-leb _ _ lo)

  more-high : 57 < get_or s i 0 → more m n (drop i s) ≡ broken
  unfolding more
  more-high hi =
      let ne : get_or s i 0 ≡ 10 → ⊥ = omega arith in
      let lo : 48 ≤ get_or s i 0 = omega arith in
      rw (drop-cons s i 0, ne_eqb _ _ ne, le-leb _ _ lo, lt-leb _ _ hi)

  module _ (lo : 48 ≤ get_or s i 0) (hi : get_or s i 0 ≤ 57) where
    more-over : m < n * 10 + (get_or s i 0 - 48) → more m n (drop i s) ≡ broken
    unfolding more
    more-over q =
        let ne : get_or s i 0 ≡ 10 → ⊥ = omega arith in
        rw (drop-cons s i 0, ne_eqb _ _ ne, le-leb _ _ lo, le-leb _ _ hi, lt-leb _ _ q)

    more-digit : n * 10 + (get_or s i 0 - 48) ≤ m → more m n (drop i s) ≡ more m (n * 10 + (get_or s i 0 - 48)) (drop (i + 1) s)
    unfolding more
    more-digit q =
        let ne : get_or s i 0 ≡ 10 → ⊥ = omega arith in
        rw (add-one, drop-cons s i 0, ne_eqb _ _ ne, le-leb _ _ lo, le-leb _ _ hi, le-leb _ _ q)

number-ends : (s : List ℕ) (m i : ℕ) → length s ≤ i → number m (drop i s) ≡ broken
unfolding number
number-ends s m i h = rw drop_of_length-le

module _ (s : List ℕ) (m i : ℕ) (h : i < length s) where
  number-zero : get_or s i 0 ≡ 48 → number m (drop i s) ≡ next (key line_end (drop (i + 1) s)) (λ x. found 0)
  unfolding number
  number-zero q = rw (add-one, drop-cons s i 0, eq-eqb _ _ q)

  number-low : get_or s i 0 < 48 → number m (drop i s) ≡ broken
  unfolding number
  number-low lo = let ne : get_or s i 0 ≡ 48 → ⊥ = omega arith in rw (drop-cons s i 0, ne_eqb _ _ ne, lt-leb _ _ lo)

  number-high : 57 < get_or s i 0 → number m (drop i s) ≡ broken
  unfolding number
  number-high hi =
      let ne : get_or s i 0 ≡ 48 → ⊥ = omega arith in
      let lo : 48 ≤ get_or s i 0 = omega arith in
      rw (drop-cons s i 0, ne_eqb _ _ ne, le-leb _ _ lo, lt-leb _ _ hi)

  module _ (ne : get_or s i 0 ≡ 48 → ⊥) (lo : 48 ≤ get_or s i 0) (hi : get_or s i 0 ≤ 57) where
    number-over : m < get_or s i 0 - 48 → number m (drop i s) ≡ broken
    unfolding number
    number-over q = rw (drop-cons s i 0, ne_eqb _ _ ne, le-leb _ _ lo, le-leb _ _ hi, lt-leb _ _ q)

    number-digit : get_or s i 0 - 48 ≤ m → number m (drop i s) ≡ more m (get_or s i 0 - 48) (drop (i + 1) s)
    unfolding number
    number-digit q = rw (add-one, drop-cons s i 0, ne_eqb _ _ ne, le-leb _ _ lo, le-leb _ _ hi, le-leb _ _ q)

-- what is left of a number, begun or not, of which n is read
abbrev pub rest : ℕ → Bool → ℕ → List ℕ → Got ℕ
rest m false n t = number m t
rest m true zero t = next (key line_end t) (λ x. found 0)
rest m true (suc n) t = more m (suc n) t

rest-begun : (m n : ℕ) (t : List ℕ) → 0 < n → rest m true n t ≡ more m n t
rest-begun m zero t h = absurd (omega arith)
rest-begun m (suc n) t h = refl

pub rest-ends : (s : List ℕ) (m : ℕ) (b : Bool) (n i : ℕ) → length s ≤ i → rest m b n (drop i s) ≡ broken
rest-ends s m false n i h = number-ends s m i h
rest-ends s m true zero i h = rw (key-ends s line_end i 0 (omega arith) h)
rest-ends s m true (suc n) i h = more-ends s m (suc n) i h

-- whether c is no digit, or x holds
abbrev pub no_digit : ℕ → Bool → Bool
no_digit c x = (ltb c 48 || ltb 57 c) || x

pub digit-range : (c : ℕ) (x : Bool) → no_digit c x ≡ false → (48 ≤ c) × (c ≤ 57) × (x ≡ false)
digit-range c x h =
    let p = or-false (ltb c 48 || ltb 57 c) x h in
    let q = or-false (ltb c 48) (ltb 57 c) p.0 in
    (ltb-false c 48 q.0, ltb-false 57 c q.1, p.1)

module _ (s : List ℕ) (m i : ℕ) (h : i < length s) where
  pub rest-done : (b : Bool) (n : ℕ) → eqb (get_or s i 0) 10 ≡ true → b ≡ true → rest m b n (drop i s) ≡ found n (drop (i + 1) s)
  rest-done false n q e = let z : ◌≡◌ {A = ℕ} 0 1 = cc in absurd (omega arith)
  rest-done true zero q e = rw (key-same s line_end i 0 (omega arith) h (eqb-true _ 10 q), key-done s line_end (i + 1) 1 _ (omega arith))
  rest-done true (suc n) q e = more-done s m (suc n) i h (eqb-true _ 10 q)

  rest-low : (b : Bool) (n : ℕ) → (eqb (get_or s i 0) 10 && b) ≡ false → get_or s i 0 < 48 → rest m b n (drop i s) ≡ broken
  rest-low false n q lo = number-low s m i h lo
  rest-low true zero q lo = rw (key-other s line_end i 0 (omega arith) h (eqb-false _ 10 (and-other (eqb (get_or s i 0) 10) q)))
  rest-low true (suc n) q lo = more-low s m (suc n) i h (eqb-false _ 10 (and-other (eqb (get_or s i 0) 10) q)) lo

  rest-high : (b : Bool) (n : ℕ) → 57 < get_or s i 0 → rest m b n (drop i s) ≡ broken
  rest-high false n hi = number-high s m i h hi
  rest-high true zero hi = rw (key-other s line_end i 0 (omega arith) h (omega arith))
  rest-high true (suc n) hi = more-high s m (suc n) i h hi

  rest-zero : (b : Bool) (n : ℕ) → (eqb (get_or s i 0) 10 && b) ≡ false → n ≡ 0 → b ≡ true → rest m b n (drop i s) ≡ broken
  rest-zero false n q z e = let z : ◌≡◌ {A = ℕ} 0 1 = cc in absurd (omega arith)
  rest-zero true zero q z e = rw (key-other s line_end i 0 (omega arith) h (eqb-false _ 10 (and-other (eqb (get_or s i 0) 10) q)))
  rest-zero true (suc n) q z e = absurd (omega arith)

  pub rest-other : (b : Bool) (n : ℕ) → (eqb (get_or s i 0) 10 && b) ≡ false → no_digit (get_or s i 0) (eqb n 0 && b) ≡ true → rest m b n (drop i s) ≡ broken
  rest-other b n q e = go (ltb (get_or s i 0) 48) (ltb 57 (get_or s i 0)) refl refl e
    where
      go : (x y : Bool) → ltb (get_or s i 0) 48 ≡ x → ltb 57 (get_or s i 0) ≡ y → ((x || y) || (eqb n 0 && b)) ≡ true → rest m b n (drop i s) ≡ broken
      go true y f g e = rest-low b n q (ltb-true _ 48 f)
      go false true f g e = rest-high b n (ltb-true 57 _ g)
      go false false f g e = let w = and-true (eqb n 0) b e in rest-zero b n q (eqb-true n 0 w.0) w.1

  module _ (lo : 48 ≤ get_or s i 0) (hi : get_or s i 0 ≤ 57) where
    pub rest_over : (b : Bool) (n : ℕ) → (b ≡ false → n ≡ 0) → (eqb n 0 && b) ≡ false → m < n * 10 + (get_or s i 0 - 48) → rest m b n (drop i s) ≡ broken
    rest_over false n z e q = let y = z refl in number-over s m i h (omega arith) lo hi (omega arith)
    rest_over true n z e q =
        let ne = eqb-false n 0 (and-other (eqb n 0) e) in
        rest-begun m n (drop i s) (omega arith) ∙ more-over s m n i h lo hi q

    first-digit : (x : Bool) → eqb (get_or s i 0) 48 ≡ x → get_or s i 0 - 48 ≤ m → number m (drop i s) ≡ rest m true (get_or s i 0 - 48) (drop (i + 1) s)
    first-digit true e q = let c48 : get_or s i 0 ≡ 48 = eqb-true _ 48 e in let z : get_or s i 0 - 48 ≡ 0 = omega arith in rw z (number-zero s m i h c48)
    first-digit false e q =
        let ne = eqb-false _ 48 e in
        number-digit s m i h ne lo hi q ∙ sym (rest-begun m (get_or s i 0 - 48) (drop (i + 1) s) (omega arith))

    pub rest-digit : (b : Bool) (n : ℕ) → (b ≡ false → n ≡ 0) → (eqb n 0 && b) ≡ false → n * 10 + (get_or s i 0 - 48) ≤ m
        → rest m b n (drop i s) ≡ rest m true (n * 10 + (get_or s i 0 - 48)) (drop (i + 1) s)
    rest-digit false n z e q =
        let y = z refl in
        let d : get_or s i 0 - 48 ≡ n * 10 + (get_or s i 0 - 48) = omega arith in
        first-digit (eqb (get_or s i 0) 48) refl (omega arith) ∙ ap (λ (k : ℕ). rest m true k (drop (i + 1) s)) d
    rest-digit true n z e q =
        let ne = eqb-false n 0 (and-other (eqb n 0) e) in
        rest-begun m n (drop i s) (omega arith)
        ∙ more-digit s m n i h lo hi q
        ∙ sym (rest-begun m (n * 10 + (get_or s i 0 - 48)) (drop (i + 1) s) (omega arith))

-- ---- several values, of which some are read

-- what is read, behind the values that were read before it
abbrev pub behind : {A : Type 0} → List A → Got (List A) → Got (List A)
behind before g = next g (λ l. found (before ++ l))

pub behind-none : {A : Type 0} (g : Got (List A)) → g ≡ behind [] g
behind-none (found l u) = refl
behind-none broken = refl

behind-one : {A : Type 0} (before : List A) (a : A) (g : Got (List A)) → behind before (next g (λ l. found (a ∷ l))) ≡ behind (before ++ (a ∷ [])) g
behind-one {A} before a (found l u) = ap (λ (z : List A). found z u) (sym (append_snoc before a l))
behind-one before a broken = refl

module _ {A : Type 0} (r : List ℕ → Got A) (before : List A) (t : List ℕ) where
  pub many-done : behind before (many r 0 t) ≡ found before t
  unfolding many
  many-done = ap (λ (z : List A). found z t) (append-nil before)

  pub many-next : (n : ℕ) (a : A) (u : List ℕ) → r t ≡ found a u → behind before (many r (suc n) t) ≡ behind (before ++ (a ∷ [])) (many r n u)
  unfolding many
  many-next n a u e = rw e (behind-one before a (many r n u))

  pub many-broken : (n : ℕ) → r t ≡ broken → behind before (many r (suc n) t) ≡ broken
  unfolding many
  many-broken n e = rw e

-- the bits of a vector, all at once
pub many-short : (n : ℕ) (t : List ℕ) → length t < n → many bit n t ≡ broken
unfolding many bit
many-short zero t h = absurd (omega arith)
many-short (suc n) [] h = refl
many-short (suc n) (c ∷ t) h = go (is_bit c) (many-short n t (omega arith))
  where
    go : (b : Bool) → many bit n t ≡ broken → next (only_if b (found (of_byte c) t)) (λ a u. next (many bit n u) (λ l. found (a ∷ l))) ≡ broken
    go true ih = rw ih
    go false ih = refl

pub many-bits : (n : ℕ) (t : List ℕ) → n ≤ length t → many bit n t ≡ cond (list_all is_bit (take n t)) (found (map of_byte (take n t)) (drop n t)) broken
unfolding many bit
many-bits zero t h = refl
many-bits (suc n) [] h = absurd (omega arith)
many-bits (suc n) (c ∷ t) h = go (is_bit c) (list_all is_bit (take n t)) (many-bits n t (omega arith))
  where
    go : (b d : Bool) → many bit n t ≡ cond d (found (map of_byte (take n t)) (drop n t)) broken
        → next (only_if b (found (of_byte c) t)) (λ a u. next (many bit n u) (λ l. found (a ∷ l)))
        ≡ cond (b && d) (found (of_byte c ∷ map of_byte (take n t)) (drop n t)) broken
    go true true ih = rw ih
    go true false ih = rw ih
    go false d ih = refl
