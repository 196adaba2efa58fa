-- The size of a literal, of which some is read.
--     size-begins   a text is a literal by what is left of it where nothing is read
--     size-ends, size-stops, size-other, size-over, size-digit, size-underscore     one law for each way through the code
use mathlib.Core.Path.{◌≡◌, refl, sym, ap, ◌∙◌}
use mathlib.Core.Bool.{Bool, true, false, not, ◌&&◌, ◌||◌, cond}
use mathlib.Core.List.{List, [], ◌∷◌}
use Prim.Native.Nat.{ℕ, ◌+◌, ◌-◌, ◌*◌, ◌≤◌, ◌<◌}
use native.Mathlib.Omega.{arith}
use lib.Dec.{eqb, leb, ltb}
use borrow.Author.Tests.{ne_eqb, le-leb, lt-leb, le-ltb, lt-ltb, eqb-true, eqb-false, ltb-true, ltb-false}
use Rattle.bit.proofs.Tests.{or-false, and_none, or-all}
use Rattle.refusal.specs.Outcome.{Answer}
use Rattle.refusal.specs.Outcome.Answer.{refused}
use Rattle.value.specs.Checks.{Vector}
use Rattle.literal_words.specs.Digits.{between, is_underscore, digit_number, digits, number_by, decimal_number, each, is_run}
use Rattle.literal_read.specs.Literal.{before_apostrophe, behind_apostrophe, is_size, signed_based, literal}

-- c is no digit that goes on from w
abbrev no_size : ℕ → ℕ → Bool
no_size w c = (ltb c 48 || ltb 57 c) || (eqb c 48 && eqb w 0)

-- what is left of a text whose size is read up to w; where w is 0, no digit is read yet
unfoldable pub size_left : ℕ → List ℕ → Answer Vector
size_left w [] = refused 15
size_left w (c ∷ t) =
    let digit = cond (no_size w c) (refused 15) (cond (ltb 4096 (w * 10 + (c - 48))) (refused 15) (size_left (w * 10 + (c - 48)) t)) in
    let stop = cond (eqb w 0) (refused 15) (signed_based w t) in
    cond (eqb c 39) stop (cond (not (eqb c 95) || eqb w 0) digit (size_left w t))

pub size-range : (w c : ℕ) → no_size w c ≡ false → (48 ≤ c) × (c ≤ 57)
size-range w c h =
    let p = or-false (ltb c 48 || ltb 57 c) (eqb c 48 && eqb w 0) h in
    let q = or-false (ltb c 48) (ltb 57 c) p.0 in
    (ltb-false c 48 q.0, ltb-false 57 c q.1)

-- ---- one byte on

module _ (w c : ℕ) (t : List ℕ) where
  pub size-stops : eqb c 39 ≡ true → size_left w (c ∷ t) ≡ cond (eqb w 0) (refused 15) (signed_based w t)
  unfolding size_left
  size-stops a = rw a

  module _ (a : eqb c 39 ≡ false) where
    pub size-underscore : (not (eqb c 95) || eqb w 0) ≡ false → size_left w (c ∷ t) ≡ size_left w t
    unfolding size_left
    size-underscore u = rw (a, u)

    module _ (u : (not (eqb c 95) || eqb w 0) ≡ true) where
      pub size-other : no_size w c ≡ true → size_left w (c ∷ t) ≡ refused 15
      unfolding size_left
      size-other e = rw (a, u, e)

      module _ (e : no_size w c ≡ false) where
        pub size-over : 4096 < w * 10 + (c - 48) → size_left w (c ∷ t) ≡ refused 15
        unfolding size_left
        size-over h = rw (a, u, e, lt-ltb 4096 (w * 10 + (c - 48)) h)

        pub size-digit : w * 10 + (c - 48) ≤ 4096 → size_left w (c ∷ t) ≡ size_left (w * 10 + (c - 48)) t
        unfolding size_left
        size-digit h = rw (a, u, e, le-ltb 4096 (w * 10 + (c - 48)) h)

pub size-ends : (w : ℕ) → size_left w [] ≡ refused 15
unfolding size_left
size-ends w = refl

-- ---- from the definition

-- a number never gets smaller by more digits
grows : (n : ℕ) (t : List ℕ) → n ≤ number_by 10 digit_number n t
unfolding number_by
grows n [] = omega arith
grows n (c ∷ t) = omega (arith, grows (n * 10 + digit_number c) t)

-- a digit is 0 to 9
digit-number : (c : ℕ) → 48 ≤ c → c ≤ 57 → digit_number c ≡ c - 48
unfolding digit_number
digit-number c lo hi = rw (le-leb 48 c lo, le-leb c 57 hi)

-- a byte that is no apostrophe
module _ (c : ℕ) (t : List ℕ) (a : eqb c 39 ≡ false) where
  before-other : before_apostrophe (c ∷ t) ≡ c ∷ before_apostrophe t
  unfolding before_apostrophe
  before-other = rw a

  behind-other : behind_apostrophe (c ∷ t) ≡ behind_apostrophe t
  unfolding behind_apostrophe
  behind-other = rw a

digits-digit : (c : ℕ) (t : List ℕ) → eqb c 95 ≡ false → digits (c ∷ t) ≡ c ∷ digits t
unfolding digits
digits-digit c t u = rw u

digits-underscore : (c : ℕ) (t : List ℕ) → eqb c 95 ≡ true → digits (c ∷ t) ≡ digits t
unfolding digits
digits-underscore c t u = rw u

-- the digits and underscores that go on from w
abbrev goes_on : ℕ → Bool
goes_on e = between 48 57 e || is_underscore e

each-cons : (p : ℕ → Bool) (c : ℕ) (t : List ℕ) (b : Bool) → p c ≡ b → each p (c ∷ t) ≡ (b && each p t)
unfolding each
each-cons p c t b e = ap (λ (x : Bool). x && each p t) e

abbrev number : ℕ → List ℕ → ℕ
number w t = number_by 10 digit_number w (digits (before_apostrophe t))

abbrev sized_by : Bool → ℕ → List ℕ → Answer Vector
sized_by ok n u = cond (ok && leb n 4096) (signed_based n u) (refused 15)

abbrev begun : ℕ → List ℕ → Answer Vector
begun w t = sized_by (each goes_on (before_apostrophe t)) (number w t) (behind_apostrophe t)

sized-over : (ok : Bool) (n : ℕ) (u : List ℕ) → 4096 < n → sized_by ok n u ≡ refused 15
sized-over true n u h = rw (lt-leb n 4096 h)
sized-over false n u h = refl

-- one byte on
module _ (w c : ℕ) (t : List ℕ) (a : eqb c 39 ≡ false) where
  begun-next : (ok : Bool) (v : ℕ) → goes_on c ≡ ok → number w (c ∷ t) ≡ number v t
      → begun w (c ∷ t) ≡ sized_by (ok && each goes_on (before_apostrophe t)) (number v t) (behind_apostrophe t)
  begun-next ok v g n =
      ap (λ (x : Bool). sized_by x (number w (c ∷ t)) (behind_apostrophe (c ∷ t)))
      (ap (each goes_on) (before-other c t a) ∙ each-cons goes_on c (before_apostrophe t) ok g)
      ∙ ap (λ (x : ℕ). sized_by (ok && each goes_on (before_apostrophe t)) x (behind_apostrophe (c ∷ t))) n
      ∙ ap (λ (x : List ℕ). sized_by (ok && each goes_on (before_apostrophe t)) (number v t) x) (behind-other c t a)

  begun-other : goes_on c ≡ false → begun w (c ∷ t) ≡ refused 15
  begun-other g =
      ap (λ (x : Bool). sized_by x (number w (c ∷ t)) (behind_apostrophe (c ∷ t)))
      (ap (each goes_on) (before-other c t a) ∙ each-cons goes_on c (before_apostrophe t) false g)

  number-underscore : eqb c 95 ≡ true → number w (c ∷ t) ≡ number w t
  number-underscore u = ap (number_by 10 digit_number w) (ap digits (before-other c t a) ∙ digits-underscore c (before_apostrophe t) u)

  number-digit : 48 ≤ c → c ≤ 57 → number w (c ∷ t) ≡ number (w * 10 + (c - 48)) t
  unfolding number_by
  number-digit lo hi =
      let u : c ≡ 95 → ⊥ = omega arith in
      ap (number_by 10 digit_number w) (ap digits (before-other c t a) ∙ digits-digit c (before_apostrophe t) (ne_eqb c 95 u))
      ∙ ap (λ (d : ℕ). number_by 10 digit_number (w * 10 + d) (digits (before_apostrophe t))) (digit-number c lo hi)

begun-left : (w : ℕ) (t : List ℕ) → 0 < w → w ≤ 4096 → begun w t ≡ size_left w t
unfolding size_left before_apostrophe behind_apostrophe digits number_by each signed_based
begun-left w [] p q = rw (le-leb w 4096 q)
begun-left w (c ∷ t) p q = stop (eqb c 39) refl (λ v h k. begun-left v t h k)
  where
    some : eqb w 0 ≡ false
    some = ne_eqb w 0 (λ e. omega arith)

    last : (v : ℕ) → eqb c 39 ≡ false → (not (eqb c 95) || eqb w 0) ≡ true → no_size w c ≡ false → v ≡ w * 10 + (c - 48) → (o : Bool) → ltb 4096 v ≡ o
        → (v ≤ 4096 → begun v t ≡ size_left v t) → begun v t ≡ size_left w (c ∷ t)
    last v a u e d true l ih =
        let h : 4096 < w * 10 + (c - 48) = omega (arith, ltb-true 4096 v l) in
        sized-over (each goes_on (before_apostrophe t)) (number v t) (behind_apostrophe t) (omega (arith, grows v (digits (before_apostrophe t))))
        ∙ sym (size-over w c t a u e h)
    last v a u e d false l ih =
        let h : v ≤ 4096 = ltb-false 4096 v l in
        ih h ∙ ap (λ (x : ℕ). size_left x t) d ∙ sym (size-digit w c t a u e (omega arith))

    other : (x y z : Bool) → eqb c 39 ≡ false → eqb c 95 ≡ x → ltb c 48 ≡ y → ltb 57 c ≡ z → ((v : ℕ) → 0 < v → v ≤ 4096 → begun v t ≡ size_left v t)
        → begun w (c ∷ t) ≡ size_left w (c ∷ t)
    other true y z a u lo hi ih =
        begun-next w c t a true w (ap goes_on (eqb-true c 95 u)) (number-underscore w c t a u) ∙ ih w p q ∙ sym (size-underscore w c t a (rw (u, some)))
    other false true z a u lo hi ih =
        begun-other w c t a (rw (lt-leb 48 c (ltb-true c 48 lo), u)) ∙ sym (size-other w c t a (rw u) (rw lo))
    other false false true a u lo hi ih =
        begun-other w c t a (rw (le-leb 48 c (ltb-false c 48 lo), lt-leb c 57 (ltb-true 57 c hi), u)) ∙ sym (size-other w c t a (rw u) (rw (lo, hi)))
    other false false false a u lo hi ih =
        let l : 48 ≤ c = ltb-false c 48 lo in
        let h : c ≤ 57 = ltb-false 57 c hi in
        let v : ℕ = w * 10 + (c - 48) in
        begun-next w c t a true v (rw (le-leb 48 c l, le-leb c 57 h)) (number-digit w c t a l h)
        ∙ last v a (rw u) (rw (lo, hi, some) (and_none (eqb c 48))) refl (ltb 4096 v) refl (λ k. ih v (omega arith) k)

    stop : (a : Bool) → eqb c 39 ≡ a → ((v : ℕ) → 0 < v → v ≤ 4096 → begun v t ≡ size_left v t) → begun w (c ∷ t) ≡ size_left w (c ∷ t)
    stop true e ih = rw (e, le-leb w 4096 q, some)
    stop false e ih = other (eqb c 95) (ltb c 48) (ltb 57 c) e refl refl refl ih

-- the first byte of a size
module _ (c : ℕ) (b u : List ℕ) where
  abbrev sized_of : Answer Vector
  sized_of = cond (is_size (c ∷ b)) (signed_based (decimal_number (c ∷ b)) u) (refused 15)

  first-other : between 48 57 c ≡ false → sized_of ≡ refused 15
  unfolding is_size is_run
  first-other e = rw e

  first-zero : eqb c 48 ≡ true → sized_of ≡ refused 15
  unfolding is_size
  first-zero e = rw (e, and_none (is_run (between 48 57) (c ∷ b)))

  first-digit : between 48 57 c ≡ true → eqb c 48 ≡ false → sized_of ≡ sized_by (each goes_on b) (decimal_number (c ∷ b)) u
  unfolding is_size is_run
  first-digit d e = rw (d, e)

-- a text is a literal by what is left of it where nothing is read
pub size-begins : (t : List ℕ) → literal t ≡ size_left 0 t
unfolding size_left literal is_size is_run before_apostrophe behind_apostrophe digits number_by each
size-begins [] = refl
size-begins (c ∷ t) = stop (eqb c 39) refl
  where
    parted : eqb c 39 ≡ false → literal (c ∷ t) ≡ sized_of c (before_apostrophe t) (behind_apostrophe t)
    parted a = rw a

    begins : eqb c 39 ≡ false → (x y z : Bool) → ltb c 48 ≡ x → ltb 57 c ≡ y → eqb c 48 ≡ z → literal (c ∷ t) ≡ size_left 0 (c ∷ t)
    begins a true y z lo hi e =
        parted a ∙ first-other c (before_apostrophe t) (behind_apostrophe t) (rw (lt-leb 48 c (ltb-true c 48 lo)))
        ∙ sym (size-other 0 c t a (or-all (not (eqb c 95))) (rw lo))
    begins a false true z lo hi e =
        parted a ∙ first-other c (before_apostrophe t) (behind_apostrophe t) (rw (le-leb 48 c (ltb-false c 48 lo), lt-leb c 57 (ltb-true 57 c hi)))
        ∙ sym (size-other 0 c t a (or-all (not (eqb c 95))) (rw (lo, hi)))
    begins a false false true lo hi e =
        parted a ∙ first-zero c (before_apostrophe t) (behind_apostrophe t) e ∙ sym (size-other 0 c t a (or-all (not (eqb c 95))) (rw (lo, hi, e)))
    begins a false false false lo hi e =
        let l : 48 ≤ c = ltb-false c 48 lo in
        let h : c ≤ 57 = ltb-false 57 c hi in
        let n = eqb-false c 48 e in
        let v : ℕ = 0 * 10 + (c - 48) in
        parted a ∙ first-digit c (before_apostrophe t) (behind_apostrophe t) (rw (le-leb 48 c l, le-leb c 57 h)) e
        ∙ ap (λ (x : ℕ). sized_by (each goes_on (before_apostrophe t)) x (behind_apostrophe t))
        (ap (λ (b : List ℕ). number_by 10 digit_number 0 (digits b)) (sym (before-other c t a)) ∙ number-digit 0 c t a l h)
        ∙ begun-left v t (omega arith) (omega arith)
        ∙ sym (size-digit 0 c t a (or-all (not (eqb c 95))) (rw (lo, hi, e)) (omega arith))

    stop : (a : Bool) → eqb c 39 ≡ a → literal (c ∷ t) ≡ size_left 0 (c ∷ t)
    stop true a = rw a
    stop false a = begins a (ltb c 48) (ltb 57 c) (eqb c 48) refl refl refl
