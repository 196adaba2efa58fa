-- A text is accepted as a literal of x exactly where it is one.
--     accepts       as stated in specs/Literal
use mathlib.Core.Path.{◌≡◌, refl, sym, ap, ◌∙◌}
use mathlib.Core.Bool.{Bool, true, false, not, ◌&&◌, ◌||◌, cond}
use mathlib.Core.Logic.{◌⊎◌, inl, inr}
use mathlib.Core.List.{List, [], ◌∷◌, ◌++◌}
use Prim.Native.Nat.{ℕ}
use native.Mathlib.Omega.{arith}
use lib.Dec.{eqb}
use borrow.Author.Tests.{eqb-true}
use Rattle.bit.proofs.Tests.{and-true}
use Rattle.refusal.specs.Outcome.{Answer}
use Rattle.refusal.specs.Outcome.Answer.{given, refused}
use Rattle.value.specs.Checks.{Vector}
use Rattle.literal_words.specs.Digits.{between, is_underscore, decimal_number, value_bits, each, is_run, is_value}
use Rattle.literal_words.proofs.Characters.{each-weaker}
use Rattle.literal_read.specs.Literal.{before_apostrophe, behind_apostrophe, is_size, is_s, is_base, sized, based, signed_based, literal}
use Rattle.literal_read.specs.Literal.{is_sign, marked, LiteralOf, Accepts}

-- ---- at the apostrophe

-- a text without an apostrophe
abbrev Free : List ℕ → Type 0
Free s = each (λ c. not (eqb c 39)) s ≡ true

module _ (r : List ℕ) where
  before_text : (s : List ℕ) → Free s → before_apostrophe (s ++ (39 ∷ r)) ≡ s
  unfolding before_apostrophe each
  before_text [] h = refl
  before_text (c ∷ s) h =
      let p = and-true (not (eqb c 39)) (each (λ c. not (eqb c 39)) s) h in
      go (eqb c 39) refl p.0 (before_text s p.1)
    where
      go : (b : Bool) → eqb c 39 ≡ b → not (eqb c 39) ≡ true → before_apostrophe (s ++ (39 ∷ r)) ≡ s → before_apostrophe (c ∷ s ++ (39 ∷ r)) ≡ c ∷ s
      go true e n ih = let z : ◌≡◌ {A = ℕ} 0 1 = cc in absurd (omega arith)
      go false e n ih = rw (e, ih)

  behind-text : (s : List ℕ) → Free s → behind_apostrophe (s ++ (39 ∷ r)) ≡ r
  unfolding behind_apostrophe each
  behind-text [] h = refl
  behind-text (c ∷ s) h =
      let p = and-true (not (eqb c 39)) (each (λ c. not (eqb c 39)) s) h in
      go (eqb c 39) refl p.0 (behind-text s p.1)
    where
      go : (b : Bool) → eqb c 39 ≡ b → not (eqb c 39) ≡ true → behind_apostrophe (s ++ (39 ∷ r)) ≡ r → behind_apostrophe (c ∷ s ++ (39 ∷ r)) ≡ r
      go true e n ih = let z : ◌≡◌ {A = ℕ} 0 1 = cc in absurd (omega arith)
      go false e n ih = rw (e, ih)

-- a text comes apart at its first apostrophe, if it has one
cut : (t : List ℕ) → (t ≡ before_apostrophe t ++ (39 ∷ behind_apostrophe t)) ⊎ (behind_apostrophe t ≡ [])
unfolding before_apostrophe behind_apostrophe
cut [] = inr refl
cut (c ∷ t) = go (eqb c 39) refl (cut t)
  where
    go : (b : Bool) → eqb c 39 ≡ b → (t ≡ before_apostrophe t ++ (39 ∷ behind_apostrophe t)) ⊎ (behind_apostrophe t ≡ [])
        → (c ∷ t ≡ before_apostrophe (c ∷ t) ++ (39 ∷ behind_apostrophe (c ∷ t))) ⊎ (behind_apostrophe (c ∷ t) ≡ [])
    go true e ih = inl (rw e (ap (λ (x : ℕ). x ∷ t) (eqb-true c 39 e)))
    go false e (inl h) = inl (rw e (ap (λ (x : List ℕ). c ∷ x) h))
    go false e (inr h) = inr (rw e h)

apart : (p : ℕ → Bool) → p 39 ≡ false → (c : ℕ) → p c ≡ true → not (eqb c 39) ≡ true
apart p n c h = go (eqb c 39) refl
  where
    go : (b : Bool) → eqb c 39 ≡ b → not b ≡ true
    go true e = sym (ap p (eqb-true c 39 e) ∙ n) ∙ h
    go false e = refl

-- a size has no apostrophe
size-free : (s : List ℕ) → is_size s ≡ true → Free s
unfolding is_size is_run each
size-free [] h = refl
size-free (c ∷ s) h =
    let r = and-true (is_run (between 48 57) (c ∷ s)) _ h in
    let f = and-true (between 48 57 c) (each (λ e. between 48 57 e || is_underscore e) s) r.0 in
    rw (
      apart (between 48 57) refl c f.0,
      each-weaker (λ e. between 48 57 e || is_underscore e) (λ e. not (eqb e 39)) (apart (λ e. between 48 57 e || is_underscore e) refl) s f.1,
    )

-- ---- accepted, so a literal

given-one : (a b : Vector) → ◌≡◌ {A = Answer Vector} (given a) (given b) → b ≡ a
given-one a b e = sym (ap (read a) e)
  where
    read : Vector → Answer Vector → Vector
    read d (given x) = x
    read d (refused n) = d

no_answer : (n : ℕ) (x : Vector) → ◌≡◌ {A = Answer Vector} (refused n) (given x) → ⊥
no_answer n x e = let z : ◌≡◌ {A = ℕ} 0 1 = cc in absurd (omega arith)

module _ (t s : List ℕ) (x : Vector) (size : is_size s ≡ true) where
  of-based : (sign r : List ℕ) → t ≡ s ++ (39 ∷ sign ++ r) → is_sign sign ≡ true → based (decimal_number s) (marked sign) r ≡ given x → LiteralOf t x
  unfolding based
  of-based sign [] e g h = absurd (no_answer 15 x h)
  of-based sign (c ∷ v) e g h = go (is_base c) (is_value c v) refl refl h
    where
      go : (a b : Bool) → is_base c ≡ a → is_value c v ≡ b
          → cond (a && b) (given (record { header = sized (decimal_number s) (marked sign); bits = value_bits c (decimal_number s) v })) (refused 15) ≡ given x
          → LiteralOf t x
      go true true p q h = record {
        parts = record { size = s; sign = sign; base = c; value = v };
        text = e;
        size_holds = size;
        sign_holds = g;
        base_holds = p;
        value_holds = q;
        stands = given-one _ x h;
      }
      go true false p q h = absurd (no_answer 15 x h)
      go false b p q h = absurd (no_answer 15 x h)

  of-signed : (r : List ℕ) → t ≡ s ++ (39 ∷ r) → signed_based (decimal_number s) r ≡ given x → LiteralOf t x
  unfolding signed_based
  of-signed [] e h = absurd (no_answer 15 x h)
  of-signed (c ∷ r) e h = go (is_s c) refl h
    where
      go : (b : Bool) → is_s c ≡ b → cond b (based (decimal_number s) true r) (based (decimal_number s) false (c ∷ r)) ≡ given x → LiteralOf t x
      go true g h = of-based (c ∷ []) r e g h
      go false g h = of-based [] (c ∷ r) e refl h

accepted : (t : List ℕ) (x : Vector) → literal t ≡ given x → LiteralOf t x
unfolding literal signed_based
accepted t x h = go (is_size (before_apostrophe t)) refl h
  where
    parted : is_size (before_apostrophe t) ≡ true → signed_based (decimal_number (before_apostrophe t)) (behind_apostrophe t) ≡ given x
        → (t ≡ before_apostrophe t ++ (39 ∷ behind_apostrophe t)) ⊎ (behind_apostrophe t ≡ []) → LiteralOf t x
    parted e h (inl k) = of-signed t (before_apostrophe t) x e (behind_apostrophe t) k h
    parted e h (inr k) = absurd (no_answer 15 x (sym (ap (signed_based (decimal_number (before_apostrophe t))) k) ∙ h))

    go : (b : Bool) → is_size (before_apostrophe t) ≡ b
        → cond b (signed_based (decimal_number (before_apostrophe t)) (behind_apostrophe t)) (refused 15) ≡ given x → LiteralOf t x
    go true e h = parted e h (cut t)
    go false e h = absurd (no_answer 15 x h)

-- ---- a literal, so accepted

no_sign : (c : ℕ) → is_base c ≡ true → is_s c ≡ false
no_sign c h = go (eqb c 115) (eqb c 83) refl refl
  where
    go : (a b : Bool) → eqb c 115 ≡ a → eqb c 83 ≡ b → (a || b) ≡ false
    go true b p q = sym h ∙ ap is_base (eqb-true c 115 p)
    go false true p q = sym h ∙ ap is_base (eqb-true c 83 q)
    go false false p q = refl

sized-parts : (s r : List ℕ) → is_size s ≡ true → literal (s ++ (39 ∷ r)) ≡ signed_based (decimal_number s) r
unfolding literal
sized-parts s r h = rw (before_text r s (size-free s h), behind-text r s (size-free s h), h)

based-parts : (w : ℕ) (m : Bool) (b : ℕ) (v : List ℕ) → is_base b ≡ true → is_value b v ≡ true
    → based w m (b ∷ v) ≡ given (record { header = sized w m; bits = value_bits b w v })
unfolding based
based-parts w m b v p q = rw (p, q)

signed_parts : (w b : ℕ) (sign v : List ℕ) → is_sign sign ≡ true → is_base b ≡ true
    → signed_based w (sign ++ (b ∷ v)) ≡ based w (marked sign) (b ∷ v)
unfolding signed_based
signed_parts w b [] v g h = rw (no_sign b h)
signed_parts w b (c ∷ []) v g h = rw g
signed_parts w b (c ∷ d ∷ sign) v g h = let z : ◌≡◌ {A = ℕ} 0 1 = cc in absurd (omega arith)

whole : (t : List ℕ) (x : Vector) → LiteralOf t x → literal t ≡ given x
whole t x l =
    let p = l.parts in
    ap literal l.text
    ∙ sized-parts p.size (p.sign ++ (p.base ∷ p.value)) l.size_holds
    ∙ signed_parts (decimal_number p.size) p.base p.sign p.value l.sign_holds l.base_holds
    ∙ based-parts (decimal_number p.size) (marked p.sign) p.base p.value l.base_holds l.value_holds
    ∙ ap (λ (y : Vector). given y) (sym l.stands)

pub accepts : Accepts
accepts t x = (accepted t x, whole t x)
