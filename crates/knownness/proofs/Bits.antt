-- The rules of single bits: each keeps known bits, is known at known bits, and every completion of its value is its value at some completion of
-- its bits. One computed test a rule.
--     keeps-refl, refines-keeps     the relations on bits
--     Rule, ExactRule     a rule of three bits, and one that is exact so
--     exact_and ..        the rules that are; select_bit has the truth of a select first, same_bit is one place of an equality
use mathlib.Core.Path.{◌≡◌, refl, sym, subst}
use mathlib.Core.Bool.{Bool, true, false, not, ◌&&◌, ◌||◌}
use mathlib.Core.Logic.{inl, inr}
use lib.Dec.{T}
use Rattle.bit.specs.declared.LogicBit.{LogicBit}
use Rattle.bit.specs.declared.LogicBit.TheVariants.{Zero, One, X, Z}
use Rattle.bit.specs.Rules.{same, known, and_bit, or_bit, xor_bit, merge_bit, not_bit}
use Rattle.bit.proofs.Tests.{and_left, and_right, and_intro}
use Rattle.bit.proofs.Table.{all, each, same-eq}
use Rattle.knownness.specs.Knownness.{Known, Keeps, Refines, Completes}

-- ---- the relations

pub keeps-refl : (a : LogicBit) → Keeps a a
keeps-refl a k = refl

pub refines-keeps : (a b : LogicBit) → Refines a b → Keeps a b
refines-keeps a b (inl e) k = e
refines-keeps Zero b (inr h) k = absurd h.0
refines-keeps One b (inr h) k = absurd h.0
refines-keeps X b (inr h) k = absurd k
refines-keeps Z b (inr h) k = absurd k

-- ---- the relations as tests

abbrev implies : Bool → Bool → Bool
implies a b = not a || b

by-implies : (a b : Bool) → T (implies a b) → T a → T b
by-implies true b t u = t
by-implies false b t u = absurd u

abbrev keeps : LogicBit → LogicBit → Bool
keeps a b = implies (known a) (same b a)

keeps-told : (a b : LogicBit) → T (keeps a b) → Keeps a b
keeps-told a b t k = same-eq b a (by-implies (known a) (same b a) t k)

keeps-test : (a b : LogicBit) → Keeps a b → T (keeps a b)
keeps-test Zero b h = subst (λ (x : LogicBit). T (same x Zero)) (sym (h tt)) tt
keeps-test One b h = subst (λ (x : LogicBit). T (same x One)) (sym (h tt)) tt
keeps-test X b h = tt
keeps-test Z b h = tt

abbrev completes : LogicBit → LogicBit → Bool
completes a r = known r && keeps a r

completes-told : (a r : LogicBit) → T (completes a r) → Completes a r
completes-told a r t = (and_left (known r) (keeps a r) t, keeps-told a r (and_right (known r) (keeps a r) t))

completes-test : (a r : LogicBit) → Completes a r → T (completes a r)
completes-test a r h = and_intro (known r) (keeps a r) h.0 (keeps-test a r h.1)

-- ---- a rule of three bits

abbrev pub Rule : Type 0
Rule = LogicBit → LogicBit → LogicBit → LogicBit

-- bits that complete t, a and b and at which the rule gives r
pub record Completed (g : Rule) (t a b r : LogicBit) : Type 0 where
  pub t' : LogicBit
  pub a' : LogicBit
  pub b' : LogicBit
  pub first : Completes t t'
  pub second : Completes a a'
  pub third : Completes b b'
  pub gives : g t' a' b' ≡ r

pub record ExactRule (g : Rule) : Type 0 where
  pub mono : (t t' a a' b b' : LogicBit) → Keeps t t' → Keeps a a' → Keeps b b' → Keeps (g t a b) (g t' a' b')
  pub known : (t a b : LogicBit) → Known t → Known a → Known b → Known (g t a b)
  pub full : (t a b r : LogicBit) → Completes (g t a b) r → Completed g t a b r

-- ---- the test

abbrev all2 : (LogicBit → LogicBit → Bool) → Bool
all2 p = all (λ a. all (p a))

each2 : (p : LogicBit → LogicBit → Bool) → T (all2 p) → (a b : LogicBit) → T (p a b)
each2 p t a b = each (p a) (each (λ a. all (p a)) t a) b

by_three : (a b c d : Bool) → T (implies a (implies b (implies c d))) → T a → T b → T c → T d
by_three a b c d t x y z = by-implies c d (by-implies b (implies c d) (by-implies a (implies b (implies c d)) t x) y) z

-- 0 or 1 passes
abbrev some : (LogicBit → Bool) → Bool
some p = p Zero || p One

some-found : (p : LogicBit → Bool) → T (some p) → (b : LogicBit) × T (p b)
some-found p t = go (p Zero) refl t
  where
    go : (z : Bool) → p Zero ≡ z → T (z || p One) → (b : LogicBit) × T (p b)
    go true e u = (Zero, subst T (sym e) tt)
    go false e u = (One, u)

module _ (g : Rule) where
  mono_at : (t t' a a' b b' : LogicBit) → Bool
  mono_at t t' a a' b b' = implies (keeps t t') (implies (keeps a a') (implies (keeps b b') (keeps (g t a b) (g t' a' b'))))

  known_at : (t a b : LogicBit) → Bool
  known_at t a b = implies (known t) (implies (known a) (implies (known b) (known (g t a b))))

  completed_at : (t a b r t' a' b' : LogicBit) → Bool
  completed_at t a b r t' a' b' = completes t t' && (completes a a' && (completes b b' && same (g t' a' b') r))

  full_at : (t a b r : LogicBit) → Bool
  full_at t a b r = implies (completes (g t a b) r) (some λ t'. some λ a'. some λ b'. completed_at t a b r t' a' b')

  passes : Bool
  passes =
      all2 (λ t t'. all2 λ a a'. all2 λ b b'. mono_at t t' a a' b b')
      && (all2 (λ t a. all (known_at t a)) && all2 (λ t a. all2 (full_at t a)))

  told : (t a b r : LogicBit) → T (some λ t'. some λ a'. some λ b'. completed_at t a b r t' a' b') → Completed g t a b r
  unfolding completed_at
  told t a b r h =
      let u = some-found (λ t'. some λ a'. some λ b'. completed_at t a b r t' a' b') h in
      let v = some-found (λ a'. some λ b'. completed_at t a b r u.0 a' b') u.1 in
      let w = some-found (λ b'. completed_at t a b r u.0 v.0 b') v.1 in
      let p : Bool = same (g u.0 v.0 w.0) r in
      let q : Bool = completes b w.0 && p in
      let x = and_right (completes t u.0) (completes a v.0 && q) w.1 in
      let y = and_right (completes a v.0) q x in
      record {
        t' = u.0;
        a' = v.0;
        b' = w.0;
        first = completes-told t u.0 (and_left (completes t u.0) (completes a v.0 && q) w.1);
        second = completes-told a v.0 (and_left (completes a v.0) q x);
        third = completes-told b w.0 (and_left (completes b w.0) p y);
        gives = same-eq (g u.0 v.0 w.0) r (and_right (completes b w.0) p y);
      }

  exact-of : T passes → ExactRule g
  unfolding passes mono_at known_at full_at
  exact-of p =
      let m : Bool = all2 λ t t'. all2 λ a a'. all2 λ b b'. mono_at t t' a a' b b' in
      let k : Bool = all2 λ t a. all (known_at t a) in
      let f : Bool = all2 λ t a. all2 (full_at t a) in
      let q : T (k && f) = and_right m (k && f) p in
      record {
        mono = λ t t' a a' b b' ht ha hb. keeps-told (g t a b) (g t' a' b')
            (by_three (keeps t t') (keeps a a') (keeps b b') (keeps (g t a b) (g t' a' b'))
            (each2 (mono_at t t' a a')
            (each2 (λ a a'. all2 (mono_at t t' a a')) (each2 (λ t t'. all2 λ a a'. all2 (mono_at t t' a a')) (and_left m (k && f) p) t t') a a') b b')
            (keeps-test t t' ht) (keeps-test a a' ha) (keeps-test b b' hb));
        known = λ t a b ht ha hb. by_three (known t) (known a) (known b) (known (g t a b))
            (each (known_at t a) (each2 (λ t a. all (known_at t a)) (and_left k f q) t a) b) ht ha hb;
        full = λ t a b r h. told t a b r
            (by-implies (completes (g t a b) r) (some λ t'. some λ a'. some λ b'. completed_at t a b r t' a' b')
            (each2 (full_at t a) (each2 (λ t a. all2 (full_at t a)) (and_right k f q) t a) b r) (completes-test (g t a b) r h));
      }

-- ---- the rules

-- true gives the first arm's bit as it stands, false the second's, unknown merges them
abbrev pub select_bit : Rule
select_bit Zero b c = c
select_bit One b c = b
select_bit X b c = merge_bit b c
select_bit Z b c = merge_bit b c

-- one place of an equality: x if either is unknown, else whether they are the same
abbrev pub same_bit : LogicBit → LogicBit → LogicBit
same_bit a b = not_bit (xor_bit a b)

pub exact_and : ExactRule (λ t. and_bit)
unfolding passes mono_at known_at completed_at full_at
exact_and = exact-of _ tt

pub exact-or : ExactRule (λ t. or_bit)
unfolding passes mono_at known_at completed_at full_at
exact-or = exact-of _ tt

pub exact-xor : ExactRule (λ t. xor_bit)
unfolding passes mono_at known_at completed_at full_at
exact-xor = exact-of _ tt

pub exact_same : ExactRule (λ t. same_bit)
unfolding passes mono_at known_at completed_at full_at
exact_same = exact-of _ tt

pub exact-not : ExactRule (λ t a b. not_bit a)
unfolding passes mono_at known_at completed_at full_at
exact-not = exact-of _ tt

pub exact-left : ExactRule (λ t a b. a)
unfolding passes mono_at known_at completed_at full_at
exact-left = exact-of _ tt

pub exact-right : ExactRule (λ t a b. b)
unfolding passes mono_at known_at completed_at full_at
exact-right = exact-of _ tt

pub exact-select : ExactRule select_bit
unfolding passes mono_at known_at completed_at full_at
exact-select = exact-of _ tt
