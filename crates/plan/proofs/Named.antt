-- The operands that a step names.
--     unread          what an op refuses and gives does not depend on the operands that it does not use
--     names-within    each cell that an accepted step names is filled
--     names-filled, names-unfilled     a step is accepted by 11 where each cell that it names is filled, and else it is not
use mathlib.Core.Path.{◌≡◌, refl}
use mathlib.Core.Bool.{Bool, true, false, ◌&&◌, ◌||◌, cond}
use Prim.Native.Nat.{ℕ, ◌<◌}
use borrow.Author.Tests.{ltb-true, lt-ltb}
use lib.Dec.{ltb}
use Rattle.bit.proofs.Tests.{and-true}
use Rattle.value.specs.Checks.{Vector}
use Rattle.ops.specs.declared.Step.{Step}
use Rattle.ops.specs.declared.Question.TheVariants as question
use Rattle.ops.specs.declared.Family.{Family}
use Rattle.ops.specs.declared.Family.TheVariants as family
use Rattle.ops.specs.Ops.{family_operands, operands, family_refused, family_header, family_bits}
use Rattle.machine.specs.Machine.{names}
use Rattle.plan.specs.Planned.{named}

-- ---- what is not read

-- the numbers a, b, c name vectors
module _ (g : ℕ → Vector) (a b c pos : ℕ) where
  abbrev vector_by : Family → ℕ → ℕ → Vector
  vector_by k b c = record { header = family_header k (g a).header (g b).header (g c).header; bits = family_bits k (g a) (g b) (g c) pos }

  abbrev second : Family → ℕ
  second k = cond (ltb (family_operands k) 2) a b

  abbrev third : Family → ℕ
  third k = cond (ltb (family_operands k) 3) a c

  pub unread : (k : Family) → (family_refused k (g b).header (g c).header ≡ family_refused k (g (second k)).header (g (third k)).header)
      × (vector_by k b c ≡ vector_by k (second k) (third k))
  unread (family.Join j) = (refl, refl)
  unread family.Not = (refl, refl)
  unread (family.Answer question.ReduceAnd) = (refl, refl)
  unread (family.Answer question.ReduceOr) = (refl, refl)
  unread (family.Answer question.ReduceXor) = (refl, refl)
  unread (family.Answer (question.Compare q)) = (refl, refl)
  unread (family.Answer question.LogicAnd) = (refl, refl)
  unread (family.Answer question.LogicOr) = (refl, refl)
  unread family.Select = (refl, refl)
  unread family.Insert = (refl, refl)

-- ---- the numbers

either-within : (t : Bool) (x y n : ℕ) → x < n → t || ltb y n ≡ true → cond t x y < n
either-within true x y n h e = h
either-within false x y n h e = ltb-true y n e

pub record NamesFilled (n : ℕ) (s : Step) : Type 0 where
  pub a : (named s).a < n
  pub b : (named s).b < n
  pub c : (named s).c < n

pub names-within : (n : ℕ) (s : Step) → names n s ≡ true → NamesFilled n s
names-within n s h =
    let x = ltb s.a n in
    let y = ltb (operands s.op) 2 || ltb s.b n in
    let p = and-true (x && y) (ltb (operands s.op) 3 || ltb s.c n) h in
    let q = and-true x y p.0 in
    let l = ltb-true s.a n q.0 in
    record { a = l; b = either-within (ltb (operands s.op) 2) s.a s.b n l q.1; c = either-within (ltb (operands s.op) 3) s.a s.c n l p.1 }

-- and the step is accepted where each is
either-filled : (t : Bool) (x y n : ℕ) → cond t x y < n → t || ltb y n ≡ true
either-filled true x y n h = refl
either-filled false x y n h = lt-ltb y n h

pub names-filled : (n : ℕ) (s : Step) → NamesFilled n s → names n s ≡ true
names-filled n s h =
    simp (lt-ltb s.a n h.a, either-filled (ltb (operands s.op) 2) s.a s.b n h.b, either-filled (ltb (operands s.op) 3) s.a s.c n h.c)

pub names-unfilled : (n : ℕ) (s : Step) → (NamesFilled n s → ⊥) → names n s ≡ false
names-unfilled n s h = go (names n s) refl
  where
    go : (b : Bool) → names n s ≡ b → b ≡ false
    go true e = absurd (h (names-within n s e))
    go false e = refl
