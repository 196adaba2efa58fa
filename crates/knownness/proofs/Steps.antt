-- The result of an op on whole operands.
--     width-again   a vector has as many bits as its header says, if one of the same header and width does
--     op-keeps      a bit of the result that is known stays, if every bit of the operands that is known does
--     op-exact      a bit of the result is known as v exactly if all completions of the operands give v
use mathlib.Core.Path.{◌≡◌, refl, sym, ◌∙◌, subst, ap}
use mathlib.Core.Bool.{Bool, true, false}
use mathlib.Core.Logic.{◌↔◌, ⊎_elim}
use Prim.Native.Nat.{ℕ, ◌≤◌, ◌<◌}
use lib.Dec.{T}
use lib.ListN.{length, get_or-eq_default}
use Rattle.bit.specs.declared.LogicBit.{LogicBit}
use Rattle.bit.specs.declared.LogicBit.TheVariants.{Zero, One, X, Z}
use Rattle.bit.specs.Rules.{known}
use Rattle.words.specs.Vector.{at}
use Rattle.words.proofs.Digits.{lt-or-ge}
use Rattle.value.specs.Checks.{Vector}
use Rattle.ops.specs.declared.Op.{Op}
use Rattle.ops.specs.Ops.{family_of, arms_refused, op_header, op_bits, op_vector}
use Rattle.ops.proofs.Results.{result-width}
use Rattle.knownness.specs.Knownness.{keeps_known, is_exact, Known, Keeps, Completes, Pointwise, gives}
use Rattle.knownness.proofs.Bits.{keeps-refl}
use Rattle.knownness.proofs.Forms.{Form, ExactForm}
use Rattle.knownness.proofs.Ops.{arm_bit, form_at, Accepted, made-form, given-form, Proper, law, exact-keeps}

-- ---- the operands

pub width-again : (R : LogicBit → LogicBit → Type 0) (a b : Vector) → Pointwise R a b → length a.bits ≡ a.header.width
    → length b.bits ≡ b.header.width
width-again R a b h e = h.1 ∙ e ∙ ap (λ x. x.width) (sym h.0)

width : (op : Op) (pos : ℕ) (a b c : Vector) → Accepted (family_of op) a b c
    → length (op_bits op a b c pos) ≡ (op_header op a.header b.header c.header).width
width op pos a b c o = result-width a b c pos o.first o.second o.third op o.arms

module _ (R : LogicBit → LogicBit → Type 0) (op : Op) (pos : ℕ) (a b c a' b' c' : Vector) (o : Accepted (family_of op) a b c)
    (ha : Pointwise R a a') (hb : Pointwise R b b') (hc : Pointwise R c c') where
  accepted-again : Accepted (family_of op) a' b' c'
  accepted-again = record {
    first = width-again R a a' ha o.first;
    second = width-again R b b' hb o.second;
    third = width-again R c c' hc o.third;
    arms = (λ k. arms_refused op (hb.0 k) (hc.0 k)) ∙ o.arms;
  }

  header-again : (op_vector op a' b' c' pos).header ≡ (op_vector op a b c pos).header
  header-again = λ k. op_header op (ha.0 k) (hb.0 k) (hc.0 k)

  length-again : length (op_bits op a' b' c' pos) ≡ length (op_bits op a b c pos)
  length-again = width op pos a' b' c' accepted-again ∙ ap (λ x. x.width) header-again ∙ sym (width op pos a b c o)

completes-keeps : (a a' : Vector) → Pointwise Completes a a' → Pointwise Keeps a a'
completes-keeps a a' h = (h.0, h.1, λ i. (h.2 i).1)

-- ---- known bits are kept

module _ (op : Op) (pos : ℕ) (a b c : Vector) (o : Accepted (family_of op) a b c) where
  pub op-keeps : (a' b' c' : Vector) → Pointwise Keeps a a' → Pointwise Keeps b b' → Pointwise Keeps c c' → T (keeps_known op)
      → Pointwise Keeps (op_vector op a b c pos) (op_vector op a' b' c' pos)
  op-keeps a' b' c' ha hb hc k = (header-again Keeps op pos a b c a' b' c' o ha hb hc, same, kept)
    where
      same : length (op_bits op a' b' c' pos) ≡ length (op_bits op a b c pos)
      same = length-again Keeps op pos a b c a' b' c' o ha hb hc

      again : Accepted (family_of op) a' b' c'
      again = accepted-again Keeps op pos a b c a' b' c' o ha hb hc

      inner : (i : ℕ) → i < length (op_bits op a b c pos) → Keeps (at (op_bits op a b c pos) i) (at (op_bits op a' b' c' pos) i)
      inner i l =
          let e = made-form a b c pos i (family_of op) o l in
          let e' = made-form a' b' c' pos i (family_of op) again (subst (λ (n : ℕ). i < n) (sym same) l) in
          subst (λ (x : LogicBit). Keeps x (at (op_bits op a' b' c' pos) i)) (sym e)
          (subst (Keeps (form_at (family_of op) pos i X a b c)) (sym e') ((law pos i op k).mono X X a a' b b' c c' (keeps-refl X) ha hb hc))

      outer : (i : ℕ) → length (op_bits op a b c pos) ≤ i → Keeps (at (op_bits op a b c pos) i) (at (op_bits op a' b' c' pos) i)
      outer i l _ =
          get_or-eq_default (op_bits op a' b' c' pos) Zero (subst (λ (n : ℕ). n ≤ i) (sym same) l)
          ∙ sym (get_or-eq_default (op_bits op a b c pos) Zero l)

      kept : (i : ℕ) → Keeps (at (op_bits op a b c pos) i) (at (op_bits op a' b' c' pos) i)
      kept i = ⊎_elim (inner i) (outer i) (lt-or-ge i (length (op_bits op a b c pos)))

  -- ---- what completions give

  module _ (k : T (is_exact op)) (i : ℕ) (l : i < length (op_bits op a b c pos)) where
    abbrev form : Form
    form = form_at (family_of op) pos i

    given : (a' b' c' : Vector) → Pointwise Completes a a' → Pointwise Completes b b' → Pointwise Completes c c' → (second : Bool)
        → gives op pos second a' b' c' i ≡ form (arm_bit second) a' b' c'
    given a' b' c' ha hb hc second =
        given-form a' b' c' pos i (family_of op) (accepted-again Completes op pos a b c a' b' c' o ha hb hc)
        (subst (λ (n : ℕ). i < n) (sym (length-again Completes op pos a b c a' b' c' o ha hb hc)) l) second

    exact : ExactForm (Proper op) form
    exact = (law pos i op (exact-keeps op k)).exact k

    module _ (v : LogicBit) (kv : Known v) where
      abbrev AllGiven : Type 0
      AllGiven = (a' b' c' : Vector) → Pointwise Completes a a' → Pointwise Completes b b' → Pointwise Completes c c' → (second : Bool)
          → gives op pos second a' b' c' i ≡ v

      made : at (op_bits op a b c pos) i ≡ form X a b c
      made = made-form a b c pos i (family_of op) o l

      all-given : at (op_bits op a b c pos) i ≡ v → AllGiven
      all-given e a' b' c' ha hb hc second =
          given a' b' c' ha hb hc second
          ∙ exact.mono X (arm_bit second) a a' b b' c c' (λ k. absurd k) (completes-keeps a a' ha) (completes-keeps b b' hb) (completes-keeps c c' hc)
          (subst Known (sym (sym made ∙ e)) kv) ∙ sym made ∙ e

      -- either arm, by a known bit
      by_arm : AllGiven → (t : LogicBit) → Known t → (a' b' c' : Vector) → Pointwise Completes a a' → Pointwise Completes b b'
          → Pointwise Completes c c' → form t a' b' c' ≡ v
      by_arm g Zero kt a' b' c' ha hb hc = sym (given a' b' c' ha hb hc true) ∙ g a' b' c' ha hb hc true
      by_arm g One kt a' b' c' ha hb hc = sym (given a' b' c' ha hb hc false) ∙ g a' b' c' ha hb hc false
      by_arm g X kt a' b' c' ha hb hc = absurd kt
      by_arm g Z kt a' b' c' ha hb hc = absurd kt

      known-given : Proper op a b c → AllGiven → form X a b c ≡ v
      known-given p g = go (known (form X a b c)) refl
        where
          comes : (r : LogicBit) → Completes (form X a b c) r → r ≡ v
          comes r h =
              let w = exact.full a b c p r h in
              sym w.gives ∙ by_arm g w.t' w.chosen w.a' w.b' w.c' w.first w.second w.third

          go : (z : Bool) → known (form X a b c) ≡ z → form X a b c ≡ v
          go true e = comes (form X a b c) (subst T (sym e) tt, λ k. refl)
          go false e =
              let x = comes Zero (tt, λ k. absurd (subst T e k)) in
              let y = comes One (tt, λ k. absurd (subst T e k)) in
              cc

      pub op-exact : Proper op a b c → (at (op_bits op a b c pos) i ≡ v) ↔ AllGiven
      op-exact p = (all-given, λ g. made ∙ known-given p g)
