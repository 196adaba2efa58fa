-- The ops: each as a form at each place, and what holds of the form.
--     form_at        place i of the result; of a merge, with the bit that chooses its arm
--     Accepted      operands that are in order
--     made-form, given-form     the result has that at place i, and a completion gives it
--     Law, law      the form of an op keeps known bits if the op does, and is exact if the op is
use mathlib.Core.Path.{◌≡◌, refl, sym, ◌∙◌, ap, ap₂, subst}
use mathlib.Core.Bool.{Bool, true, false, not, ◌&&◌, ◌||◌, cond}
use mathlib.Core.List.{[], ◌∷◌}
use Prim.Native.Nat.{ℕ, zero, suc, ◌+◌, ◌-◌, ◌<◌}
use native.Mathlib.Omega.{arith}
use native.Mathlib.Nat.{not-suc-le-zero, le_of_suc-le-suc}
use borrow.Author.Tests.{leb-true, ltb-true}
use lib.Dec.{T, eqb, leb, ltb}
use lib.ListN.{length}
use Rattle.bit.specs.declared.LogicBit.{LogicBit}
use Rattle.bit.specs.declared.LogicBit.TheVariants.{Zero, One, X}
use Rattle.bit.specs.Rules.{and_bit, or_bit, xor_bit, not_bit}
use Rattle.words.specs.Vector.{at}
use Rattle.words.specs.Planes.{packed, bit_of}
use Rattle.words.proofs.Planes.{length-tabulate, get_d_tabulate}
use Rattle.bits.specs.Bits.{splice_count, within}
use Rattle.bits.proofs.Splice.{packed-bit}
use Rattle.value.specs.Checks.{Vector}
use Rattle.lanes.specs.declared.Bitwise.{Bitwise}
use Rattle.lanes.specs.declared.Bitwise.TheVariants as bitwise
use Rattle.lanes.specs.Lanes.{op_bit}
use Rattle.extension.specs.Extension.{larger_width, operand_at}
use Rattle.extension.proofs.Extension.{read_left, read_right}
use Rattle.reduce_words.specs.declared.Truth.{Truth}
use Rattle.reduce_words.specs.declared.Truth.TheVariants as truth
use Rattle.reduce_words.specs.Fold.{reduce_and, reduce_or, reduce_xor, truth_of, truth_bit}
use Rattle.compare_words.specs.declared.Comparison.TheVariants as comparison
use Rattle.compare_words.specs.Compared.{compared}
use Rattle.ops.specs.declared.Op.{Op}
use Rattle.ops.specs.declared.Op.TheVariants.{And, Or, Xor, Not, Merge, ReduceAnd, ReduceOr, ReduceXor, Equal, CaseEqual, CasezEqual, CasexEqual, WildcardEqual, LogicAnd, LogicOr, Select, Insert}
use Rattle.ops.specs.declared.Family.{Family}
use Rattle.ops.specs.declared.Family.TheVariants as family
use Rattle.ops.specs.Ops.{family_of, family_refused, answer_bit, vector_truth, selected, family_bits}
use Rattle.ops.proofs.Results.{arms-alike}
use Rattle.knownness.specs.Knownness.{keeps_known, is_exact, merges, arm_at}
use Rattle.knownness.proofs.Bits.{Rule, ExactRule, select_bit, exact_and, exact-or, exact-xor, exact-not, exact-left, exact-right, exact-select}
use Rattle.knownness.proofs.Readings.{Reading, of-bit, of-operand, of_and, of_or, of_xor, of-truth}
use Rattle.knownness.proofs.Forms.{Form, Mono, ExactForm, Frame, of_two, of_three}
use Rattle.knownness.proofs.Equality.{Paired, of-equal}

-- ---- the forms

-- a merge by the bit that chooses its arm
abbrev join_rule : Bitwise → Rule
join_rule bitwise.And t = and_bit
join_rule bitwise.Or t = or_bit
join_rule bitwise.Xor t = xor_bit
join_rule bitwise.Merge t = select_bit t

-- the bit that chooses the arm
abbrev pub arm_bit : (second : Bool) → LogicBit
arm_bit true = Zero
arm_bit false = One

abbrev pub form_at : Family → (pos i : ℕ) → Form
form_at (family.Join j) pos i t a b c = join_rule j t (operand_at a b.header i) (operand_at b a.header i)
form_at family.Not pos i t a b c = not_bit (at a.bits i)
form_at (family.Answer q) pos i t a b c = answer_bit q a b
form_at family.Select pos i t a b c = select_bit (vector_truth a) (at b.bits i) (at c.bits i)
form_at family.Insert pos i t a b c =
    cond (within pos (splice_count (length a.bits) pos b.header.width) i) (at b.bits (i - pos)) (at a.bits i)

-- ---- the result has the form at each place

-- operands that are in order: each has as many bits as its header says, and the arms are not refused
pub record Accepted (k : Family) (a b c : Vector) : Type 0 where
  pub first : length a.bits ≡ a.header.width
  pub second : length b.bits ≡ b.header.width
  pub third : length c.bits ≡ c.header.width
  pub arms : family_refused k b.header c.header ≡ false

join-rule : (j : Bitwise) → op_bit j ≡ join_rule j X
join-rule bitwise.And = refl
join-rule bitwise.Or = refl
join-rule bitwise.Xor = refl
join-rule bitwise.Merge = refl

no-fills : (z p q : Bool) → z || (p || q) ≡ false → T (not p) × T (not q)
no-fills true p q e = absurd (subst T e tt)
no-fills false true q e = absurd (subst T e tt)
no-fills false false true e = absurd (subst T e tt)
no-fills false false false e = (tt, tt)

select-form : (a b c : Vector) → Accepted family.Select a b c → (t : Truth) (i : ℕ) → i < length (selected t b c)
    → at (selected t b c) i ≡ select_bit (truth_bit t) (at b.bits i) (at c.bits i)
select-form a b c f truth.True i l = refl
select-form a b c f truth.False i l = refl
select-form a b c f truth.Unknown i l =
    let n : ℕ = larger_width b.header c.header in
    let m : i < n = subst (λ (n : ℕ). i < n) (length-tabulate n _) l in
    let p = no-fills (not (eqb b.header.width c.header.width)) b.header.is_fill c.header.is_fill f.arms in
    let e = arms-alike b.header c.header f.arms in
    get_d_tabulate n _ i Zero m
    ∙ ap₂ (select_bit X) (read_left b c f.second f.third p.0 p.1 (λ _. sym e) i m)
    (read_right b c f.second f.third p.0 p.1 (λ _. sym e) i m)

insert-form : (b : Vector) (pos n i : ℕ) (x : LogicBit) → n < 65
    → cond (within pos n i) (bit_of (packed (at b.bits)) (i - pos)) x ≡ cond (within pos n i) (at b.bits (i - pos)) x
insert-form b pos n i x l = go (leb pos i) (ltb i (pos + n)) refl refl
  where
    go : (y z : Bool) → leb pos i ≡ y → ltb i (pos + n) ≡ z
        → cond (y && z) (bit_of (packed (at b.bits)) (i - pos)) x ≡ cond (y && z) (at b.bits (i - pos)) x
    go true true e f = let p = leb-true pos i e in let q = ltb-true i (pos + n) f in packed-bit (at b.bits) (i - pos) (omega arith)
    go true false e f = refl
    go false z e f = refl

module _ (a b c : Vector) (pos i : ℕ) where
  pub made-form : (k : Family) → Accepted k a b c → i < length (family_bits k a b c pos) → at (family_bits k a b c pos) i ≡ form_at k pos i X a b c
  made-form (family.Join j) f l =
      let n : ℕ = larger_width a.header b.header in
      get_d_tabulate n _ i Zero (subst (λ (n : ℕ). i < n) (length-tabulate n _) l)
      ∙ ap (λ (g : LogicBit → LogicBit → LogicBit). g (operand_at a b.header i) (operand_at b a.header i)) (join-rule j)
  made-form family.Not f l =
      let n : ℕ = length a.bits in get_d_tabulate n _ i Zero (subst (λ (n : ℕ). i < n) (length-tabulate n _) l)
  made-form (family.Answer q) f l = one i l
    where
      one : (i : ℕ) → i < 1 → at (answer_bit q a b ∷ []) i ≡ answer_bit q a b
      one zero l = refl
      one (suc i) l = absurd (not-suc-le-zero (le_of_suc-le-suc l))
  made-form family.Select f l = select-form a b c f (truth_of a.bits) i l
  made-form family.Insert f l =
      let n : ℕ = length a.bits in
      get_d_tabulate n _ i Zero (subst (λ (n : ℕ). i < n) (length-tabulate n _) l)
      ∙ insert-form b pos (splice_count (length a.bits) pos b.header.width) i (at a.bits i) (omega arith)

  pub given-form : (k : Family) → Accepted k a b c → i < length (family_bits k a b c pos) → (second : Bool)
      → cond (merges k) (arm_at second a b i) (at (family_bits k a b c pos) i) ≡ form_at k pos i (arm_bit second) a b c
  given-form (family.Join bitwise.And) f l second = made-form (family.Join bitwise.And) f l
  given-form (family.Join bitwise.Or) f l second = made-form (family.Join bitwise.Or) f l
  given-form (family.Join bitwise.Xor) f l second = made-form (family.Join bitwise.Xor) f l
  given-form (family.Join bitwise.Merge) f l true = refl
  given-form (family.Join bitwise.Merge) f l false = refl
  given-form family.Not f l second = made-form family.Not f l
  given-form (family.Answer q) f l second = made-form (family.Answer q) f l
  given-form family.Select f l second = made-form family.Select f l
  given-form family.Insert f l second = made-form family.Insert f l

-- ---- what holds of the forms

-- what exactness asks of the operands of an equality
abbrev pub Proper : Op → Vector → Vector → Vector → Type 0
Proper op a b c = op ≡ Equal → Paired a b

pub record Law (op : Op) (F : Form) : Type 0 where
  pub mono : Mono F
  pub exact : T (is_exact op) → ExactForm (Proper op) F

exactly : (op : Op) (F : Form) → ExactForm (Proper op) F → Law op F
exactly op F e = record { mono = e.mono; exact = λ _. e }

exact-join : (j : Bitwise) → ExactRule (join_rule j)
exact-join bitwise.And = exact_and
exact-join bitwise.Or = exact-or
exact-join bitwise.Xor = exact-xor
exact-join bitwise.Merge = exact-select

-- one of two bits
abbrev pick_rule : Bool → Rule
pick_rule z t a b = cond z b a

exact-pick : (z : Bool) → ExactRule (pick_rule z)
exact-pick true = exact-right
exact-pick false = exact-left

-- a rule of one reading of each of a and b
by-readings : (op : Op) (g : Rule) → ExactRule g → (P Q : Vector → LogicBit) → Reading P → Reading Q → Law op (λ t a b c. g t (P a) (Q b))
by-readings op g G P Q p q =
    exactly op (λ t a b c. g t (P a) (Q b)) (of_two (Proper op) (λ s. g) (λ s. G) (λ s. P) (λ s. Q) (λ s. p) (λ s. q))

-- a reading of a
by-reading : (op : Op) (P : Vector → LogicBit) → Reading P → Law op (λ t a b c. P a)
by-reading op P p = by-readings op (λ t a b. a) exact-left P P p p

module _ (pos i : ℕ) where
  by-join : (op : Op) (j : Bitwise) → Law op (form_at (family.Join j) pos i)
  by-join op j = exactly op (form_at (family.Join j) pos i)
      (of_two (Proper op) (λ s. join_rule j) (λ s. exact-join j) (λ s a. operand_at a s.right i) (λ s b. operand_at b s.left i)
      (λ s. of-operand s.right i) (λ s. of-operand s.left i))

  by-select : Law Select (form_at family.Select pos i)
  by-select = exactly Select (form_at family.Select pos i)
      (of_three (Proper Select) select_bit exact-select vector_truth (λ b. at b.bits i) (λ c. at c.bits i) of-truth (of-bit i) (of-bit i))

  by-insert : Law Insert (form_at family.Insert pos i)
  by-insert =
      let z : Frame → Bool = λ s. within pos (splice_count s.left-bits pos s.right.width) i in
      exactly Insert (form_at family.Insert pos i)
      (of_two (Proper Insert) (λ s. pick_rule (z s)) (λ s. exact-pick (z s)) (λ s a. at a.bits i) (λ s b. at b.bits (i - pos))
      (λ s. of-bit i) (λ s. of-bit (i - pos)))

  pub law : (op : Op) → T (keeps_known op) → Law op (form_at (family_of op) pos i)
  law And k = by-join And bitwise.And
  law Or k = by-join Or bitwise.Or
  law Xor k = by-join Xor bitwise.Xor
  law Not k = by-readings Not (λ t a b. not_bit a) exact-not (λ a. at a.bits i) (λ b. at b.bits i) (of-bit i) (of-bit i)
  law Merge k = by-join Merge bitwise.Merge
  law ReduceAnd k = by-reading ReduceAnd (λ a. reduce_and a.bits) of_and
  law ReduceOr k = by-reading ReduceOr (λ a. reduce_or a.bits) of_or
  law ReduceXor k = by-reading ReduceXor (λ a. reduce_xor a.bits) of_xor
  law Equal k = exactly Equal (λ t a b c. compared comparison.Equal a b) (of-equal (Proper Equal) (λ a b c h. h refl))
  law CaseEqual k = absurd k
  law CasezEqual k = absurd k
  law CasexEqual k = absurd k
  law WildcardEqual k = absurd k
  law LogicAnd k = by-readings LogicAnd (λ t. and_bit) exact_and vector_truth vector_truth of-truth of-truth
  law LogicOr k = by-readings LogicOr (λ t. or_bit) exact-or vector_truth vector_truth of-truth of-truth
  law Select k = by-select
  law Insert k = by-insert

-- what is known exactly is kept
pub exact-keeps : (op : Op) → T (is_exact op) → T (keeps_known op)
exact-keeps op k = k
