-- The equality of two operands, as a form: the and of all places, each by whether its bits are the same.
--     Paired          operands in order of which neither is a fill, and which are of equal width if both are signed
--     of-equal        equality is exact where its operands are paired
use mathlib.Core.Path.{◌≡◌, refl, sym, ◌∙◌, subst, ap, ap₂}
use mathlib.Core.Bool.{not}
use mathlib.Core.Logic.{⊎_elim}
use mathlib.Core.List.{foldr}
use Prim.Native.Nat.{ℕ, zero, suc, ◌<◌, ◌≤◌}
use lib.ListN.{length, get_or-eq_default}
use Rattle.bit.specs.declared.LogicBit.{LogicBit}
use Rattle.bit.specs.declared.LogicBit.TheVariants.{Zero, One, X}
use Rattle.bit.specs.Rules.{and_bit}
use Rattle.bit.proofs.Tests.{and_left, and_right}
use Rattle.words.specs.Vector.{tabulate, at}
use Rattle.words.proofs.Digits.{lt-or-ge}
use Rattle.words.proofs.Planes.{length-tabulate, get_d_tabulate, get_d-tabulate-out, eq-tabulate}
use Rattle.value.specs.declared.Header.{Header}
use Rattle.value.specs.Checks.{Vector}
use Rattle.extension.specs.Extension.{larger_width, read_signed, operand_at}
use Rattle.extension.proofs.Extension.{Plainly, read_left, read_right}
use Rattle.reduce_words.proofs.Folds.{and-fold}
use Rattle.compare_words.specs.declared.Comparison.TheVariants as comparison
use Rattle.compare_words.specs.Compared.{compared}
use Rattle.compare_words.proofs.Places.{compared-and}
use Rattle.knownness.specs.Knownness.{Known, Keeps, Completes, Pointwise, Comparable}
use Rattle.knownness.proofs.Bits.{same_bit, exact_and, exact_same, keeps-refl}
use Rattle.knownness.proofs.Readings.{KnownBits, made, made-completes, a-completion, of-operand, fold-mono, fold-known}
use Rattle.knownness.proofs.Forms.{Form, Realized, Mono, ExactForm, of_two}

-- place i of an equality
abbrev same_at : ℕ → Form
same_at i t a b c = same_bit (operand_at a b.header i) (operand_at b a.header i)

of-same : (i : ℕ) → ExactForm (λ a b c. Unit) (same_at i)
of-same i =
    of_two (λ a b c. Unit) (λ s t. same_bit) (λ s. exact_same) (λ s a. operand_at a s.right i) (λ s b. operand_at b s.left i)
    (λ s. of-operand s.right i) (λ s. of-operand s.left i)

-- as the and of all places
equal-fold : (t : LogicBit) (a b c : Vector)
    → foldr and_bit One (tabulate (larger_width a.header b.header) (λ i. same_at i t a b c)) ≡ compared comparison.Equal a b
equal-fold t a b c = sym (compared-and a b ∙ and-fold (tabulate (larger_width a.header b.header) (λ i. same_at i t a b c)))

tabulate-keeps : (n : ℕ) (f g : ℕ → LogicBit) → ((i : ℕ) → Keeps (f i) (g i)) → (i : ℕ) → Keeps (at (tabulate n f) i) (at (tabulate n g) i)
unfolding tabulate
tabulate-keeps zero f g h i = keeps-refl Zero
tabulate-keeps (suc n) f g h zero = h zero
tabulate-keeps (suc n) f g h (suc i) = tabulate-keeps n (λ j. f (suc j)) (λ j. g (suc j)) (λ j. h (suc j)) i

tabulate-known : (n : ℕ) (f : ℕ → LogicBit) → ((i : ℕ) → Known (f i)) → KnownBits (tabulate n f)
unfolding tabulate
tabulate-known zero f h i = tt
tabulate-known (suc n) f h zero = h zero
tabulate-known (suc n) f h (suc i) = tabulate-known n (λ j. f (suc j)) (λ j. h (suc j)) i

equal-mono : Mono (λ t a b c. compared comparison.Equal a b)
equal-mono t t' a a' b b' c c' ht ha hb hc =
    let n : ℕ = larger_width a.header b.header in
    let f : ℕ → LogicBit = λ i. same_at i t a b c in
    let g : ℕ → LogicBit = λ i. same_at i t' a' b' c' in
    let k : Keeps (foldr and_bit One (tabulate n f)) (foldr and_bit One (tabulate n g)) =
    fold-mono and_bit One exact_and (tabulate n f) (tabulate n g)
    (length-tabulate n g ∙ sym (length-tabulate n f), tabulate-keeps n f g (λ i. (of-same i).mono t t' a a' b b' c c' ht ha hb hc)) in
    subst (λ (x : LogicBit). Keeps x (compared comparison.Equal a' b')) (equal-fold t a b c)
    (subst (Keeps (foldr and_bit One (tabulate n f)))
    (ap₂ (λ (x y : Header). foldr and_bit One (tabulate (larger_width x y) g)) (sym ha.0) (sym hb.0) ∙ equal-fold t' a' b' c') k)

equal-known : (a b : Vector) → KnownBits a.bits → KnownBits b.bits → Known (compared comparison.Equal a b)
equal-known a b ka kb =
    let n : ℕ = larger_width a.header b.header in
    let f : ℕ → LogicBit = λ i. same_at i Zero a b a in
    subst Known (equal-fold Zero a b a)
    (fold-known and_bit One exact_and tt (tabulate n f) (tabulate-known n f (λ i. (of-same i).known Zero a b a tt ka kb ka)))

-- operands in order that an equality can compare exactly
pub record Paired (a b : Vector) : Type 0 where
  pub left : length a.bits ≡ a.header.width
  pub right : length b.bits ≡ b.header.width
  pub comparable : Comparable a.header b.header

-- operands that are read as signed are marked so
comparable-plainly : (a b : Header) → Comparable a b → Plainly a b
comparable-plainly a b p t =
    p.2 (and_right (not a.is_fill) a.is_signed (and_left (read_signed a) (read_signed b) t))
    (and_right (not b.is_fill) b.is_signed (and_right (read_signed a) (read_signed b) t))

-- the and of the first n places
paired : ℕ → (f g : ℕ → LogicBit) → LogicBit
paired n f g = foldr and_bit One (tabulate n (λ i. same_bit (f i) (g i)))

equal-paired : (a b : Vector) → Paired a b → compared comparison.Equal a b ≡ paired (larger_width a.header b.header) (at a.bits) (at b.bits)
unfolding paired
equal-paired a b h =
    let f : ℕ → LogicBit = λ i. same_at i Zero a b a in
    let n : ℕ = larger_width a.header b.header in
    let p = h.comparable in
    sym (equal-fold Zero a b a)
    ∙ ap (foldr and_bit One)
    (eq-tabulate n (λ i. same_bit (at a.bits i) (at b.bits i)) (tabulate n f) Zero (length-tabulate n f)
    (λ i l. get_d_tabulate n f i Zero l ∙ ap₂ same_bit
    (read_left a b h.left h.right p.0 p.1 (comparable-plainly a.header b.header p) i l)
    (read_right a b h.left h.right p.0 p.1 (comparable-plainly a.header b.header p) i l)))

-- a bit before the others
abbrev prepended : LogicBit → (ℕ → LogicBit) → ℕ → LogicBit
prepended x f zero = x
prepended x f (suc i) = f i

prepended-completes : (f : ℕ → LogicBit) (x : LogicBit) (g : ℕ → LogicBit) → Completes (f 0) x → ((i : ℕ) → Completes (f (suc i)) (g i))
    → (i : ℕ) → Completes (f i) (prepended x g i)
prepended-completes f x g h t zero = h
prepended-completes f x g h t (suc i) = t i

paired-full : (n : ℕ) (f g : ℕ → LogicBit) (r : LogicBit) → Completes (paired n f g) r
    → (f' : ℕ → LogicBit) × (g' : ℕ → LogicBit) × ((i : ℕ) → Completes (f i) (f' i)) × ((i : ℕ) → Completes (g i) (g' i)) × (paired n f' g' ≡ r)
unfolding paired tabulate
paired-full zero f g r h = (
  λ i. made Zero (f i),
  λ i. made Zero (g i),
  λ i. made-completes Zero (f i) tt,
  λ i. made-completes Zero (g i) tt,
  sym (h.1 tt),
)
paired-full (suc n) f g r h =
    let w = exact_and.full X (same_bit (f 0) (g 0)) (paired n (λ i. f (suc i)) (λ i. g (suc i))) r h in
    let u = exact_same.full X (f 0) (g 0) w.a' w.second in
    let v = paired-full n (λ i. f (suc i)) (λ i. g (suc i)) w.b' w.third in (
      prepended u.a' v.0,
      prepended u.b' v.1,
      prepended-completes f u.a' v.0 u.second v.2,
      prepended-completes g u.b' v.1 u.third v.3,
      ap₂ and_bit u.gives v.4 ∙ w.gives,
    )

-- the vector with the bits f in the places of a
abbrev with_bits : Vector → (ℕ → LogicBit) → Vector
with_bits a f = record { header = a.header; bits = tabulate (length a.bits) f }

module _ (a : Vector) (f : ℕ → LogicBit) (h : (i : ℕ) → Completes (at a.bits i) (f i)) where
  -- beyond the width both are 0
  with_at : (i : ℕ) → at (with_bits a f).bits i ≡ f i
  with_at i = ⊎_elim
      (λ (l : i < length a.bits). get_d_tabulate (length a.bits) f i Zero l)
      (λ (l : length a.bits ≤ i).
      let e = get_or-eq_default a.bits Zero l in
      get_d-tabulate-out (length a.bits) f i Zero l ∙ sym ((h i).1 (subst Known (sym e) tt) ∙ e))
      (lt-or-ge i (length a.bits))

  with-completes : Pointwise Completes a (with_bits a f)
  with-completes = (refl, length-tabulate (length a.bits) f, λ i. subst (Completes (at a.bits i)) (sym (with_at i)) (h i))

module _ (C : Vector → Vector → Vector → Type 0) (Paired-by : (a b c : Vector) → C a b c → Paired a b) where
  equal-full : (a b c : Vector) → C a b c → (r : LogicBit) → Completes (compared comparison.Equal a b) r
      → Realized (λ t a b c. compared comparison.Equal a b) a b c r
  equal-full a b c h r k =
      let p = Paired-by a b c h in
      let n : ℕ = larger_width a.header b.header in
      let w = paired-full n (at a.bits) (at b.bits) r (subst (λ (x : LogicBit). Completes x r) (equal-paired a b p) k) in
      let u : Vector = with_bits a w.0 in
      let v : Vector = with_bits b w.1 in
      let q : Paired u v = record {
        left = length-tabulate (length a.bits) w.0 ∙ p.left;
        right = length-tabulate (length b.bits) w.1 ∙ p.right;
        comparable = p.comparable;
      } in
      let o = a-completion c in
      record {
        t' = Zero;
        a' = u;
        b' = v;
        c' = o.0;
        chosen = tt;
        first = with-completes a w.0 w.2;
        second = with-completes b w.1 w.3;
        third = o.1;
        gives = equal-paired u v q ∙ (λ k. paired n (λ i. with_at a w.0 w.2 i k) (λ i. with_at b w.1 w.3 i k)) ∙ w.4;
      }

  pub of-equal : ExactForm C (λ t a b c. compared comparison.Equal a b)
  of-equal = record { mono = equal-mono; known = λ t a b c kt ka kb kc. equal-known a b ka kb; full = equal-full }
