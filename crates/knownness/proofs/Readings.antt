-- What is read of one vector: a bit of it, a bit of it as an operand, a reduction. Each reading keeps known bits, is known of a known vector, and
-- every completion of what is read is read of some completion of the vector.
--     made, a-completion  every bit and every vector has a completion
--     Reading             the three properties
--     of-bit, of-operand, of_and, of_or, of_xor, of-truth     the readings
use mathlib.Core.Path.{◌≡◌, refl, sym, ◌∙◌, subst, ap}
use mathlib.Core.Bool.{Bool, true, false, cond}
use mathlib.Core.Logic.{⊎_elim}
use mathlib.Core.List.{List, [], ◌∷◌, map, foldr}
use Prim.Native.Nat.{ℕ, zero, suc, ◌-◌, ◌<◌, ◌≤◌, min}
use native.Mathlib.Omega.{arith}
use lib.ListN.{length, get_or, length-map, get_or-map, get_or-eq_default}
use Rattle.bit.specs.declared.LogicBit.{LogicBit}
use Rattle.bit.specs.declared.LogicBit.TheVariants.{Zero, One, X, Z}
use Rattle.bit.specs.Rules.{and_bit, or_bit, xor_bit}
use Rattle.words.specs.Vector.{at}
use Rattle.words.proofs.Digits.{lt-or-ge}
use Rattle.value.specs.declared.Header.{Header}
use Rattle.value.specs.Checks.{Vector}
use Rattle.extension.specs.Extension.{top, both_signed, operand_at}
use Rattle.extension.proofs.Extension.{inside}
use Rattle.reduce_words.specs.Fold.{reduce_and, reduce_or, reduce_xor, truth_of, truth_bit}
use Rattle.reduce_words.proofs.Folds.{and-fold, or-fold, xor-fold, truth_or}
use Rattle.knownness.specs.Knownness.{Known, Keeps, Completes, Pointwise}
use Rattle.knownness.proofs.Bits.{ExactRule, exact_and, exact-or, exact-xor, keeps-refl}

abbrev pub KnownBits : List LogicBit → Type 0
KnownBits bs = (i : ℕ) → Known (at bs i)

-- as many bits, and R at each place
abbrev pub Listwise : (LogicBit → LogicBit → Type 0) → List LogicBit → List LogicBit → Type 0
Listwise R a b = (length b ≡ length a) × ((i : ℕ) → R (at a i) (at b i))

-- ---- a completion

-- an unknown bit made r
abbrev pub made : LogicBit → LogicBit → LogicBit
made r Zero = Zero
made r One = One
made r X = r
made r Z = r

pub made-completes : (r b : LogicBit) → Known r → Completes b (made r b)
made-completes r Zero k = (tt, λ h. refl)
made-completes r One k = (tt, λ h. refl)
made-completes r X k = (k, λ h. absurd h)
made-completes r Z k = (k, λ h. absurd h)

made_at : (b r : LogicBit) → Completes b r → made r b ≡ r
made_at Zero r h = sym (h.1 tt)
made_at One r h = sym (h.1 tt)
made_at X r h = refl
made_at Z r h = refl

abbrev completed : LogicBit → Vector → Vector
completed r a = record { header = a.header; bits = map (made r) a.bits }

completed-at : (r : LogicBit) (a : Vector) (i : ℕ) → at (completed r a).bits i ≡ made r (at a.bits i)
completed-at r a i = get_or-map (made r) a.bits i Zero

completed-completes : (r : LogicBit) (a : Vector) → Known r → Pointwise Completes a (completed r a)
completed-completes r a k = (
  refl,
  length-map a.bits (made r),
  λ i. subst (Completes (at a.bits i)) (sym (completed-at r a i)) (made-completes r (at a.bits i) k),
)

pub a-completion : (a : Vector) → (a' : Vector) × Pointwise Completes a a'
a-completion a = (completed Zero a, completed-completes Zero a tt)

-- ---- a reading

pub record Reading (S : Vector → LogicBit) : Type 0 where
  pub mono : (a a' : Vector) → Pointwise Keeps a a' → Keeps (S a) (S a')
  pub known : (a : Vector) → KnownBits a.bits → Known (S a)
  pub full : (a : Vector) (r : LogicBit) → Completes (S a) r → (a' : Vector) × Pointwise Completes a a' × (S a' ≡ r)

-- the bit at a place that goes by header and width
module _ (p : Header → ℕ → ℕ) where
  abbrev placed : Vector → LogicBit
  placed a = at a.bits (p a.header (length a.bits))

  of-place : Reading placed
  of-place = record {
    mono = λ a a' h. subst (λ (x : LogicBit). Keeps (placed a) x) (λ k. at a'.bits (p (sym h.0 k) (sym h.1 k))) (h.2 (p a.header (length a.bits)));
    known = λ a k. k (p a.header (length a.bits));
    full = λ a r h. (
      completed r a,
      completed-completes r a h.0,
      ap (λ (n : ℕ). at (completed r a).bits (p a.header n)) (length-map a.bits (made r))
          ∙ completed-at r a (p a.header (length a.bits)) ∙ made_at (placed a) r h,
    );
  }

pub of-bit : (i : ℕ) → Reading (λ a. at a.bits i)
of-bit i = of-place (λ h n. i)

-- ---- an operand

-- where the bit stands that an operand has at place i: a fill, at 0; one that is extended by its top bit, not above it
abbrev place_of : (fill signed : Bool) → ℕ → ℕ → ℕ
place_of fill signed n i = cond fill 0 (cond signed (min i (n - 1)) i)

place_at : (fill signed : Bool) (bs : List LogicBit) (i : ℕ)
    → at bs (place_of fill signed (length bs) i) ≡ cond fill (at bs 0) (get_or bs i (cond signed (top bs) Zero))
place_at true signed bs i = refl
place_at false false bs i = refl
place_at false true bs i = ⊎_elim
    (λ (l : i < length bs). ap (at bs) (omega arith) ∙ sym (inside bs i (top bs) l))
    (λ (l : length bs ≤ i). ap (at bs) (omega arith) ∙ sym (get_or-eq_default bs (top bs) l))
    (lt-or-ge i (length bs))

pub of-operand : (b : Header) (i : ℕ) → Reading (λ a. operand_at a b i)
of-operand b i =
    subst Reading (λ k a. place_at a.header.is_fill (both_signed a.header b) a.bits i k)
    (of-place (λ h n. place_of h.is_fill (both_signed h b) n i))

-- ---- a reduction

no_bits : Listwise Completes [] []
no_bits = (refl, λ i. (tt, λ k. refl))

one_more : (x y : LogicBit) (xs ys : List LogicBit) → Completes x y → Listwise Completes xs ys → Listwise Completes (x ∷ xs) (y ∷ ys)
one_more x y xs ys h t = (ap suc t.0, go)
  where
    go : (i : ℕ) → Completes (at (x ∷ xs) i) (at (y ∷ ys) i)
    go zero = h
    go (suc i) = t.1 i

module _ (f : LogicBit → LogicBit → LogicBit) (e : LogicBit) (G : ExactRule (λ t. f)) where
  pub fold-mono : (a b : List LogicBit) → Listwise Keeps a b → Keeps (foldr f e a) (foldr f e b)
  fold-mono [] [] h = keeps-refl e
  fold-mono [] (y ∷ ys) h = absurd (let q = h.0 in omega arith)
  fold-mono (x ∷ xs) [] h = absurd (let q = h.0 in omega arith)
  fold-mono (x ∷ xs) (y ∷ ys) h =
      G.mono X X x y (foldr f e xs) (foldr f e ys) (keeps-refl X) (h.1 zero) (fold-mono xs ys (let q = h.0 in omega arith, λ i. h.1 (suc i)))

  pub fold-known : Known e → (a : List LogicBit) → KnownBits a → Known (foldr f e a)
  fold-known q [] k = q
  fold-known q (x ∷ xs) k = G.known Zero x (foldr f e xs) tt (k zero) (fold-known q xs (λ i. k (suc i)))

  fold-full : Known e → (a : List LogicBit) (r : LogicBit) → Completes (foldr f e a) r → (b : List LogicBit) × Listwise Completes a b × (foldr f e b ≡ r)
  fold-full q [] r h = ([], no_bits, sym (h.1 q))
  fold-full q (x ∷ xs) r h =
      let w = G.full X x (foldr f e xs) r h in
      let u = fold-full q xs w.b' w.third in
      (w.a' ∷ u.0, one_more x w.a' xs u.0 w.second u.1, ap (f w.a') u.2 ∙ w.gives)

  of-fold : Known e → (S : List LogicBit → LogicBit) → ((bs : List LogicBit) → S bs ≡ foldr f e bs) → Reading (λ a. S a.bits)
  of-fold q S s = subst Reading (λ k a. sym (s a.bits) k) (record {
    mono = λ a a' h. fold-mono a.bits a'.bits (h.1, h.2);
    known = λ a k. fold-known q a.bits k;
    full = λ a r h. let w = fold-full q a.bits r h in
        (record { header = a.header; bits = w.0 }, (refl, w.1.0, w.1.1), w.2);
  })

pub of_and : Reading (λ a. reduce_and a.bits)
of_and = of-fold and_bit One exact_and tt reduce_and and-fold

pub of_or : Reading (λ a. reduce_or a.bits)
of_or = of-fold or_bit Zero exact-or tt reduce_or or-fold

pub of_xor : Reading (λ a. reduce_xor a.bits)
of_xor = of-fold xor_bit Zero exact-xor tt reduce_xor xor-fold

pub of-truth : Reading (λ a. truth_bit (truth_of a.bits))
of-truth = of-fold or_bit Zero exact-or tt (λ bs. truth_bit (truth_of bs)) (λ bs. truth_or bs ∙ or-fold bs)
