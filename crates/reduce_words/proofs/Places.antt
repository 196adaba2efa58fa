-- A vector by its places, and by the words of its planes.
--     any_some, any_found     some member passes a test where some place does; one that fails the test stands beyond the end
--     any-tabulate            the same for a list that is told place by place
--     inside, outside         a place below the width is two digits of word k; beyond the width the vector is continued
--     lent-planes             planes that are lent to a function have words of 64 digits
--     unknown-word, one_word, zero_word    the numbers of word k tell whether a bit of it is unknown, a known 1 or a known 0
use mathlib.Core.Path.{◌≡◌, refl, sym, ap, ap₂, ◌∙◌}
use mathlib.Core.Logic.{⊎_elim}
use mathlib.Core.Bool.{Bool, true, false, not, ◌||◌, or_assoc}
use mathlib.Core.List.{List}
use Prim.Native.Nat.{ℕ, zero, suc, ◌+◌, ◌-◌, ◌*◌, ◌≤◌, ◌<◌, min}
use native.Mathlib.Nat.{lt_of_le_of_lt}
use native.Mathlib.Omega.{arith}
use Rattle.std.proofs.Common.{Fits, w64}
use lib.Dec.{T, eqb}
use lib.ListN.{length, get_or}
use lib.Bits.{bit_and, bit_or, and_mask, and_le_l}
use Rattle.bit.specs.declared.LogicBit.{LogicBit}
use Rattle.bit.specs.declared.LogicBit.TheVariants.{Zero, One}
use Rattle.bit.specs.Rules.{same}
use Rattle.words.specs.declared.Word.{Word}
use Rattle.words.specs.Vector.{at, bit_at, tabulate}
use Rattle.words.specs.Planes.{stored, bit_of, plane_bit, from_planes, lent, word_in, complement, width_mask, Plane, Words64}
use Rattle.words.proofs.Digits.{bit-mod, bit-mod-above, lt-or-ge}
use Rattle.words.proofs.Planes.{get_d_tabulate, get_d-tabulate-out, plane-bit, operand}
use Rattle.words.proofs.Lanes.{Lane, word, gives}
use Rattle.reduce_words.specs.Fold.{any_of, is_unknown}
use Rattle.reduce_words.proofs.Gather.{gather, some, gather_cong, gather-add, gather-word, of-list}
use Rattle.reduce_words.proofs.Marks.{nonzero, mark, marks-lt, marks-bit, some-marked}

pub some_word : (k : ℕ) (f : ℕ → Bool) → some ((k + 1) * 64) f ≡ (some (k * 64) f || some 64 (λ j. f (k * 64 + j)))
some_word = gather-word ◌||◌ false (λ b. refl) or_assoc

module _ {B : Type 0} (p : B → Bool) (e : B) (fails : p e ≡ false) (bs : List B) where
  pub any_some : (n : ℕ) → length bs ≤ n → any_of p bs ≡ some n (λ i. p (get_or bs i e))
  any_some = of-list ◌||◌ false (λ b. refl) (any_of p) p refl (λ b bs. refl) e fails bs

  pub any_found : (n : ℕ) → some n (λ i. p (get_or bs i e)) ≡ true → any_of p bs ≡ true
  any_found n h =
      any_some (n + length bs) (omega arith)
      ∙ gather-add ◌||◌ false (λ b. refl) or_assoc n (length bs) (λ i. p (get_or bs i e))
      ∙ ap (λ (z : Bool). z || some (length bs) (λ i. p (get_or bs (n + i) e))) h

-- some place of a tabulated list
pub any-tabulate : {B : Type 0} (p : B → Bool) (n : ℕ) (f : ℕ → B) → any_of p (tabulate n f) ≡ some n (λ i. p (f i))
unfolding tabulate gather
any-tabulate p zero f = refl
any-tabulate p (suc n) f = ap (λ (z : Bool). p (f 0) || z) (any-tabulate p n (λ i. f (suc i)))

-- ---- planes

-- the planes of a vector, whose words have 64 digits
pub record WordPlanes (w : ℕ) (v u : List ℕ) : Type 0 where
  pub value-plane : Plane w v
  pub unknown-plane : Plane w u
  pub words : Words64 (lent v u)

-- what a function knows of planes that were lent to it
pub lent-planes : {w : ℕ} {v u : List ℕ} → Plane w v → Plane w u → ((k : ℕ) → Fits w64 (get_or v k 0)) → ((k : ℕ) → Fits w64 (get_or u k 0)) → WordPlanes w v u
lent-planes p q f g =
    record { value-plane = p; unknown-plane = q; words = record { value-words = λ k. (f k).fits; unknown-words = λ k. (g k).fits } }

abbrev pub unknown_at : List LogicBit → ℕ → Bool
unknown_at bs i = is_unknown (at bs i)

module _ (w : ℕ) (v u : List ℕ) where
  pub inside : (e : LogicBit) (k j : ℕ) → j < 64 → k * 64 + j < w
      → get_or (from_planes w v u) (k * 64 + j) e ≡ stored (bit_at (get_or v k 0) j) (bit_at (get_or u k 0) j)
  inside e k j l m =
      get_d_tabulate w (λ i. stored (plane_bit v i) (plane_bit u i)) (k * 64 + j) e m ∙ sym (ap₂ stored (plane-bit v k j l) (plane-bit u k j l))

  pub outside : (e : LogicBit) (i : ℕ) → w ≤ i → get_or (from_planes w v u) i e ≡ e
  outside e i m = get_d-tabulate-out w (λ i. stored (plane_bit v i) (plane_bit u i)) i e m

  module _ (p : WordPlanes w v u) where
    -- a test that a lane formula gives, of the bits of word k
    some-tested : (t : LogicBit → Bool) (e : Lane) → T (gives e (λ a b. mark (t a))) → (k : ℕ)
        → not (eqb (word e (get_or v k 0) (get_or u k 0) 0 0) 0) ≡ some 64 (λ j. t (at (from_planes w v u) (k * 64 + j)))
    some-tested t e g k =
        some-marked t e g (word_in (lent v u) k) (p.words.value-words k) (p.words.unknown-words k)
        ∙ gather_cong ◌||◌ false 64 (λ j. t (bit_of (word_in (lent v u) k) j)) (λ j. t (at (from_planes w v u) (k * 64 + j)))
        (λ j l. ap t (operand w v u p.value-plane p.unknown-plane k j l))

    pub unknown-word : (k : ℕ) → not (eqb (get_or u k 0) 0) ≡ some 64 (λ j. unknown_at (from_planes w v u) (k * 64 + j))
    unknown-word = some-tested is_unknown Lane.au tt

    pub one_word : (k : ℕ) → not (eqb (bit_and (get_or v k 0) (complement (get_or u k 0))) 0) ≡ some 64 (λ j. same One (at (from_planes w v u) (k * 64 + j)))
    one_word = some-tested (same One) (Lane.and Lane.av (Lane.neg Lane.au)) tt

    -- beyond the width the vector is continued by 1
    pub zero_word : (k : ℕ)
        → not (eqb (bit_and (complement (bit_or (get_or v k 0) (get_or u k 0))) (width_mask w k)) 0) ≡ some 64 (λ j. same Zero (get_or (from_planes w v u) (k * 64 + j) One))
    zero_word k =
        let x : Word = word_in (lent v u) k in
        let n : ℕ = min 64 (w - k * 64) in
        let marks : ℕ = complement (bit_or x.value x.unknown) in
        let e : Lane = Lane.neg (Lane.or Lane.av Lane.au) in
        let hv = p.words.value-words k in
        let hu = p.words.unknown-words k in
        nonzero 64 (bit_and marks (width_mask w k)) (lt_of_le_of_lt (and_le_l marks (width_mask w k)) (marks-lt (same Zero) e tt x hv hu))
        ∙ gather_cong ◌||◌ false 64 (λ j. eqb (bit_at (bit_and marks (width_mask w k)) j) 1) (λ j. same Zero (get_or (from_planes w v u) (k * 64 + j) One))
        (λ j l. ap (λ (y : ℕ). eqb (bit_at y j) 1) (and_mask marks n)
        ∙ ⊎_elim
        (λ b. ap (λ (d : ℕ). eqb d 1) (bit-mod marks n j b) ∙ marks-bit (same Zero) e tt x hv hu j l ∙ ap (same Zero) (sym (inside One k j l (omega arith))))
        (λ b. ap (λ (d : ℕ). eqb d 1) (bit-mod-above marks n j b) ∙ sym (ap (same Zero) (outside One (k * 64 + j) (omega arith))))
        (lt-or-ge j n))
