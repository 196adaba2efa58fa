-- Words joined by lanes.
--     formula          the rules that read a lane formula off the code
--     both, one        lane formulas that pass the computed test give the rule's word
--     not-word         not in numbers is the rule at each place
--     whole_word       the lanes of two words that hold an operand's bits are a word of the result
--     rest-word        the same for any word, cut off at the width
--     one-cut          the same for a rule of one operand
use mathlib.Core.Path.{◌≡◌, refl, sym, ap, ap₂, ◌∙◌}
use mathlib.Core.List.{List}
use Prim.Native.Nat.{ℕ, ◌+◌, ◌-◌, ◌*◌, ◌^◌, ◌≤◌, ◌<◌, min}
use native.Mathlib.Omega.{arith}
use lib.Bits.{bit_and, bit_or, bit_xor}
use lib.Dec.{T}
use lib.ListN.{get_or}
use lib.Pow.{pow_pos}
use Rattle.bit.specs.declared.LogicBit.{LogicBit}
use Rattle.bit.specs.declared.LogicBit.TheVariants.{Zero}
use Rattle.bit.specs.Rules.{not_bit}
use Rattle.words.specs.declared.Word.{Word}
use Rattle.words.specs.Vector.{at, tabulate, FilledTo}
use Rattle.words.specs.Planes.{value_digit, unknown_digit, stored, plane_bit, from_planes, word_of, word_at, packed, bit_of, word_by, lent, word_in, width_mask}
use Rattle.words.proofs.Digits.{pack-cong}
use Rattle.words.proofs.Planes.{get_d_tabulate, plane-bit, value-digit-lt, unknown-digit-lt}
use Rattle.words.proofs.Lanes.{Lane, word, gives, lane}
use Rattle.words.proofs.Extend.{word-bit, cut-vector}
use Rattle.lanes.specs.Lanes.{lane_word, not_word}

-- a rule at each place of one word
unfoldable pub lane_one : (LogicBit → LogicBit) → Word → Word
lane_one f a = packed (λ j. f (bit_of a j))

-- word k of a plane of width w, whose bits at or above the width are 0, from a word with any bits there
unfoldable pub cut_word : ℕ → ℕ → Word → Word
cut_word w k x = word_by (bit_and x.value (width_mask w k)) (bit_and x.unknown (width_mask w k))

-- a lane formula that gives x on the words of a and b
pub record Formula (a b : Word) (x : ℕ) : Type 0 where
  pub expr : Lane
  pub same : x ≡ word expr a.value a.unknown b.value b.unknown

module _ {a b : Word} where
  abbrev pub left-value : Formula a b a.value
  left-value = record { expr = Lane.av; same = refl }

  abbrev pub left-unknown : Formula a b a.unknown
  left-unknown = record { expr = Lane.au; same = refl }

  abbrev pub right-value : Formula a b b.value
  right-value = record { expr = Lane.bv; same = refl }

  abbrev pub right-unknown : Formula a b b.unknown
  right-unknown = record { expr = Lane.bu; same = refl }

  abbrev pub by-neg : {x : ℕ} → Formula a b x → Formula a b ((2 ^ 64 - 1) - x)
  by-neg h = record { expr = Lane.neg h.expr; same = ap (λ (x : ℕ). (2 ^ 64 - 1) - x) h.same }

  abbrev pub by_and : {x y : ℕ} → Formula a b x → Formula a b y → Formula a b (bit_and x y)
  by_and h k = record { expr = Lane.and h.expr k.expr; same = ap₂ bit_and h.same k.same }

  abbrev pub by-or : {x y : ℕ} → Formula a b x → Formula a b y → Formula a b (bit_or x y)
  by-or h k = record { expr = Lane.or h.expr k.expr; same = ap₂ bit_or h.same k.same }

  abbrev pub by-xor : {x y : ℕ} → Formula a b x → Formula a b y → Formula a b (bit_xor x y)
  by-xor h k = record { expr = Lane.xor h.expr k.expr; same = ap₂ bit_xor h.same k.same }

-- `search formula` finds the formula of a word that the code works out
pub ruleset formula = (left-value, left-unknown, right-value, right-unknown, by-neg, by_and, by-or, by-xor)

pub both : (f : LogicBit → LogicBit → LogicBit) (a b : Word) {x y : ℕ} (v : Formula a b x) (u : Formula a b y)
    → T (gives v.expr (λ a b. value_digit (f a b))) → T (gives u.expr (λ a b. unknown_digit (f a b)))
    → a.value < 2 ^ 64 → a.unknown < 2 ^ 64 → b.value < 2 ^ 64 → b.unknown < 2 ^ 64 → word_by x y ≡ lane_word f a b
unfolding lane_word
both f a b v u tv tu hp hq hr hs =
    ap₂ word_by
    (v.same ∙ lane a.value a.unknown b.value b.unknown hp hq hr hs v.expr (λ x y. value_digit (f x y)) tv)
    (u.same ∙ lane a.value a.unknown b.value b.unknown hp hq hr hs u.expr (λ x y. unknown_digit (f x y)) tu)

pub one : (f : LogicBit → LogicBit) (v u : Lane) → T (gives v (λ a b. value_digit (f a))) → T (gives u (λ a b. unknown_digit (f a)))
    → (a : Word) → a.value < 2 ^ 64 → a.unknown < 2 ^ 64
    → word_by (word v a.value a.unknown 0 0) (word u a.value a.unknown 0 0) ≡ lane_one f a
unfolding lane_one
one f v u tv tu a hp hq =
    ap₂ word_by
    (lane a.value a.unknown 0 0 hp hq (pow_pos 64) (pow_pos 64) v (λ x y. value_digit (f x)) tv)
    (lane a.value a.unknown 0 0 hp hq (pow_pos 64) (pow_pos 64) u (λ x y. unknown_digit (f x)) tu)

-- not in numbers is the rule at each place, cut off at the width
pub not-word : (w k : ℕ) (a : Word) → a.value < 2 ^ 64 → a.unknown < 2 ^ 64 → not_word a (width_mask w k) ≡ cut_word w k (lane_one not_bit a)
unfolding cut_word
not-word w k a hv hu = ap (cut_word w k) (one not_bit (Lane.neg (Lane.or Lane.av Lane.au)) Lane.au tt tt a hv hu)

-- the rule on two words that hold word k of f and of g is word k of the joined bits
pub joined-word : (r : LogicBit → LogicBit → LogicBit) (f g : ℕ → LogicBit) (k : ℕ) (a b : Word)
    → ((j : ℕ) → j < 64 → bit_of a j ≡ f (k * 64 + j)) → ((j : ℕ) → j < 64 → bit_of b j ≡ g (k * 64 + j))
    → lane_word r a b ≡ word_at (λ i. r (f i) (g i)) k
unfolding lane_word
joined-word r f g k a b ha hb =
    ap₂ word_by
    (pack-cong 64 _ _ (λ j l. ap value_digit (ap₂ r (ha j l) (hb j l))))
    (pack-cong 64 _ _ (λ j l. ap unknown_digit (ap₂ r (ha j l) (hb j l))))

-- a word that is read straight from the planes of an operand, below its width
pub direct : (w : ℕ) (v u : List ℕ) (b : LogicBit) (k : ℕ) → k * 64 + 64 ≤ w → (j : ℕ) → j < 64
    → bit_of (word_in (lent v u) k) j ≡ get_or (from_planes w v u) (k * 64 + j) b
direct w v u b k h j l =
    ap₂ stored (plane-bit v k j l) (plane-bit u k j l)
    ∙ sym (get_d_tabulate w (λ i. stored (plane_bit v i) (plane_bit u i)) (k * 64 + j) b (omega arith))

-- what is written up to k is written up to any m below it, and by any F that agrees there
pub fewer : {F G : ℕ → ℕ} {n k : ℕ} {out : List ℕ} → FilledTo 0 F n k out → (m : ℕ) → m ≤ k → ((i : ℕ) → i < m → F i ≡ G i) → FilledTo 0 G n m out
fewer h m l e = record { long = h.long; upto = λ i b. h.upto i (omega arith) ∙ e i b }

-- word k of a vector, where it lies below the width
inside-vector : (d : LogicBit → ℕ) (w k : ℕ) (f : ℕ → LogicBit) → k * 64 + 64 ≤ w → word_of d f k ≡ word_of d (at (tabulate w f)) k
inside-vector d w k f h = pack-cong 64 _ _ (λ j l. ap d (sym (get_d_tabulate w f (k * 64 + j) Zero (omega arith))))

module _ (r : LogicBit → LogicBit → LogicBit) (f g : ℕ → LogicBit) (w k : ℕ) (a b : Word) where
  -- words that are read straight from the planes
  pub whole_word : ((j : ℕ) → j < 64 → bit_of a j ≡ f (k * 64 + j)) → ((j : ℕ) → j < 64 → bit_of b j ≡ g (k * 64 + j)) → k * 64 + 64 ≤ w
      → lane_word r a b ≡ word_at (at (tabulate w (λ i. r (f i) (g i)))) k
  whole_word ha hb h =
      joined-word r f g k a b ha hb
      ∙ ap₂ word_by (inside-vector value_digit w k (λ i. r (f i) (g i)) h) (inside-vector unknown_digit w k (λ i. r (f i) (g i)) h)

  -- words of extended operands, cut off at the width
  pub rest-word : a ≡ word_at f k → b ≡ word_at g k → cut_word w k (lane_word r a b) ≡ word_at (at (tabulate w (λ i. r (f i) (g i)))) k
  unfolding cut_word
  rest-word ha hb =
      ap (cut_word w k)
      (joined-word r f g k a b
      (λ j l. ap (λ (x : Word). bit_of x j) ha ∙ word-bit f k j l)
      (λ j l. ap (λ (x : Word). bit_of x j) hb ∙ word-bit g k j l))
      ∙ ap₂ word_by
      (cut-vector value_digit value-digit-lt refl w k (min 64 (w - k * 64)) (λ i. r (f i) (g i)) refl)
      (cut-vector unknown_digit unknown-digit-lt refl w k (min 64 (w - k * 64)) (λ i. r (f i) (g i)) refl)

-- a rule of one operand, word by word
module _ (r : LogicBit → LogicBit) (f : ℕ → LogicBit) (w k : ℕ) (a : Word) (ha : (j : ℕ) → j < 64 → bit_of a j ≡ f (k * 64 + j)) where
  one_word : lane_one r a ≡ word_at (λ i. r (f i)) k
  unfolding lane_one
  one_word = ap₂ word_by (pack-cong 64 _ _ (λ j l. ap value_digit (ap r (ha j l)))) (pack-cong 64 _ _ (λ j l. ap unknown_digit (ap r (ha j l))))

  pub one-cut : cut_word w k (lane_one r a) ≡ word_at (at (tabulate w (λ i. r (f i)))) k
  unfolding cut_word
  one-cut =
      ap (cut_word w k) one_word
      ∙ ap₂ word_by
      (cut-vector value_digit value-digit-lt refl w k (min 64 (w - k * 64)) (λ i. r (f i)) refl)
      (cut-vector unknown_digit unknown-digit-lt refl w k (min 64 (w - k * 64)) (λ i. r (f i)) refl)
