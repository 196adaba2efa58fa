-- Planes and vectors: what a plane holds, and the two round trips.
--     operand       a word of well-formed planes, bit by bit, is the vector there (0 beyond the width)
--     value-again, unknown-again     the planes of the vector that well-formed planes hold are those planes
--     bits-again    the vector that a vector's planes hold is that vector
--     value-plane, unknown-plane     the planes of a vector are well formed
--     word-count    the larger of 1 and the width divided by 64, rounded up
use mathlib.Core.Path.{◌≡◌, refl, sym, ap, ap₂, ◌∙◌}
use mathlib.Core.Logic.{⊎_elim}
use mathlib.Core.List.{List}
use Prim.Native.Nat.{ℕ, zero, suc, ◌+◌, ◌*◌, ◌/◌, ◌%◌, ◌^◌, ◌≤◌, ◌<◌, max}
use native.Mathlib.Nat.{not-suc-le-zero, le_of_suc-le-suc, mod-lt, div-add-mod', zero-lt-suc}
use native.Mathlib.Omega.{arith}
use lib.Arith.{digits_div, digits_mod}
use lib.ListN.{length, get_or, get_or-eq_default}
use lib.Seq.{ext_get_or}
use lib.Dec.{lit<}
use Rattle.bit.specs.declared.LogicBit.{LogicBit}
use Rattle.bit.specs.declared.LogicBit.TheVariants.{Zero, One, X, Z}
use Rattle.words.specs.Vector.{tabulate, at, bit_at}
use Rattle.words.specs.Planes.{value_digit, unknown_digit, stored, word_count, plane_bit, from_planes, word_of, plane_of, value_plane, unknown_plane, Plane}
use Rattle.words.proofs.Digits.{pack-ext, pack-bit, bit-lt, bit-of-zero, lt-or-ge}

-- ---- tabulate

module _ {ℓ} {A : Type ℓ} where
  pub length-tabulate : (n : ℕ) (f : ℕ → A) → length (tabulate n f) ≡ n
  unfolding tabulate
  length-tabulate zero f = refl
  length-tabulate (suc n) f = ap suc (length-tabulate n (λ i. f (suc i)))

  pub get_d_tabulate : (n : ℕ) (f : ℕ → A) (i : ℕ) (d : A) → i < n → get_or (tabulate n f) i d ≡ f i
  unfolding tabulate
  get_d_tabulate zero f i d l = absurd (not-suc-le-zero l)
  get_d_tabulate (suc n) f zero d l = refl
  get_d_tabulate (suc n) f (suc i) d l = get_d_tabulate n (λ i. f (suc i)) i d (le_of_suc-le-suc l)

  pub get_d-tabulate-out : (n : ℕ) (f : ℕ → A) (i : ℕ) (d : A) → n ≤ i → get_or (tabulate n f) i d ≡ d
  get_d-tabulate-out n f i d l = get_or-eq_default (tabulate n f) d (rw length-tabulate l)

  pub eq-tabulate : (n : ℕ) (f : ℕ → A) (l : List A) (d : A) → length l ≡ n → ((i : ℕ) → i < n → get_or l i d ≡ f i) → l ≡ tabulate n f
  eq-tabulate n f l d e h =
      ext_get_or d l (tabulate n f) (e ∙ sym (length-tabulate n f))
      (λ i k. h i (rw e at k) ∙ sym (get_d_tabulate n f i d (rw e at k)))

-- ---- a bit and its two digits

pub value-digit-lt : (b : LogicBit) → value_digit b < 2
value-digit-lt Zero = lit< tt
value-digit-lt One = lit< tt
value-digit-lt X = lit< tt
value-digit-lt Z = lit< tt

pub unknown-digit-lt : (b : LogicBit) → unknown_digit b < 2
unknown-digit-lt Zero = lit< tt
unknown-digit-lt One = lit< tt
unknown-digit-lt X = lit< tt
unknown-digit-lt Z = lit< tt

pub stored-bit : (b : LogicBit) → stored (value_digit b) (unknown_digit b) ≡ b
stored-bit Zero = refl
stored-bit One = refl
stored-bit X = refl
stored-bit Z = refl

pub value-digit-stored : (v u : ℕ) → v < 2 → value_digit (stored v u) ≡ v
value-digit-stored zero zero l = refl
value-digit-stored zero (suc u) l = refl
value-digit-stored (suc zero) zero l = refl
value-digit-stored (suc zero) (suc u) l = refl
value-digit-stored (suc (suc v)) u l = absurd (omega arith)

pub unknown-digit-stored : (v u : ℕ) → u < 2 → unknown_digit (stored v u) ≡ u
unknown-digit-stored zero zero l = refl
unknown-digit-stored (suc v) zero l = refl
unknown-digit-stored zero (suc zero) l = refl
unknown-digit-stored (suc v) (suc zero) l = refl
unknown-digit-stored v (suc (suc u)) l = absurd (omega arith)

pub stored_one : (v u : ℕ) → (v ≡ 0 → ⊥) → u ≡ 0 → stored v u ≡ One
stored_one zero u h e = absurd (h refl)
stored_one (suc v) u h e = ap (stored (suc v)) e

pub stored-x : (v u : ℕ) → v ≡ 0 → (u ≡ 0 → ⊥) → stored v u ≡ X
stored-x v zero e h = absurd (h refl)
stored-x v (suc u) e h = ap (λ (x : ℕ). stored x (suc u)) e

pub stored-z : (v u : ℕ) → (v ≡ 0 → ⊥) → (u ≡ 0 → ⊥) → stored v u ≡ Z
stored-z zero u h k = absurd (h refl)
stored-z (suc v) zero h k = absurd (k refl)
stored-z (suc v) (suc u) h k = refl

-- ---- planes

-- the word count in document 01's words
pub word-count : (w : ℕ) → word_count w ≡ max 1 ((w + 63) / 64)
word-count w = omega arith

-- bit i of the vector that two planes hold
pub at-planes : (w : ℕ) (v u : List ℕ) (i : ℕ) → i < w → at (from_planes w v u) i ≡ stored (plane_bit v i) (plane_bit u i)
at-planes w v u i l = get_d_tabulate w (λ i. stored (plane_bit v i) (plane_bit u i)) i Zero l

-- bit j of word k of a plane is the plane's bit k * 64 + j
pub plane-bit : (p : List ℕ) (k j : ℕ) → j < 64 → bit_at (get_or p k 0) j ≡ plane_bit p (k * 64 + j)
plane-bit p k j l = sym (ap₂ (λ (x y : ℕ). bit_at (get_or p x 0) y) (digits_div k l) (digits_mod k l))

module _ (w : ℕ) (v u : List ℕ) (hv : Plane w v) (hu : Plane w u) where
  pub whole : (i : ℕ) → stored (plane_bit v i) (plane_bit u i) ≡ at (from_planes w v u) i
  whole i =
      ⊎_elim
      (λ l. sym (get_d_tabulate w (λ i. stored (plane_bit v i) (plane_bit u i)) i Zero l))
      (λ l. ap₂ stored (hv.clear i l) (hu.clear i l) ∙ sym (get_d-tabulate-out w (λ i. stored (plane_bit v i) (plane_bit u i)) i Zero l))
      (lt-or-ge i w)

  pub operand : (k j : ℕ) → j < 64 → stored (bit_at (get_or v k 0) j) (bit_at (get_or u k 0) j) ≡ at (from_planes w v u) (k * 64 + j)
  operand k j l = ap₂ stored (plane-bit v k j l) (plane-bit u k j l) ∙ whole (k * 64 + j)

  -- encode after decode, for the plane p of the digit d
  again : (d : LogicBit → ℕ) (p : List ℕ) → length p ≡ word_count w → ((k : ℕ) → get_or p k 0 < 2 ^ 64)
      → ((k j : ℕ) → bit_at (get_or p k 0) j ≡ d (stored (bit_at (get_or v k 0) j) (bit_at (get_or u k 0) j))) → p ≡ plane_of d (from_planes w v u)
  again d p n b e =
      eq-tabulate (word_count (length (from_planes w v u))) (word_of d (at (from_planes w v u))) p 0
      (n ∙ ap word_count (sym (length-tabulate w (λ i. stored (plane_bit v i) (plane_bit u i)))))
      (λ k _. pack-ext 64 (get_or p k 0) (λ j. d (at (from_planes w v u) (k * 64 + j))) (b k) (λ j l. e k j ∙ ap d (operand k j l)))

  pub value-again : ((k : ℕ) → get_or v k 0 < 2 ^ 64) → v ≡ value_plane (from_planes w v u)
  value-again b = again value_digit v hv.count b (λ k j. sym (value-digit-stored (bit_at (get_or v k 0) j) (bit_at (get_or u k 0) j) (bit-lt (get_or v k 0) j)))

  pub unknown-again : ((k : ℕ) → get_or u k 0 < 2 ^ 64) → u ≡ unknown_plane (from_planes w v u)
  unknown-again b = again unknown_digit u hu.count b (λ k j. sym (unknown-digit-stored (bit_at (get_or v k 0) j) (bit_at (get_or u k 0) j) (bit-lt (get_or u k 0) j)))

-- ---- the planes of a vector, by a digit of each bit
module _ (d : LogicBit → ℕ) (below : (b : LogicBit) → d b < 2) (none : d Zero ≡ 0) (bs : List LogicBit) where
  word_in : (i : ℕ) → i / 64 < word_count (length bs) → plane_bit (plane_of d bs) i ≡ d (at bs i)
  word_in i l =
      ap (λ (x : ℕ). bit_at x (i % 64)) (get_d_tabulate (word_count (length bs)) (word_of d (at bs)) (i / 64) 0 l)
      ∙ pack-bit 64 (λ j. d (at bs (i / 64 * 64 + j))) (λ j _. below (at bs (i / 64 * 64 + j))) (i % 64) (mod-lt i (zero-lt-suc 63))
      ∙ ap (λ (x : ℕ). d (at bs x)) (div-add-mod' i 64)

  word_out : (i : ℕ) → word_count (length bs) ≤ i / 64 → plane_bit (plane_of d bs) i ≡ 0
  word_out i l =
      ap (λ (x : ℕ). bit_at x (i % 64)) (get_d-tabulate-out (word_count (length bs)) (word_of d (at bs)) (i / 64) 0 l) ∙ bit-of-zero (i % 64)

  plane-of : Plane (length bs) (plane_of d bs)
  plane-of = record {
    count = length-tabulate (word_count (length bs)) (word_of d (at bs));
    clear = λ i l. ⊎_elim (λ k. word_in i k ∙ ap d (get_or-eq_default bs Zero l) ∙ none) (λ k. word_out i k) (lt-or-ge (i / 64) (word_count (length bs)));
  }

pub value-plane : (bs : List LogicBit) → Plane (length bs) (value_plane bs)
value-plane = plane-of value_digit value-digit-lt refl

pub unknown-plane : (bs : List LogicBit) → Plane (length bs) (unknown_plane bs)
unknown-plane = plane-of unknown_digit unknown-digit-lt refl

-- decode after encode
pub bits-again : (bs : List LogicBit) → bs ≡ from_planes (length bs) (value_plane bs) (unknown_plane bs)
bits-again bs =
    eq-tabulate (length bs) (λ i. stored (plane_bit (value_plane bs) i) (plane_bit (unknown_plane bs) i)) bs Zero refl
    (λ i l. sym (ap₂ stored (word_in value_digit value-digit-lt refl bs i (omega arith)) (word_in unknown_digit unknown-digit-lt refl bs i (omega arith)) ∙ stored-bit (at bs i)))
