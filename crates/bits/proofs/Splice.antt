-- Putting bits into a vector and reading them out, from the planes to the vector.
--     spliced-none      at or above the width, nothing changes
--     spliced-plane     what `splice_plane` leaves is the plane of the vector
--     set-spliced       a single bit is set by putting one bit in
--     extracted-word    the word that is read out of a plane, masked, holds the vector's bits
use mathlib.Core.Path.{◌≡◌, refl, sym, ap, ap₂, ◌∙◌}
use mathlib.Core.Bool.{Bool, true, false, ◌&&◌, cond}
use mathlib.Core.Logic.{◌⊎◌, inl, inr, ⊎_elim}
use mathlib.Core.List.{List}
use Prim.Native.Nat.{ℕ, ◌+◌, ◌-◌, ◌*◌, ◌^◌, ◌≤◌, ◌<◌, min}
use native.Mathlib.Omega.{arith}
use borrow.Author.Tests.{lt-ltb, le-ltb, le-leb, lt-leb}
use lib.Dec.{ltb}
use lib.ListN.{length, get_or, set, length-set}
use lib.Seq.{get_or-set_same, get_or-set_other, set_out}
use lib.Bits.{bit_and}
use Rattle.bit.specs.declared.LogicBit.{LogicBit}
use Rattle.bit.specs.declared.LogicBit.TheVariants.{Zero}
use Rattle.words.specs.declared.Word.{Word}
use Rattle.words.specs.Vector.{bit_at, tabulate, pack, at}
use Rattle.words.specs.Planes.{value_digit, unknown_digit, stored, word_count, plane_bit, from_planes, word_of, plane_of, packed, bit_of, Plane, lent, planes_of}
use Rattle.bits.specs.Bits.{within, splice_count, spliced, spliced_plane}
use Rattle.words.proofs.Digits.{bit-lt, pack-bit, pack-cong, lt-or-ge}
use Rattle.words.proofs.Planes.{length-tabulate, get_d_tabulate, get_d-tabulate-out, eq-tabulate, value-digit-lt, unknown-digit-lt, stored-bit, value-again, unknown-again, whole}
use Rattle.words.proofs.Extend.{cut}

pub ap-cond : {A B : Type 0} (f : A → B) (b : Bool) (x y : A) → f (cond b x y) ≡ cond b (f x) (f y)
ap-cond f true x y = refl
ap-cond f false x y = refl

-- ---- which places

within_none : (pos n i : ℕ) → (i < pos) ⊎ (pos + n ≤ i) → within pos n i ≡ false
within_none pos n i h =
    ⊎_elim
    (λ l. ap (λ (b : Bool). b && ltb i (pos + n)) (lt-leb pos i l))
    (λ l. ap₂ ◌&&◌ (le-leb pos i (omega arith)) (le-ltb i (pos + n) l)) h

within-some : (pos n i : ℕ) → pos ≤ i → i < pos + n → within pos n i ≡ true
within-some pos n i h l = ap₂ ◌&&◌ (le-leb pos i h) (lt-ltb i (pos + n) l)

-- ---- a word's bits

pub packed-bit : (f : ℕ → LogicBit) (j : ℕ) → j < 64 → bit_of (packed f) j ≡ f j
packed-bit f j l =
    ap₂ stored
    (pack-bit 64 (λ j. value_digit (f j)) (λ j _. value-digit-lt (f j)) j l)
    (pack-bit 64 (λ j. unknown_digit (f j)) (λ j _. unknown-digit-lt (f j)) j l)
    ∙ stored-bit (f j)

-- ---- vectors

-- where nothing is put in
pub spliced-none : (bs : List LogicBit) (pos n : ℕ) (x : Word) → length bs ≤ pos → spliced bs pos n x ≡ bs
spliced-none bs pos n x h =
    sym (eq-tabulate (length bs) _ bs Zero refl
    (λ i l. sym (ap (λ (b : Bool). cond b (bit_of x (i - pos)) (at bs i)) (within_none pos (splice_count (length bs) pos n) i (inl (omega arith))))))

pub set-spliced : (bs : List LogicBit) (i : ℕ) (b : LogicBit) → set bs i b ≡ spliced bs i 1 (packed (λ j. b))
set-spliced bs i b =
    ⊎_elim
    (λ l. eq-tabulate (length bs) _ (set bs i b) Zero (length-set bs i b) (place l))
    (λ l. set_out bs i b l ∙ sym (spliced-none bs i 1 (packed (λ j. b)) l))
    (lt-or-ge i (length bs))
  where
    place : i < length bs → (g : ℕ) → g < length bs → get_or (set bs i b) g Zero ≡ cond (within i (splice_count (length bs) i 1) g) (bit_of (packed (λ j. b)) (g - i)) (at bs g)
    place l g m =
        ⊎_elim
        (λ k. get_or-set_other bs i g b Zero (λ e. absurd (omega arith))
        ∙ sym (ap (λ (t : Bool). cond t (bit_of (packed (λ j. b)) (g - i)) (at bs g)) (within_none i (splice_count (length bs) i 1) g (inl k))))
        (λ k. ⊎_elim
        (λ q. get_or-set_other bs i g b Zero (λ e. absurd (omega arith))
        ∙ sym (ap (λ (t : Bool). cond t (bit_of (packed (λ j. b)) (g - i)) (at bs g)) (within_none i (splice_count (length bs) i 1) g (inr (omega arith)))))
        (λ q. let e : g ≡ i = omega arith in
        ap (λ (h : ℕ). get_or (set bs i b) h Zero) e ∙ get_or-set_same bs i b Zero l ∙ sym (packed-bit (λ j. b) (g - i) (omega arith))
        ∙ sym (ap (λ (t : Bool). cond t (bit_of (packed (λ j. b)) (g - i)) (at bs g)) (within-some i (splice_count (length bs) i 1) g k (omega arith))))
        (lt-or-ge i g))
        (lt-or-ge g i)

module _ (w : ℕ) (v u : List ℕ) (hv : Plane w v) (hu : Plane w u) where
  -- the planes of the vector that they hold
  pub planes-again : ((k : ℕ) → get_or v k 0 < 2 ^ 64) → ((k : ℕ) → get_or u k 0 < 2 ^ 64) → lent v u ≡ planes_of (from_planes w v u)
  planes-again fv fu = ap₂ lent (value-again w v u hv hu fv) (unknown-again w v u hv hu fu)

  module _ (d : LogicBit → ℕ) (below : (b : LogicBit) → d b < 2) (none : d Zero ≡ 0) (p : List ℕ) (hp : Plane w p)
      (is : (i : ℕ) → plane_bit p i ≡ d (stored (plane_bit v i) (plane_bit u i))) where
    module _ (pos n : ℕ) (x : Word) (y : ℕ) (ys : (j : ℕ) → bit_at y j ≡ d (bit_of x j)) (l : pos < w) where
      abbrev count : ℕ
      count = splice_count w pos n

      abbrev bit-then : ℕ → LogicBit
      bit-then i = cond (within pos count i) (bit_of x (i - pos)) (at (from_planes w v u) i)

      digit-then : (g : ℕ) → cond (within pos count g) (bit_at y (g - pos)) (plane_bit p g) ≡ d (at (tabulate w bit-then) g)
      digit-then g =
          ⊎_elim
          (λ m. ap₂ (cond (within pos count g)) (ys (g - pos)) (is g ∙ ap d (whole w v u hv hu g))
          ∙ sym (ap-cond d (within pos count g) (bit_of x (g - pos)) (at (from_planes w v u) g))
          ∙ ap d (sym (get_d_tabulate w bit-then g Zero m)))
          (λ m. ap (λ (b : Bool). cond b (bit_at y (g - pos)) (plane_bit p g)) (within_none pos count g (inr (omega arith)))
          ∙ hp.clear g m ∙ sym none ∙ ap d (sym (get_d-tabulate-out w bit-then g Zero m)))
          (lt-or-ge g w)

      same-vector : tabulate w bit-then ≡ spliced (from_planes w v u) pos n x
      same-vector =
          ap (λ (m : ℕ). tabulate m (λ i. cond (within pos (splice_count m pos n) i) (bit_of x (i - pos)) (at (from_planes w v u) i)))
          (sym (length-tabulate w (λ i. stored (plane_bit v i) (plane_bit u i))))

      pub spliced-plane : spliced_plane p pos count y ≡ plane_of d (spliced (from_planes w v u) pos n x)
      spliced-plane =
          eq-tabulate (word_count (length (tabulate w bit-then))) (word_of d (at (tabulate w bit-then))) (spliced_plane p pos count y) 0
          (length-tabulate (length p) _ ∙ hp.count ∙ ap word_count (sym (length-tabulate w bit-then)))
          (λ k m. get_d_tabulate (length p) _ k 0 (rw (hp.count, ← length-tabulate w bit-then) m)
          ∙ pack-cong 64 _ _ (λ j _. digit-then (k * 64 + j)))
          ∙ ap (plane_of d) same-vector

    -- the word that starts at a bit, masked to at most n bits
    pub extracted-word : (pos n m : ℕ) → m ≡ min n 64
        → bit_and (pack 64 (λ j. plane_bit p (pos + j))) (2 ^ m - 1) ≡ pack 64 (λ j. d (cond (ltb j n) (at (from_planes w v u) (pos + j)) Zero))
    extracted-word pos n m e =
        cut n 0 m (λ j. plane_bit p (pos + j)) (λ j. d (cond (ltb j n) (at (from_planes w v u) (pos + j)) Zero)) (omega arith) (λ j _. bit-lt _ _)
        (λ j l k. is (pos + j) ∙ ap d (whole w v u hv hu (pos + j) ∙ ap (λ (b : Bool). cond b (at (from_planes w v u) (pos + j)) Zero) (sym (lt-ltb j n (omega arith)))))
        (λ j k. ap (λ (b : Bool). d (cond b (at (from_planes w v u) (pos + j)) Zero)) (le-ltb j n (omega arith)) ∙ none)
