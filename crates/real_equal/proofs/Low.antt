-- The integer of a vector, from its low word.
--     not_negative, negative                            a number of w bits in two's complement
--     ones_lt                                           the known ones of the low word lie below the width
--     fill-integer, unsigned-integer, signed-integer    by the header's marks
--     accepted_whole                                    what an operand has that its check accepts
use Rattle.std.proofs.Common.{◌≡◌, ℕ, zero, suc, ◌+◌, ◌-◌, ◌*◌, ◌/◌, ◌%◌, ◌^◌, ◌<◌, ◌≤◌, min, max, true, false, List, length, get_or, pos, negsuc, sym, refl, ap, ◌∙◌, ap₂, ⊎_elim, lt_of_le_of_lt, mod-lt, zero-add, arith, lit<, pow_pos, lt-ltb, le-leb}
use native.Mathlib.Nat.{pow-succ', mod-le}
use borrow.Author.Tests.{lt-leb}
use lib.Bits.{bit_and, and_le_l}
use Rattle.bit.specs.declared.LogicBit.{LogicBit}
use Rattle.bit.specs.declared.LogicBit.TheVariants.{Zero, One, X, Z}
use Rattle.refusal.specs.Outcome.Answer.{given}
use Rattle.words.specs.Vector.{at, bit_at, pack}
use Rattle.words.specs.Planes.{Planes, Plane, from_planes, lent}
use Rattle.words.proofs.Digits.{bit-zero, bit-mod, bit-mod-above, pack-bit, pack-cong, word-ext, lt-or-ge}
use Rattle.words.proofs.Planes.{length-tabulate, get_d_tabulate, plane-bit, operand}
use Rattle.words.proofs.Lanes.{av, au, neg, and, lane}
use Rattle.value.specs.declared.Header.{Header}
use Rattle.value.specs.declared.Operand.{Operand}
use Rattle.value.specs.declared.Operand.TheVariants as variants
use Rattle.value.specs.Checks.{check_operand, vector}
use Rattle.value.proofs.Checks.{vector_accepted}
use Rattle.real_equal.specs.Numeric.{counted, low_number, twos_complement, stretched_fill, vector_integer, WholePlanes}

counted-lt : (b : LogicBit) → counted b < 2
counted-lt Zero = lit< tt
counted-lt One = lit< tt
counted-lt X = lit< tt
counted-lt Z = lit< tt

-- ---- a fill

all_alike : (b : LogicBit) → counted b * 18446744073709551615 ≡ pack 64 (λ i. counted b)
unfolding pack
all_alike Zero = refl
all_alike One = refl
all_alike X = refl
all_alike Z = refl

low-fill : (bs : List LogicBit) → low_number bs % 2 * 18446744073709551615 ≡ low_number (stretched_fill bs)
low-fill bs =
    ap (λ (x : ℕ). x * 18446744073709551615)
    (sym (bit-zero (low_number bs)) ∙ pack-bit 64 (λ i. counted (at bs i)) (λ i _. counted-lt (at bs i)) 0 (lit< tt))
    ∙ all_alike (at bs 0)
    ∙ pack-cong 64 _ _ (λ i l. ap counted (sym (get_d_tabulate (max 64 (length bs)) (λ i. at bs 0) i Zero (omega arith))))

-- ---- two's complement of w bits

-- the ones below the top bit
half-ones : (w : ℕ) → (2 ^ w - 1) / 2 + 1 ≡ 2 ^ (w - 1)
half-ones zero = refl
half-ones (suc w) =
    let e : 2 ^ suc w ≡ 2 * 2 ^ w = pow-succ' 2 w in
    let d : suc w - 1 ≡ w = omega arith in
    omega (arith, pow_pos w, ap (λ (x : ℕ). 2 ^ x) d)

pub not_negative : (w n : ℕ) → n ≤ (2 ^ w - 1) / 2 → pos n ≡ twos_complement w n
not_negative w n h =
    let l : n < 2 ^ (w - 1) = omega (arith, half-ones w) in
    rw (lt-leb (2 ^ (w - 1)) n l)

pub negative : (w n : ℕ) → (2 ^ w - 1) / 2 < n → n < 2 ^ w → negsuc (2 ^ w - 1 - n) ≡ twos_complement w n
negative w n g h =
    let l : 2 ^ (w - 1) ≤ n = omega (arith, half-ones w) in
    let e : 2 ^ w - 1 - n ≡ 2 ^ w - suc n = omega arith in
    rw (le-leb (2 ^ (w - 1)) n l, lt-ltb n (2 ^ w) h) (ap negsuc e)

-- ---- by the header's marks

-- a word whose digits from m on are 0
short : (x m : ℕ) → x < 2 ^ 64 → ((j : ℕ) → j < 64 → m ≤ j → bit_at x j ≡ 0) → x < 2 ^ m
short x m h z =
    let e : x ≡ x % 2 ^ m =
    word-ext 64 x (x % 2 ^ m) h (lt_of_le_of_lt (mod-le x (2 ^ m)) h)
    (λ j l. ⊎_elim (λ k. sym (bit-mod x m j k)) (λ k. z j l k ∙ sym (bit-mod-above x m j k)) (lt-or-ge j m)) in
    omega (arith, mod-lt x (pow_pos m))

-- the planes of a vector with the header h, and that their low words are words
pub record LowWords (h : Header) (v u : List ℕ) : Type 0 where
  pub value-plane : Plane h.width v
  pub unknown-plane : Plane h.width u
  pub value-fits : get_or v 0 0 < 2 ^ 64
  pub unknown-fits : get_or u 0 0 < 2 ^ 64

-- the known ones of the low word
abbrev pub known_ones : List ℕ → List ℕ → ℕ
known_ones v u = bit_and (get_or v 0 0) (2 ^ 64 - 1 - get_or u 0 0)

module _ {h : Header} {v u : List ℕ} (l : LowWords h v u) where
  low_word : known_ones v u ≡ low_number (from_planes h.width v u)
  low_word =
      lane (get_or v 0 0) (get_or u 0 0) 0 0 l.value-fits l.unknown-fits (pow_pos 64) (pow_pos 64) (and av (neg au)) (λ a b. counted a) tt
      ∙ pack-cong 64 _ _ (λ j k. ap counted (operand h.width v u l.value-plane l.unknown-plane 0 j k ∙ ap (at (from_planes h.width v u)) (zero-add j)))

  pub ones_lt : known_ones v u < 2 ^ min 64 h.width
  ones_lt =
      lt_of_le_of_lt (and_le_l (get_or v 0 0) (2 ^ 64 - 1 - get_or u 0 0))
      (short (get_or v 0 0) (min 64 h.width) l.value-fits (λ j k m. plane-bit v 0 j k ∙ l.value-plane.clear (0 * 64 + j) (omega arith)))

  pub fill-integer : h.is_fill ≡ true → pos (known_ones v u % 2 * 18446744073709551615) ≡ vector_integer (vector h (lent v u))
  unfolding vector_integer
  fill-integer f = rw f (ap pos (ap (λ (x : ℕ). x % 2 * 18446744073709551615) low_word ∙ low-fill (from_planes h.width v u)))

  pub unsigned-integer : h.is_fill ≡ false → h.is_signed ≡ false → pos (known_ones v u) ≡ vector_integer (vector h (lent v u))
  unfolding vector_integer
  unsigned-integer f s = rw (f, s) (ap pos low_word)

  pub signed-integer : h.is_fill ≡ false → h.is_signed ≡ true → twos_complement (min 64 h.width) (known_ones v u) ≡ vector_integer (vector h (lent v u))
  unfolding vector_integer
  signed-integer f s = rw (f, s) (ap₂ (λ (w x : ℕ). twos_complement (min 64 w) x) (sym (length-tabulate h.width _)) low_word)

-- ---- the operand

pub accepted_whole : (o : Operand) (p : Planes) → check_operand o p ≡ given tt → WholePlanes o p
unfolding check_operand
accepted_whole (variants.Vector h) p e = let s = (vector_accepted h p e).planes in (s.value-plane, s.unknown-plane)
accepted_whole (variants.Real x) p e = tt
