-- The characters of a vector as the digits of words.
--     byte-value, byte-unknown     what the bit of a character stores in each plane
--     length-in, bit_in, bit_past     how many bits there are, and which character each is
--     none, more, small     the number of the first characters, and of one more
--     word_in, word-at      that number as a word, and as word k of a plane
use mathlib.Core.Path.{◌≡◌, refl, sym, ap, ◌∙◌, subst}
use mathlib.Core.Logic.{⊎_elim}
use mathlib.Core.Bool.{Bool, true, false, ◌||◌}
use mathlib.Core.List.{List, [], ◌∷◌, map, reverse, reverse-cons}
use Prim.Native.Nat.{ℕ, zero, suc, ◌+◌, ◌-◌, ◌*◌, ◌^◌, ◌≤◌, ◌<◌, min}
use native.Mathlib.Nat.{pow-le-pow_right, lt_of_lt_of_le}
use native.Mathlib.Numerals.{add-one}
use native.Mathlib.Omega.{arith}
use borrow.Author.Tests.{eqb-true}
use mir.Val.{bool_byte}
use lib.Dec.{eqb}
use lib.ListN.{length, get_or, take, drop, length-reverse, get_or-append, get_or-map, get_or-eq_default}
use lib.Seq.{get_or_at, get_or-take, get_or-drop}
use Rattle.bit.specs.declared.LogicBit.{LogicBit}
use Rattle.bit.specs.declared.LogicBit.TheVariants.{Zero}
use Rattle.words.specs.Vector.{at, pack}
use Rattle.words.specs.Planes.{value_digit, unknown_digit, word_of}
use Rattle.words.proofs.Digits.{lt-or-ge, pack-cong, pack-lt, pack-bit, pack-ext, bit-above}
use Rattle.text.specs.Read.{of_byte}
use Rattle.text.specs.Answers.{bits_in}
use Rattle.text.proofs.Vectors.{bits-length}

-- ---- the digits of a character

abbrev either : ℕ → ℕ → ℕ → ℕ
either c a b = bool_byte (eqb c a || eqb c b)

-- by the tests that tell a character
told : (P : ℕ → Type 0) → P 49 → P 120 → P 122 → (c : ℕ) → (eqb c 49 ≡ false → eqb c 120 ≡ false → eqb c 122 ≡ false → P c) → P c
told P p q r c other = go (eqb c 49) refl (eqb c 120) refl (eqb c 122) refl
  where
    go : (x : Bool) → eqb c 49 ≡ x → (y : Bool) → eqb c 120 ≡ y → (z : Bool) → eqb c 122 ≡ z → P c
    go true e y f z g = subst P (sym (eqb-true c 49 e)) p
    go false e true f z g = subst P (sym (eqb-true c 120 f)) q
    go false e false f true g = subst P (sym (eqb-true c 122 g)) r
    go false e false f false g = other e f g

pub byte-value : (c : ℕ) → either c 49 122 ≡ value_digit (of_byte c)
unfolding of_byte
byte-value c = told (λ c. either c 49 122 ≡ value_digit (of_byte c)) refl refl refl c (λ e f g. rw (e, f, g))

pub byte-unknown : (c : ℕ) → either c 120 122 ≡ unknown_digit (of_byte c)
unfolding of_byte
byte-unknown c = told (λ c. either c 120 122 ≡ unknown_digit (of_byte c)) refl refl refl c (λ e f g. rw (e, f, g))

-- ---- which character a bit is

get_d_reverse : {A : Type 0} (l : List A) (d : A) (j : ℕ) → j < length l → get_or (reverse l) (length l - 1 - j) d ≡ get_or l j d
get_d_reverse [] d j h = absurd (omega arith)
get_d_reverse {A} (a ∷ l) d zero h =
    let k : ℕ = suc (length l) - 1 - 0 in
    ap (λ (z : List A). get_or z k d) (reverse-cons a l) ∙ get_or_at (reverse l) a [] d k (omega (arith, length-reverse l))
get_d_reverse {A} (a ∷ l) d (suc j) h =
    let k : ℕ = suc (length l) - 1 - suc j in
    let e : k ≡ length l - 1 - j = omega arith in
    ap (λ (z : List A). get_or z k d) (reverse-cons a l)
    ∙ get_or-append (reverse l) (a ∷ []) d k (omega (arith, length-reverse l))
    ∙ ap (λ (i : ℕ). get_or (reverse l) i d) e
    ∙ get_d_reverse l d j (omega arith)

pub length-in : (s : List ℕ) (from n : ℕ) → n ≤ length s - from → length (bits_in s from n) ≡ n
length-in s from n h = bits-length s from n ∙ omega arith

bit_in : (s : List ℕ) (from n i : ℕ) → n ≤ length s - from → i < n → at (bits_in s from n) i ≡ of_byte (get_or s (from + (n - 1 - i)) 0)
unfolding bits_in of_byte
bit_in s from n i h l =
    let cs : List LogicBit = map of_byte (take n (drop from s)) in
    let e : length cs ≡ n = sym (length-reverse cs) ∙ length-in s from n h in
    let j : ℕ = n - 1 - i in
    let k : length cs - 1 - j ≡ i = omega arith in
    ap (λ (z : ℕ). get_or (reverse cs) z Zero) (sym k)
    ∙ get_d_reverse cs Zero j (omega arith)
    ∙ get_or-map of_byte (take n (drop from s)) j 0
    ∙ ap of_byte (get_or-take n (drop from s) j 0 (omega arith) ∙ get_or-drop from s j 0)

bit_past : (s : List ℕ) (from n i : ℕ) → n ≤ i → at (bits_in s from n) i ≡ Zero
bit_past s from n i h = get_or-eq_default (bits_in s from n) Zero (omega (arith, bits-length s from n))

-- ---- the digits d of the first n characters as a number

abbrev pub number_in : (LogicBit → ℕ) → List ℕ → ℕ → ℕ → ℕ
number_in d s from n = pack n (λ i. d (at (bits_in s from n) i))

module _ (d : LogicBit → ℕ) (s : List ℕ) (from : ℕ) where
  pub none : 0 ≡ number_in d s from 0
  unfolding pack
  none = refl

  pub more : (n : ℕ) → n + 1 ≤ length s - from → number_in d s from n * 2 + d (of_byte (get_or s (from + n) 0)) ≡ number_in d s from (n + 1)
  unfolding pack
  more n h =
      let m : suc n ≤ length s - from = omega arith in
      let low : at (bits_in s from (suc n)) 0 ≡ of_byte (get_or s (from + n) 0) =
      bit_in s from (suc n) 0 m (omega arith) ∙ ap (λ (z : ℕ). of_byte (get_or s (from + z) 0)) (omega arith)
      in
      let up = pack-cong n (λ i. d (at (bits_in s from (suc n)) (suc i))) (λ i. d (at (bits_in s from n) i))
      (λ i l. ap d (bit_in s from (suc n) (suc i) m (omega arith)
      ∙ ap (λ (z : ℕ). of_byte (get_or s (from + z) 0)) (omega arith)
      ∙ sym (bit_in s from n i (omega arith) l)))
      in
      rw (add-one n) (omega (arith, up, ap d low))

module _ (d : LogicBit → ℕ) (below : (b : LogicBit) → d b < 2) (s : List ℕ) (from : ℕ) where
  pub small : (n : ℕ) → n ≤ 63 → number_in d s from n < 2 ^ 63
  small n h = lt_of_lt_of_le (pack-lt n (λ i. d (at (bits_in s from n) i)) (λ j _. below _)) (pow-le-pow_right {n = 2} (omega arith) h)

  pub word_in : d Zero ≡ 0 → (n : ℕ) → n ≤ 64 → number_in d s from n ≡ pack 64 (λ i. d (at (bits_in s from n) i))
  word_in z n h =
      let f : ℕ → ℕ = λ i. d (at (bits_in s from n) i) in
      let lt : pack n f < 2 ^ n = pack-lt n f (λ j _. below _) in
      pack-ext 64 (pack n f) f (lt_of_lt_of_le lt (pow-le-pow_right {n = 2} (omega arith) h))
      (λ i _. ⊎_elim
      (λ l. pack-bit n f (λ j _. below _) i l)
      (λ l. bit-above (pack n f) n i lt l ∙ sym (ap d (bit_past s from n i l) ∙ z))
      (lt-or-ge i n))

-- ---- word k of a plane

module _ (w k n left : ℕ) where
  behind-word : 0 < n → left + n ≡ w - k * 64 → w ≡ left + n + k * 64
  behind-word p f = omega arith

  module _ (e : w ≡ left + n + k * 64) where
    same-character : (place j : ℕ) → j < n → place + left + (n - 1 - j) ≡ place + (w - 1 - (k * 64 + j))
    same-character place j l = omega arith

    below-width : (j : ℕ) → j < n → k * 64 + j < w
    below-width j l = omega arith

    enough : (len place : ℕ) → 0 < n → w ≤ len - place → n ≤ len - (place + left)
    enough len place p h = omega arith

some : (n j : ℕ) → j < n → 0 < n
some n j l = omega arith

above_word : (w k n j : ℕ) → n ≡ min 64 (w - k * 64) → n ≤ j → j < 64 → w ≤ k * 64 + j
above_word w k n j e l m = omega arith

-- word k of the plane of a vector of width w is that of its n characters in front of those of the words below it
pub word-at : (d : LogicBit → ℕ) (s : List ℕ) (place w k n left : ℕ) → w ≤ length s - place → n ≡ min 64 (w - k * 64) → left + n ≡ w - k * 64
    → pack 64 (λ j. d (at (bits_in s (place + left) n) j)) ≡ word_of d (at (bits_in s place w)) k
word-at d s place w k n left h e f = pack-cong 64 _ _ (λ j l. ap d (⊎_elim (inside j) (outside j l) (lt-or-ge j n)))
  where
    inside : (j : ℕ) → j < n → at (bits_in s (place + left) n) j ≡ at (bits_in s place w) (k * 64 + j)
    inside j m =
        let p : 0 < n = some n j m in
        let q = behind-word w k n left p f in
        bit_in s (place + left) n j (enough w k n left q (length s) place p h) m
        ∙ ap (λ (z : ℕ). of_byte (get_or s z 0)) (same-character w k n left q place j m)
        ∙ sym (bit_in s place w (k * 64 + j) h (below-width w k n left q j m))

    outside : (j : ℕ) → j < 64 → n ≤ j → at (bits_in s (place + left) n) j ≡ at (bits_in s place w) (k * 64 + j)
    outside j l m = bit_past s (place + left) n j m ∙ sym (bit_past s place w (k * 64 + j) (above_word w k n j e m l))
