-- The places of one word of each operand, as ones in a word.
--     both           lane formulas that pass the computed test mark the places of a word
--     mark           a mark of word k, cut off at the width, is 1 where its place passes the test
--     word-marked    the marks of word k, cut off at the width, are not 0 where a place of word k passes the test
--     halved, few    the bits of a word taken lowest first: one that is 0 is passed; one that is left lies in the word
--     trailing       a word that is not 0 is an odd number over as many zeros as it ends in
--     next           one word more without a mismatch, behind one with an unsure place
--     next-first     one word more without a mismatch, the first with an unsure place if it has one
--     left           the scan is left at the lowest one of a word's mismatches
--     whole-marks    the marks of words straight from the planes, where both operands have them whole
--     same_start     words that are known and the same hold no mismatch and leave nothing open
--     one_word       the answer of operands that have one word each
use mathlib.Core.Path.{◌≡◌, refl, sym, ap, ap₂, ◌∙◌}
use mathlib.Core.Logic.{⊎_elim}
use mathlib.Core.Bool.{Bool, true, false, not, ◌||◌, cond}
use mathlib.Core.List.{List}
use Prim.Native.Nat.{ℕ, zero, suc, ◌+◌, ◌-◌, ◌*◌, ◌/◌, ◌%◌, ◌^◌, ◌≤◌, ◌<◌, min}
use native.Mathlib.Nat.{lt_of_le_of_lt, zero-add, add-zero, mul_assoc, mul_comm, mul-one, suc-mul, pow-suc}
use native.Mathlib.Numerals.{add-one}
use native.Mathlib.Omega.{arith}
use lib.Dec.{T, eqb, lit<}
use lib.Arith.{lt-one}
use lib.Count.{count_trailing_zeros, under}
use lib.Pow.{pow_pos, pow-add, pow_mono, shr_lt}
use lib.Bits.{bit_and, bit_or, bit_xor, and_mask, and_le_l, and_le_r, or_zero_r, or_add_and, xor_add_and}
use lib.ListN.{get_or}
use Rattle.bit.specs.declared.LogicBit.{LogicBit}
use Rattle.bit.specs.declared.LogicBit.TheVariants.{Zero, One}
use Rattle.words.specs.declared.Word.{Word}
use Rattle.words.specs.Vector.{bit_at, tabulate, pack}
use Rattle.words.specs.Planes.{stored, bit_of, word_at, lent, word_by, word_in, width_mask}
use Rattle.words.proofs.Digits.{lt-or-ge, bit-zero, bit-shl-low, bit-shl-high, pack-bit, pack-lt, pack-ext, pack-cong, bit-of-zero}
use Rattle.words.proofs.Planes.{get_d_tabulate, get_d-tabulate-out, length-tabulate}
use Rattle.words.proofs.Lanes.{Lane, word, gives, lane}
use Rattle.words.proofs.Extend.{cut, word-bit}
use Rattle.reduce_words.specs.Fold.{any_of}
use Rattle.reduce_words.proofs.Gather.{some, gather_cong}
use Rattle.reduce_words.proofs.Marks.{nonzero}
use Rattle.reduce_words.proofs.Places.{any_some, inside}
use Rattle.extension.specs.declared.Extent.{Extent}
use Rattle.extension.specs.Extension.{extent_at}
use Rattle.compare_words.specs.declared.Comparison.{Comparison}
use Rattle.compare_words.specs.declared.Found.TheVariants.{Mismatch}
use Rattle.compare_words.specs.declared.unchecked.Marks.{Marks}
use Rattle.compare_words.specs.Compared.{mismatch, unsure, on_pair, decided, found, places_over, word_places, marked, marks_of, cut_marks, unlike}
use Rattle.compare_words.proofs.Places.{zeros, zero-apart, zero-unsure, one_apart, one-unsure, Clear, Scanned, found_at, answered, by_tests}

abbrev pub marks_by : ℕ → ℕ → Marks
marks_by m d = record { apart = m; doubt = d }

pub both : (op : Comparison) (v u : Lane) → T (gives v (λ a b. cond (mismatch op a b) 1 0)) → T (gives u (λ a b. cond (unsure op a b) 1 0))
    → (a b : Word) → a.value < 2 ^ 64 → a.unknown < 2 ^ 64 → b.value < 2 ^ 64 → b.unknown < 2 ^ 64
    → marks_by (word v a.value a.unknown b.value b.unknown) (word u a.value a.unknown b.value b.unknown) ≡ marks_of op a b
unfolding marked
both op v u tv tu a b hp hq hr hs =
    ap₂ marks_by
    (lane a.value a.unknown b.value b.unknown hp hq hr hs v (λ x y. cond (mismatch op x y) 1 0) tv)
    (lane a.value a.unknown b.value b.unknown hp hq hr hs u (λ x y. cond (unsure op x y) 1 0) tu)

digit_lt : (z : Bool) → cond z 1 0 < 2
digit_lt true = lit< tt
digit_lt false = lit< tt

digit-one : (z : Bool) → eqb (cond z 1 0) 1 ≡ z
digit-one true = refl
digit-one false = refl

-- the ones of word k that lie below the width w
abbrev pub below : ℕ → ℕ → ℕ → ℕ
below w k m = bit_and m (width_mask w k)

module _ (t : LogicBit → LogicBit → Bool) (fails : t Zero Zero ≡ false) (f g : ℕ → LogicBit) (w k : ℕ) (x y : Word)
    (hx : (j : ℕ) → j < 64 → bit_of x j ≡ f (k * 64 + j)) (hy : (j : ℕ) → j < 64 → bit_of y j ≡ g (k * 64 + j)) where
  abbrev pair : ℕ → LogicBit × LogicBit
  pair i = (f i, g i)

  -- place j of word k passes the test
  abbrev hit : ℕ → Bool
  hit j = on_pair t (get_or (tabulate w pair) (k * 64 + j) zeros)

  packed-hits : below w k (marked t x y) ≡ pack 64 (λ j. cond (hit j) 1 0)
  unfolding marked
  packed-hits =
      cut w k (min 64 (w - k * 64)) (λ j. cond (t (bit_of x j) (bit_of y j)) 1 0) (λ j. cond (hit j) 1 0) refl
      (λ j _. digit_lt (t (bit_of x j) (bit_of y j)))
      (λ j l m. ap (λ (z : Bool). cond z 1 0) (ap₂ t (hx j l) (hy j l) ∙ sym (ap (on_pair t) (get_d_tabulate w pair (k * 64 + j) zeros m))))
      (λ j m. ap (λ (z : Bool). cond z 1 0) (ap (on_pair t) (get_d-tabulate-out w pair (k * 64 + j) zeros m) ∙ fails))

  pub mark : (j : ℕ) → j < 64 → eqb (bit_at (below w k (marked t x y)) j) 1 ≡ on_pair t (get_or (tabulate w (λ i. (f i, g i))) (k * 64 + j) zeros)
  mark j l =
      ap (λ (m : ℕ). eqb (bit_at m j) 1) packed-hits
      ∙ ap (λ (d : ℕ). eqb d 1) (pack-bit 64 (λ j. cond (hit j) 1 0) (λ j _. digit_lt (hit j)) j l) ∙ digit-one (hit j)

  word-marked : not (eqb (below w k (marked t x y)) 0) ≡ some 64 (λ j. on_pair t (get_or (tabulate w (λ i. (f i, g i))) (k * 64 + j) zeros))
  word-marked =
      nonzero 64 (below w k (marked t x y)) (rw packed-hits (pack-lt 64 (λ j. cond (hit j) 1 0) (λ j _. digit_lt (hit j))))
      ∙ gather_cong ◌||◌ false 64 (λ j. eqb (bit_at (below w k (marked t x y)) j) 1) hit mark

-- the marks are told by the bits
marked-cong : (t : LogicBit → LogicBit → Bool) (x x' y y' : Word) → ((j : ℕ) → j < 64 → bit_of x j ≡ bit_of x' j) → ((j : ℕ) → j < 64 → bit_of y j ≡ bit_of y' j)
    → marked t x y ≡ marked t x' y'
unfolding marked
marked-cong t x x' y y' hx hy = pack-cong 64 _ _ (λ j l. ap (λ (z : Bool). cond z 1 0) (ap₂ t (hx j l) (hy j l)))

marked-lt : (t : LogicBit → LogicBit → Bool) (x y : Word) → marked t x y < 2 ^ 64
unfolding marked
marked-lt t x y = pack-lt 64 (λ j. cond (t (bit_of x j) (bit_of y j)) 1 0) (λ j _. digit_lt (t (bit_of x j) (bit_of y j)))

uncut : (w k m : ℕ) → k * 64 + 64 ≤ w → m < 2 ^ 64 → m ≡ below w k m
uncut w k m h l =
    let e : 64 ≡ min 64 (w - k * 64) = omega arith in
    let z : m ≡ m % 2 ^ 64 = omega arith in
    z ∙ sym (and_mask m 64) ∙ ap (λ (n : ℕ). bit_and m (2 ^ n - 1)) e

-- nothing is cut off the marks of a word that lies below the width
whole : (op : Comparison) (w k : ℕ) (x y : Word) (m : Marks) → m ≡ marks_of op x y → k * 64 + 64 ≤ w → m ≡ cut_marks w k (marks_of op x y)
unfolding cut_marks
whole op w k x y m e h = e ∙ ap₂ marks_by (uncut w k _ h (marked-lt (mismatch op) x y)) (uncut w k _ h (marked-lt (unsure op) x y))

-- two words that have no one together have none each
pub or-none : (x y : ℕ) → bit_or x y ≡ 0 → (x ≡ 0) × (y ≡ 0)
or-none x y z = (omega (arith, z, or_add_and x y, and_le_r x y), omega (arith, z, or_add_and x y, and_le_l x y))

-- words without a one in `unlike`
same-words : (p q r s : ℕ) → bit_or (bit_or (bit_xor p r) q) s ≡ 0 → (p ≡ r) × ((q ≡ 0) × (s ≡ 0))
same-words p q r s z =
    let h = or-none (bit_or (bit_xor p r) q) s z in
    let g = or-none (bit_xor p r) q h.0 in
    (omega (arith, g.0, xor_add_and p r, and_le_l p r, and_le_r p r), (g.1, h.1))

known_same : (t : LogicBit → LogicBit → Bool) → t Zero Zero ≡ false → t One One ≡ false → (v : ℕ) → t (stored v 0) (stored v 0) ≡ false
known_same t z o zero = z
known_same t z o (suc v) = o

unmarked : (t : LogicBit → LogicBit → Bool) → t Zero Zero ≡ false → t One One ≡ false → (v : ℕ) → marked t (word_by v 0) (word_by v 0) ≡ 0
unfolding marked
unmarked t z o v =
    sym (pack-ext 64 0 _ (pow_pos 64)
    (λ j _. bit-of-zero j
    ∙ sym (ap (λ (b : Bool). cond b 1 0)
    (ap (λ (u : ℕ). t (stored (bit_at v j) u) (stored (bit_at v j) u)) (bit-of-zero j) ∙ known_same t z o (bit_at v j)))))

nothing : (op : Comparison) (v : ℕ) → marks_of op (word_by v 0) (word_by v 0) ≡ marks_by 0 0
nothing op v = ap₂ marks_by (unmarked (mismatch op) (zero-apart op) (one_apart op) v) (unmarked (unsure op) (zero-unsure op) (one-unsure op) v)

-- ---- the bits of a word, taken lowest first

-- a bit that is 0 is passed
pub halved : (b j : ℕ) → b / 2 * 2 ≡ b → b * 2 ^ j ≡ b / 2 * 2 ^ (j + 1)
halved b j h =
    ap (λ (b : ℕ). b * 2 ^ j) (sym h) ∙ mul_assoc (b / 2) 2 (2 ^ j) ∙ ap (λ (n : ℕ). b / 2 * n) (mul_comm 2 (2 ^ j) ∙ sym (pow-add 2 j 1))

-- a bit that is left lies in the word
pub few : (b j n : ℕ) → (b ≡ 0 → ⊥) → b * 2 ^ j < 2 ^ n → j < n
few zero j n z l = absurd (z refl)
few (suc b) j n z l = ⊎_elim (λ h. h) (λ h. absurd (omega (arith, l, suc-mul b (2 ^ j), pow_mono h))) (lt-or-ge j n)

-- a word that is not 0 is an odd number over as many zeros as it ends in
trailing : (d n : ℕ) → (n ≡ 0 → ⊥) → n < 2 ^ d → (b : ℕ) × (n ≡ b * 2 ^ count_trailing_zeros d n) × (b % 2 ≡ 1)
unfolding count_trailing_zeros
trailing zero n z l = absurd (z (lt-one l))
trailing (suc d) n z l = go (n % 2) refl (λ e. trailing d (n / 2) (λ y. z (omega (arith, e, y))) (shr_lt d 1 (rw add-one l)))
  where
    t : ℕ
    t = count_trailing_zeros d (n / 2)

    go : (r : ℕ) → n % 2 ≡ r → (n % 2 ≡ 0 → (b : ℕ) × (n / 2 ≡ b * 2 ^ t) × (b % 2 ≡ 1)) → (b : ℕ) × (n ≡ b * 2 ^ under r t) × (b % 2 ≡ 1)
    go zero e half =
        let h = half e in
        let q : n ≡ n / 2 * 2 = omega arith in
        (h.0, q ∙ ap (λ (m : ℕ). m * 2) h.1 ∙ mul_assoc h.0 (2 ^ t) 2 ∙ ap (λ (m : ℕ). h.0 * m) (sym (pow-suc 2 t)), h.2)
    go (suc r) e half = (n, sym (mul-one n), omega arith)

ends-in : (n : ℕ) → (n ≡ 0 → ⊥) → n < 2 ^ 64 → count_trailing_zeros 64 n < 64
ends-in n z l =
    let b = trailing 64 n z l in
    few b.0 (count_trailing_zeros 64 n) 64 (λ y. omega (arith, b.2, y)) (rw (sym b.1) l)

-- word k of both operands and its marks
module _ (op : Comparison) (f g : ℕ → LogicBit) (w k : ℕ) (x y : Word)
    (hx : (j : ℕ) → j < 64 → bit_of x j ≡ f (k * 64 + j)) (hy : (j : ℕ) → j < 64 → bit_of y j ≡ g (k * 64 + j))
    (m : Marks) (hm : m ≡ cut_marks w k (marks_of op x y)) where
  abbrev pairs : List (LogicBit × LogicBit)
  pairs = tabulate w (λ i. (f i, g i))

  apart-cut : m.apart ≡ below w k (marked (mismatch op) x y)
  unfolding cut_marks
  apart-cut = ap (λ (m : Marks). m.apart) hm

  doubt-cut : m.doubt ≡ below w k (marked (unsure op) x y)
  unfolding cut_marks
  doubt-cut = ap (λ (m : Marks). m.doubt) hm

  module _ (t : LogicBit → LogicBit → Bool) (fails : t Zero Zero ≡ false) (n : ℕ) (e : n ≡ below w k (marked t x y)) where
    -- place i of word k passes where its digit is 1
    digit : (i : ℕ) → k * 64 ≤ i → i < (k + 1) * 64 → on_pair t (get_or pairs i zeros) ≡ eqb (bit_at n (i - k * 64)) 1
    digit i l h =
        let q : i ≡ k * 64 + (i - k * 64) = omega arith in
        ap (λ (i : ℕ). on_pair t (get_or pairs i zeros)) q ∙ sym (mark t fails f g w k x y hx hy (i - k * 64) (omega arith))
        ∙ ap (λ (n : ℕ). eqb (bit_at n (i - k * 64)) 1) (sym e)

    no-digit : n ≡ 0 → (i : ℕ) → k * 64 ≤ i → i < (k + 1) * 64 → on_pair t (get_or pairs i zeros) ≡ false
    no-digit z i l h = digit i l h ∙ ap (λ (n : ℕ). eqb (bit_at n (i - k * 64)) 1) z ∙ ap (λ (d : ℕ). eqb d 1) (bit-of-zero (i - k * 64))

    -- the digits are those of b, an odd number, over j zeros
    module _ (b j : ℕ) (h : n ≡ b * 2 ^ j) (l : j < 64) (o : b % 2 ≡ 1) where
      lowest-digit : on_pair t (get_or pairs (k * 64 + j) zeros) ≡ true
      lowest-digit =
          let q : k * 64 + j - k * 64 ≡ j = omega arith in
          digit (k * 64 + j) (omega arith) (omega arith)
          ∙ ap₂ (λ (n i : ℕ). eqb (bit_at n i) 1) h q
          ∙ ap (λ (d : ℕ). eqb d 1) (rw add-zero at (bit-shl-high b j 0) ∙ bit-zero b ∙ o)

      none-lower : (i : ℕ) → k * 64 ≤ i → i < k * 64 + j → on_pair t (get_or pairs i zeros) ≡ false
      none-lower i p q =
          digit i p (omega arith)
          ∙ ap (λ (n : ℕ). eqb (bit_at n (i - k * 64)) 1) h ∙ ap (λ (d : ℕ). eqb d 1) (bit-shl-low b j (i - k * 64) (omega arith))

  -- one word more of a scan
  module _ (doubt first at : ℕ) (s : Scanned op (tabulate w (λ i. (f i, g i))) doubt first at k) where
    -- no place of word k mismatches
    module _ (z : m.apart ≡ 0) where
      apart_next : Clear (on_pair (mismatch op)) zeros pairs ((k + 1) * 64)
      apart_next i h = ⊎_elim (λ l. s.apart i l) (λ l. no-digit (mismatch op) (zero-apart op) m.apart apart-cut z i l h) (lt-or-ge i (k * 64))

      -- a word before it has an unsure place
      pub next : (doubt ≡ 0 → ⊥) → Scanned op (tabulate w (λ i. (f i, g i))) (bit_or doubt m.doubt) first at (k + 1)
      next d = record {
        apart = apart_next;
        sure = λ e. absurd (d (or-none doubt m.doubt e).0);
        below = λ _. s.below d;
        stands = λ _. s.stands d;
      }

      -- none has
      pub next-first : doubt ≡ 0 → Scanned op (tabulate w (λ i. (f i, g i))) (bit_or doubt m.doubt) m.doubt k (k + 1)
      next-first e =
          let small : m.doubt < 2 ^ 64 = rw doubt-cut (lt_of_le_of_lt (and_le_l (marked (unsure op) x y) _) (marked-lt (unsure op) x y)) in
          let j : ℕ = count_trailing_zeros 64 m.doubt in
          let own : (bit_or doubt m.doubt ≡ 0 → ⊥) → m.doubt ≡ 0 → ⊥ = λ d q. d (ap₂ bit_or e q ∙ or_zero_r 0) in
          record {
            apart = apart_next;
            sure = λ d i h. ⊎_elim (λ q. s.sure e i q)
                (λ q. no-digit (unsure op) (zero-unsure op) m.doubt doubt-cut (or-none doubt m.doubt d).1 i q h) (lt-or-ge i (k * 64));
            below = λ d i h. let b = trailing 64 m.doubt (own d) small in
                ⊎_elim (λ q. s.sure e i q)
                (λ q. none-lower (unsure op) (zero-unsure op) m.doubt doubt-cut b.0 j b.1 (ends-in m.doubt (own d) small) b.2 i q h)
                (lt-or-ge i (k * 64));
            stands = λ d. let b = trailing 64 m.doubt (own d) small in
                lowest-digit (unsure op) (zero-unsure op) m.doubt doubt-cut b.0 j b.1 (ends-in m.doubt (own d) small) b.2;
          }

    -- the bits that are left after j of them are b, whose lowest is a mismatch
    pub left : (b j : ℕ) → m.apart ≡ b * 2 ^ j → j < 64 → b % 2 ≡ 1 → Mismatch (k * 64 + j) ≡ found op (tabulate w (λ i. (f i, g i)))
    left b j e l o =
        found_at op pairs (k * 64 + j)
        (λ i h. ⊎_elim (λ p. s.apart i p) (λ p. none-lower (mismatch op) (zero-apart op) m.apart apart-cut b j e l o i p h) (lt-or-ge i (k * 64)))
        (lowest-digit (mismatch op) (zero-apart op) m.apart apart-cut b j e l o)

-- ---- words straight from the planes

module _ (op : Comparison) (w : ℕ) (a b : Extent) (av au bv bu : List ℕ) where
  -- nothing is found in the first k words
  none_found : (k : ℕ) → Clear (on_pair (mismatch op)) zeros (places_over w a (lent av au) b (lent bv bu)) (k * 64)
      → Clear (on_pair (unsure op)) zeros (places_over w a (lent av au) b (lent bv bu)) (k * 64) → Scanned op (places_over w a (lent av au) b (lent bv bu)) 0 0 0 k
  none_found k m u = record { apart = m; sure = λ _. u; below = λ z. absurd (z refl); stands = λ z. absurd (z refl) }

  next-whole : (k : ℕ) → k * 64 + 64 ≤ w → k * 64 + 64 ≤ a.width → k * 64 + 64 ≤ b.width
      → (m : Marks) → m ≡ marks_of op (word_in (lent av au) k) (word_in (lent bv bu) k) → m.apart ≡ 0 → m.doubt ≡ 0
      → Scanned op (places_over w a (lent av au) b (lent bv bu)) 0 0 0 k → Scanned op (places_over w a (lent av au) b (lent bv bu)) 0 0 0 (k + 1)
  next-whole k hw ha hb m e z d s =
      let r = next-first op (extent_at a (lent av au)) (extent_at b (lent bv bu)) w k
      (word_in (lent av au) k) (word_in (lent bv bu) k)
      (λ j l. sym (inside a.width av au a.beyond k j l (omega arith)))
      (λ j l. sym (inside b.width bv bu b.beyond k j l (omega arith)))
      m (whole op w k (word_in (lent av au) k) (word_in (lent bv bu) k) m e hw) 0 0 0 s z refl in
      none_found (k + 1) r.apart (r.sure (ap (bit_or 0) d ∙ or_zero_r 0))

  pub whole-marks : (k : ℕ) → k * 64 + 64 ≤ w → k * 64 + 64 ≤ a.width → k * 64 + 64 ≤ b.width
      → (m : Marks) → m ≡ marks_of op (word_in (lent av au) k) (word_in (lent bv bu) k)
      → m ≡ cut_marks w k (marks_of op (word_at (extent_at a (lent av au)) k) (word_at (extent_at b (lent bv bu)) k))
  whole-marks k hw ha hb m e =
      let f : ℕ → LogicBit = extent_at a (lent av au) in
      let g : ℕ → LogicBit = extent_at b (lent bv bu) in
      let x : Word = word_in (lent av au) k in
      let y : Word = word_in (lent bv bu) k in
      let hx : (j : ℕ) → j < 64 → bit_of x j ≡ bit_of (word_at f k) j = λ j l. sym (inside a.width av au a.beyond k j l (omega arith)) ∙ sym (word-bit f k j l) in
      let hy : (j : ℕ) → j < 64 → bit_of y j ≡ bit_of (word_at g k) j = λ j l. sym (inside b.width bv bu b.beyond k j l (omega arith)) ∙ sym (word-bit g k j l) in
      whole op w k (word_at f k) (word_at g k) m
      (e ∙ ap₂ marks_by (marked-cong (mismatch op) x (word_at f k) y (word_at g k) hx hy) (marked-cong (unsure op) x (word_at f k) y (word_at g k) hx hy)) hw

  pub same_start : (k : ℕ) → k * 64 ≤ w → k * 64 ≤ a.width → k * 64 ≤ b.width → ((i : ℕ) → i < k → unlike av au bv bu i ≡ 0)
      → Scanned op (places_over w a (lent av au) b (lent bv bu)) 0 0 0 k
  same_start zero hw ha hb h = none_found 0 (λ i l. absurd (omega arith)) (λ i l. absurd (omega arith))
  same_start (suc k) hw ha hb h =
      let q = same-words (get_or av k 0) (get_or au k 0) (get_or bv k 0) (get_or bu k 0) (h k (omega arith)) in
      let e : marks_of op (word_in (lent av au) k) (word_in (lent bv bu) k) ≡ marks_by 0 0 =
      (λ i. marks_of op (word_by (q.0 i) (q.1.0 i)) (word_by (get_or bv k 0) (q.1.1 i))) ∙ nothing op (get_or bv k 0) in
      rw (sym (add-one k))
      (next-whole k (omega arith) (omega arith) (omega arith) (marks_by 0 0) (sym e) refl refl
      (same_start k (omega arith) (omega arith) (omega arith) (λ i l. h i (omega arith))))

module _ (w : ℕ) (l : w ≤ 64) (a b : Word) where
  some-place : (t : LogicBit → LogicBit → Bool) → t Zero Zero ≡ false → any_of (on_pair t) (word_places w a b) ≡ not (eqb (below w 0 (marked t a b)) 0)
  some-place t fails =
      any_some (on_pair t) zeros fails (word_places w a b) 64 (rw length-tabulate l)
      ∙ gather_cong ◌||◌ false 64 (λ j. on_pair t (get_or (word_places w a b) j zeros)) (λ j. on_pair t (get_or (word_places w a b) (0 * 64 + j) zeros))
      (λ j _. ap (λ (i : ℕ). on_pair t (get_or (word_places w a b) i zeros)) (sym (zero-add j)))
      ∙ sym (word-marked t fails (bit_of a) (bit_of b) w 0 a b (λ j _. ap (bit_of a) (sym (zero-add j))) (λ j _. ap (bit_of b) (sym (zero-add j))))

  pub one_word : (op : Comparison) (r : Marks) → r ≡ marks_of op a b → (m : ℕ) → m ≡ 2 ^ w - 1
      → answered (not (eqb (bit_and r.apart m) 0)) (bit_and r.doubt m) ≡ decided op (word_places w a b)
  one_word op r e m h =
      let n : w ≡ min 64 (w - 0 * 64) = omega arith in
      ap₂ (λ (r : Marks) (m : ℕ). answered (not (eqb (bit_and r.apart m) 0)) (bit_and r.doubt m)) e (h ∙ ap (λ (n : ℕ). 2 ^ n - 1) n)
      ∙ by_tests op (word_places w a b) _ (below w 0 (marked (unsure op) a b)) (some-place (mismatch op) (zero-apart op)) (some-place (unsure op) (zero-unsure op))
