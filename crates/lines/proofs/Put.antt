-- Writing into a buffer, piece by piece.
--     put-none, put_byte, put-put    nothing, one byte, one text behind another
--     after, three, place_of         a writer behind one or two others, and where it ends
--     whole         a text that fills the buffer
--     bytes-more    one byte more of a slice
--     number-one, number_more, length-decimal     a number of one digit, and of one digit more
--     bits_none, bits-more, bits-place     the bits of a vector, highest first: none, one more, and where they end
use mathlib.Core.Path.{◌≡◌, refl, sym, ap, ◌∙◌}
use mathlib.Core.List.{List, [], ◌∷◌, ◌++◌, append_assoc, append-nil, reverse, reverse-cons}
use Prim.Native.Nat.{ℕ, suc, ◌+◌, ◌-◌, ◌/◌, ◌%◌, ◌≤◌, ◌<◌}
use native.Mathlib.Nat.{add-zero}
use native.Mathlib.Numerals.{add-one}
use native.Mathlib.Omega.{arith}
use lib.ListN.{length, take, drop, set, length-append, length-drop, length-reverse, take-append-drop, drop_of_length-le, get_or}
use lib.Seq.{length-take-le, take_at, set_split, drop-cons, drop-drop, append_snoc, drop-append-add, take-suc}
use Rattle.bit.specs.declared.LogicBit.{LogicBit}
use Rattle.bit.specs.declared.LogicBit.TheVariants.{Zero}
use Rattle.words.specs.Vector.{at}
use Rattle.words.specs.Planes.{from_planes, stored, plane_bit}
use Rattle.words.proofs.Planes.{length-tabulate}
use Rattle.text.specs.Read.{line_end}
use Rattle.text.specs.Write.{texts, decimal, number_text, bit_byte, bit_text, bit_digits}
use Rattle.text.proofs.Decimal.{decimal_digit, decimal-split}
use Rattle.lines.specs.Buffer.{Buffer, buffer, put}

pub same : {d e : List ℕ} {i j : ℕ} → d ≡ e → i ≡ j → buffer d i ≡ buffer e j
same p q = λ k. record { bytes = p k; place = q k }

pub put-none : (d : List ℕ) (i : ℕ) → put (buffer d i) [] ≡ buffer d i
unfolding put
put-none d i =
    let e : take i d ++ [] ++ drop (i + 0) d ≡ d = rw (append-nil, add-zero, take-append-drop) in
    same e (add-zero i)

pub put_byte : (d : List ℕ) (i b : ℕ) → i < length d → buffer (set d i b) (i + 1) ≡ put (buffer d i) (b ∷ [])
unfolding put
put_byte d i b h = same (set_split d i b h ∙ sym (rw add-one (append_snoc (take i d) b (drop (suc i) d)))) refl

pub put-put : (d : List ℕ) (i : ℕ) (v w : List ℕ) → i ≤ length d → put (put (buffer d i) v) w ≡ put (buffer d i) (v ++ w)
unfolding put
put-put d i v w h =
    let l : length (v ++ w) ≡ length v + length w = length-append v w in
    let p : List ℕ = take i d ++ v in
    let q : List ℕ = drop (i + length v) d in
    let r : List ℕ = drop (i + length (v ++ w)) d in
    let lp : length p ≡ i + length v = length-append (take i d) v ∙ ap (λ (k : ℕ). k + length v) (length-take-le i d h) in
    let n : i + length v + length w ≡ i + length (v ++ w) = omega arith in
    let e : drop (i + length v + length w) (p ++ q) ≡ r =
    ap (λ (k : ℕ). drop (k + length w) (p ++ q)) (sym lp)
    ∙ drop-append-add p q (length w)
    ∙ drop-drop (length w) (i + length v) d
    ∙ ap (λ (k : ℕ). drop k d) n
    in
    same
    (ap (λ (l : List ℕ). l ++ w ++ drop (i + length v + length w) (p ++ q)) (take_at p q (i + length v) lp)
    ∙ ap (λ (l : List ℕ). p ++ w ++ l) e
    ∙ ap (λ (l : List ℕ). l ++ r) (append_assoc (take i d) v w))
    n

-- a writer behind a writer
pub after : (d : List ℕ) (i : ℕ) (v w : List ℕ) {e f : List ℕ} {j k : ℕ} → buffer e j ≡ put (buffer d i) v → buffer f k ≡ put (buffer e j) w
    → i ≤ length d → buffer f k ≡ put (buffer d i) (v ++ w)
after d i v w p q h = q ∙ ap (λ (b : Buffer). put b w) p ∙ put-put d i v w h

-- where a writer ends
pub place_of : (d : List ℕ) (i : ℕ) (v : List ℕ) {e : List ℕ} {j : ℕ} → buffer e j ≡ put (buffer d i) v → j ≡ i + length v
unfolding put
place_of d i v p = ap (λ (b : Buffer). b.place) p

-- and that it ends within the buffer
pub place-within : (d : List ℕ) (i : ℕ) (v : List ℕ) {e : List ℕ} {j : ℕ} → i ≤ length d → buffer e j ≡ put (buffer d i) v → j ≤ length e
unfolding put
place-within d i v h p =
    let r = drop (i + length v) d in
    omega (
      arith,
      place_of d i v p,
      ap (λ (b : Buffer). length b.bytes) p,
      length-append (take i d) (v ++ r),
      length-append (take i d ++ v) r,
      length-append (take i d) v,
      length-append v r,
      length-take-le i d h,
    )

-- a text that is as long as the buffer is then the buffer
pub whole : (d w : List ℕ) {e : List ℕ} {j : ℕ} → length d ≡ length w → buffer e j ≡ put (buffer d 0) w → e ≡ w
unfolding put
whole d w h p =
    let n : drop (0 + length w) d ≡ [] = drop_of_length-le d {i = 0 + length w} (omega arith) in
    ap (λ (b : Buffer). b.bytes) p ∙ rw n (append-nil w)

-- a line: a key, what stands behind it, LF
pub three : (d : List ℕ) (i : ℕ) (u v w : List ℕ) {e f g : List ℕ} {j k l : ℕ} → buffer e j ≡ put (buffer d i) u
    → buffer f k ≡ put (buffer e j) v → buffer g l ≡ put (buffer f k) w → i ≤ length d → buffer g l ≡ put (buffer d i) (u ++ (v ++ w))
three d i u v w p q r h = after d i (u ++ v) w (after d i u v p q h) r h ∙ ap (put (buffer d i)) (append_assoc u v w)

-- ---- the bytes of a slice

pub bytes-more : (d e w : List ℕ) (i j : ℕ) → j < length w → i + length w ≤ length d → length e ≡ length d
    → buffer e (i + j) ≡ put (buffer d i) (take j w) → buffer (set e (i + j) (get_or w j 0)) (i + (j + 1)) ≡ put (buffer d i) (take (j + 1) w)
bytes-more d e w i j l room long p =
    let b : ℕ = get_or w j 0 in
    let n : length (take j w) ≡ j = length-take-le j w (omega arith) in
    let m : length (take j w ++ (b ∷ [])) ≡ j + 1 = length-append (take j w) (b ∷ []) ∙ ap (λ (k : ℕ). k + 1) n in
    same {d = set e (i + j) b} refl (omega arith)
    ∙ put_byte e (i + j) b (omega arith)
    ∙ ap (λ (z : Buffer). put z (b ∷ [])) p
    ∙ put-put d i (take j w) (b ∷ []) (omega arith)
    ∙ ap (put (buffer d i)) (sym (rw add-one (take-suc w j 0 l)))

-- ---- a number in decimal

pub length-line : (k : List ℕ) (n : ℕ) → length (k ++ number_text n) ≡ length k + length (decimal n) + 1
unfolding number_text
length-line k n = omega (arith, length-append k (decimal n ++ line_end), length-append (decimal n) line_end)

pub length-decimal : (n : ℕ) → 10 ≤ n → length (decimal n) ≡ length (decimal (n / 10)) + 1
length-decimal n h = ap length (decimal-split n h) ∙ length-append (decimal (n / 10)) ((48 + n % 10) ∷ [])

pub number-one : (d : List ℕ) (i n : ℕ) → n < 10 → i < length d → buffer (set d i (48 + n)) (i + 1) ≡ put (buffer d i) (decimal n)
number-one d i n l h = put_byte d i (48 + n) h ∙ ap (put (buffer d i)) (sym (decimal_digit n l))

pub number_more : (d e : List ℕ) (i j n : ℕ) → 10 ≤ n → i + length (decimal n) ≤ length d → length e ≡ length d
    → buffer e j ≡ put (buffer d i) (decimal (n / 10)) → buffer (set e j (48 + n % 10)) (j + 1) ≡ put (buffer d i) (decimal n)
number_more d e i j n l room long p =
    let q = place_of d i (decimal (n / 10)) p in
    let m = length-decimal n l in
    put_byte e j (48 + n % 10) (omega arith)
    ∙ ap (λ (z : Buffer). put z ((48 + n % 10) ∷ [])) p
    ∙ put-put d i (decimal (n / 10)) ((48 + n % 10) ∷ []) (omega (arith, ap length (decimal-split n l)))
    ∙ ap (put (buffer d i)) (sym (decimal-split n l))

-- ---- the bits of a vector, highest first

length-texts : (bs : List LogicBit) → length (texts bit_text bs) ≡ length bs
unfolding texts
length-texts [] = refl
length-texts (b ∷ bs) = ap suc (length-texts bs)

pub length-bits : (bs : List LogicBit) → length (bit_digits bs) ≡ length bs
length-bits bs = length-texts (reverse bs) ∙ length-reverse bs

pub length-planes : (w : ℕ) (v u : List ℕ) → length (from_planes w v u) ≡ w
length-planes w v u = length-tabulate w (λ i. stored (plane_bit v i) (plane_bit u i))

texts-append : (bs cs : List LogicBit) → texts bit_text (bs ++ cs) ≡ texts bit_text bs ++ texts bit_text cs
unfolding texts
texts-append [] cs = refl
texts-append (b ∷ bs) cs = ap (λ (l : List ℕ). bit_byte b ∷ l) (texts-append bs cs)

-- one bit lower
bits-lower : (bs : List LogicBit) (k : ℕ) → k < length bs → bit_digits (drop k bs) ≡ bit_digits (drop (suc k) bs) ++ bit_text (at bs k)
unfolding texts
bits-lower bs k l =
    ap bit_digits (drop-cons bs k Zero l)
    ∙ ap (texts bit_text) (reverse-cons (at bs k) (drop (suc k) bs))
    ∙ texts-append (reverse (drop (suc k) bs)) (at bs k ∷ [])

module _ (d : List ℕ) (i : ℕ) (bs : List LogicBit) where
  -- the buffer with the bits from k on
  abbrev pub with_bits : ℕ → Buffer
  with_bits k = put (buffer d i) (bit_digits (drop k bs))

  pub bits_none : (k : ℕ) → length bs ≤ k → buffer d i ≡ with_bits k
  unfolding texts
  bits_none k l = sym (put-none d i) ∙ ap (λ (z : List LogicBit). put (buffer d i) (bit_digits z)) (sym (drop_of_length-le bs l))

  pub bits-place : (e : List ℕ) (j k : ℕ) → buffer e j ≡ with_bits k → j ≡ i + (length bs - k)
  bits-place e j k p = place_of d i (bit_digits (drop k bs)) p ∙ ap (λ (n : ℕ). i + n) (length-bits (drop k bs) ∙ length-drop k bs)

  pub bits-more : (e : List ℕ) (j k : ℕ) → k < length bs → i + length bs ≤ length d → length e ≡ length d
      → buffer e j ≡ with_bits (suc k) → buffer (set e j (bit_byte (at bs k))) (j + 1) ≡ with_bits k
  bits-more e j k l room long p =
      let w : List ℕ = bit_digits (drop (suc k) bs) in
      let n : length w ≡ length bs - suc k = length-bits (drop (suc k) bs) ∙ length-drop (suc k) bs in
      let m : length (w ++ bit_text (at bs k)) ≡ length w + 1 = length-append w (bit_text (at bs k)) in
      let q = bits-place e j (suc k) p in
      put_byte e j (bit_byte (at bs k)) (omega arith)
      ∙ ap (λ (z : Buffer). put z (bit_text (at bs k))) p
      ∙ put-put d i w (bit_text (at bs k)) (omega arith)
      ∙ ap (put (buffer d i)) (sym (bits-lower bs k l))
