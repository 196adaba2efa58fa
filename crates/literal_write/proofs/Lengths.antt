-- The length of a literal, and what is written by it.
--     length-literal, length-lent     the digits of the width, what stands between, and a digit for each bit
--     size_taken     a header that `check_size` accepts is no fill, and its width is 1 to 4,096
--     length_taken     what `literal_length` answers where the width is 1 to 4,096 and the vector no fill
--     length-given     where it gives a length, that is the length of the text
--     by-length     a vector that `check_vector` accepts is written by what `literal_length` answers
use mathlib.Core.Path.{◌≡◌, refl, ap, ◌∙◌}
use mathlib.Core.Bool.{Bool, true, false, not, ◌&&◌, cond}
use mathlib.Core.List.{List, ◌++◌}
use Prim.Native.Nat.{ℕ, ◌+◌, ◌≤◌}
use native.Mathlib.Omega.{arith}
use borrow.Author.Tests.{le-leb, le-ltb, leb-true, not-true}
use lib.Dec.{eqb, leb}
use lib.ListN.{length, length-append}
use Rattle.bit.proofs.Tests.{and-true}
use Rattle.refusal.specs.Outcome.{Answer, Outcome, outcome, refuse, or_refuse, after}
use Rattle.refusal.specs.Outcome.Answer.{given, refused}
use Rattle.bit.specs.declared.LogicBit.{LogicBit}
use Rattle.words.specs.Planes.{Planes}
use Rattle.value.specs.declared.Header.{Header}
use Rattle.value.specs.Checks.{max_width, vector, check_planes, check_vector}
use Rattle.value.proofs.Checks.{planes_accepted}
use Rattle.text.specs.Write.{decimal, bit_digits}
use Rattle.lines.proofs.Put.{length-bits, length-planes}
use Rattle.literal_words.specs.Digits.{max_size}
use Rattle.literal_write.specs.Write.{base_text, literal_text, check_size, check_header, literal_length, written_text, write_literal}

pub length-literal : (w : ℕ) (s : Bool) (bs : List LogicBit) → length bs ≡ w
    → length (decimal w ++ (base_text s ++ bit_digits bs)) ≡ length (decimal w) + length (base_text s) + w
length-literal w s bs e =
    omega (arith, length-append (decimal w) (base_text s ++ bit_digits bs), length-append (base_text s) (bit_digits bs), length-bits bs)

-- the text of lent planes
pub length-lent : (h : Header) (p : Planes) → length (literal_text (vector h p)) ≡ length (decimal h.width) + length (base_text h.is_signed) + h.width
unfolding literal_text
length-lent h p = length-literal h.width h.is_signed (vector h p).bits (length-planes h.width p.value p.unknown)

-- ---- what `literal_length` answers

pub size_taken : (h : Header) → check_size h ≡ given tt → (h.is_fill ≡ false) × (1 ≤ h.width) × (h.width ≤ max_size)
unfolding check_size
size_taken h e = go (not h.is_fill && (leb 1 h.width && leb h.width max_size)) refl e
  where
    go : (b : Bool) → (not h.is_fill && (leb 1 h.width && leb h.width max_size)) ≡ b
        → ◌≡◌ {A = Answer Unit} (cond b (given tt) (refused 15)) (given tt) → (h.is_fill ≡ false) × (1 ≤ h.width) × (h.width ≤ max_size)
    go false q e = let z : ◌≡◌ {A = ℕ} 0 1 = cc in absurd (omega arith)
    go true q e =
        let a = and-true (not h.is_fill) (leb 1 h.width && leb h.width max_size) q in
        let b = and-true (leb 1 h.width) (leb h.width max_size) a.1 in
        (not-true _ a.0, leb-true _ _ b.0, leb-true _ _ b.1)

pub length_taken : (h : Header) → h.is_fill ≡ false → 1 ≤ h.width → h.width ≤ max_size
    → literal_length h ≡ given (length (decimal h.width) + length (base_text h.is_signed) + h.width)
unfolding literal_length check_header check_size
length_taken h f l m =
    let narrow : h.width ≤ max_width = omega arith in
    rw (le-ltb _ _ narrow, f, le-leb _ _ l, le-leb _ _ m)

after-given : (a b : Answer Unit) (l n : ℕ) → ◌≡◌ {A = Answer ℕ} (after a (after b (given l))) (given n) → l ≡ n
after-given (given u) (given v) l n e = cc
after-given (given u) (refused k) l n e = let z : ◌≡◌ {A = ℕ} 0 1 = cc in absurd (omega arith)
after-given (refused k) b l n e = let z : ◌≡◌ {A = ℕ} 0 1 = cc in absurd (omega arith)

pub length-given : (h : Header) (p : Planes) (n : ℕ) → literal_length h ≡ given n → length (literal_text (vector h p)) ≡ n
unfolding literal_length
length-given h p n e = length-lent h p ∙ after-given (check_header h) (check_size h) _ n e

-- ---- what is written by it

-- what `check_vector` accepts passes the checks of its header alone
header-checked : (h : Header) (p : Planes) → check_vector h p ≡ given tt → check_header h ≡ given tt
unfolding check_vector check_header
header-checked h p e = go (check_planes h.width p) refl e
  where
    go : (a : Answer Unit) → check_planes h.width p ≡ a
        → ◌≡◌ {A = Answer Unit} (after a (cond (h.is_fill && eqb h.width 0) (refused 4) (given tt))) (given tt) → check_header h ≡ given tt
    go (refused n) q e = let z : ◌≡◌ {A = ℕ} 0 1 = cc in absurd (omega arith)
    go (given t) q e = rw (le-ltb _ _ (planes_accepted h.width p q).narrow) e

-- the text w, written into `out` if its length is the one that is answered
abbrev pub by_length : List ℕ → List ℕ → Answer ℕ → Outcome Unit (List ℕ)
by_length w out (given n) = cond (eqb (length out) n) (outcome (given tt) w) (refuse 5 out)
by_length w out (refused n) = refuse n out

by_size : (a : Answer Unit) (w out : List ℕ) {n : ℕ} → length w ≡ n → or_refuse a out (written_text w out) ≡ by_length w out (after a (given n))
by_size (given u) w out q = ap (λ (k : ℕ). by_length w out (given k)) q
by_size (refused n) w out q = refl

pub by-length : (h : Header) (p : Planes) (out : List ℕ) → check_vector h p ≡ given tt
    → write_literal h p out ≡ by_length (literal_text (vector h p)) out (literal_length h)
unfolding write_literal literal_length
by-length h p out e = rw (e, header-checked h p e) (by_size (check_size h) (literal_text (vector h p)) out (length-lent h p))
