-- The parity of a vector, word by word.
--     Summed      no bit below word k is unknown, and the word `sum` has as many ones as these bits, up to an even number
--     begin, another, unknown-found, parity     no word yet; one word more; an unknown bit is found; all words are summed up
use mathlib.Core.Path.{◌≡◌, refl, sym, ap, ap₂, ◌∙◌}
use mathlib.Core.Logic.{⊎_elim}
use mathlib.Core.Bool.{Bool, false, not, ◌||◌, cond}
use mathlib.Core.List.{List}
use Prim.Native.Nat.{ℕ, zero, suc, ◌+◌, ◌*◌, ◌/◌, ◌%◌, ◌^◌, ◌≤◌, ◌<◌}
use native.Mathlib.Nat.{zero-add, add_assoc}
use native.Mathlib.Numerals.{add-one}
use native.Mathlib.Omega.{arith}
use borrow.Author.Tests.{ne_eqb}
use lib.Dec.{eqb}
use lib.ListN.{length, get_or}
use lib.Arith.{lt-one, digits_div, digits_mod}
use lib.Pow.{shr_lt}
use lib.Bits.{bit_xor, differ, xor_step}
use lib.Count.{ones, ones_step}
use Rattle.bit.specs.declared.LogicBit.{LogicBit}
use Rattle.bit.specs.declared.LogicBit.TheVariants.{Zero, One, X}
use Rattle.bit.specs.Rules.{same}
use Rattle.words.specs.Vector.{at, bit_at}
use Rattle.words.specs.Planes.{stored, from_planes}
use Rattle.words.proofs.Digits.{bit-lt, bit-of-zero, differ-lt, lt-or-ge}
use Rattle.words.proofs.Planes.{length-tabulate, plane-bit}
use Rattle.reduce_words.specs.Fold.{count_of, is_unknown, reduce_xor}
use Rattle.reduce_words.proofs.Gather.{gather, some, gather_cong, gather-word, of-list, of-digits}
use Rattle.reduce_words.proofs.Places.{some_word, any_some, any_found, WordPlanes, unknown_at, inside, outside, unknown-word}

-- ---- the ones of a word

abbrev total : ℕ → (ℕ → ℕ) → ℕ
total = gather ◌+◌ 0

ones-digits : (n x : ℕ) → x < 2 ^ n → ones x ≡ total n (bit_at x)
unfolding ones
ones-digits = of-digits ◌+◌ 0 ones (λ d. d) refl ones_step

differ-odd : (x y : ℕ) → x < 2 → y < 2 → differ x y % 2 ≡ (x + y) % 2
differ-odd zero y p q = omega arith
differ-odd (suc zero) zero p q = refl
differ-odd (suc zero) (suc zero) p q = refl
differ-odd (suc (suc x)) y p q = absurd (omega arith)
differ-odd (suc zero) (suc (suc y)) p q = absurd (omega arith)

odd-sum : (d m a b s t : ℕ) → d % 2 ≡ (a + b) % 2 → m % 2 ≡ (s + t) % 2 → (d + m) % 2 ≡ ((a + s) + (b + t)) % 2
odd-sum d m a b s t p q = omega arith

xor-odd : (n x y : ℕ) → x < 2 ^ n → y < 2 ^ n → ones (bit_xor x y) % 2 ≡ (ones x + ones y) % 2
unfolding ones
xor-odd zero x y p q = ap₂ (λ (a b : ℕ). ones (bit_xor a b) % 2) (lt-one p) (lt-one q) ∙ ap₂ (λ (a b : ℕ). (ones a + ones b) % 2) (sym (lt-one p)) (sym (lt-one q))
xor-odd (suc n) x y p q =
    let d : ℕ = differ (x % 2) (y % 2) in
    let h : ℕ = bit_xor (x / 2) (y / 2) in
    let l : d < 2 = differ-lt (x % 2) (y % 2) (omega arith) (omega arith) in
    let e : ones (bit_xor x y) ≡ d + ones h = ap ones (xor_step x y) ∙ ones_step (h * 2 + d) ∙ ap₂ (λ (a b : ℕ). a + ones b) (digits_mod h l) (digits_div h l) in
    ap (λ (a : ℕ). a % 2) e
    ∙ odd-sum d (ones h) (x % 2) (y % 2) (ones (x / 2)) (ones (y / 2)) (differ-odd (x % 2) (y % 2) (omega arith) (omega arith)) (xor-odd n (x / 2) (y / 2) (shr_lt n 1 (rw add-one p)) (shr_lt n 1 (rw add-one q)))
    ∙ ap₂ (λ (a b : ℕ). (a + b) % 2) (sym (ones_step x)) (sym (ones_step y))

-- ---- the ones of a vector

-- 1 for a bit that is 1
abbrev one_in : LogicBit → ℕ
one_in b = cond (same One b) 1 0

one-stored : (v : ℕ) → v < 2 → v ≡ one_in (stored v 0)
one-stored zero l = refl
one-stored (suc zero) l = refl
one-stored (suc (suc v)) l = absurd (omega arith)

module _ (w : ℕ) (v u : List ℕ) where
  abbrev bits : List LogicBit
  bits = from_planes w v u

  abbrev one_at : ℕ → ℕ
  one_at i = one_in (at bits i)

  pub record Summed (sum k : ℕ) : Type 0 where
    pub known : some (k * 64) (unknown_at bits) ≡ false
    pub odd : ones sum % 2 ≡ total (k * 64) one_at % 2

  pub begin : Summed 0 0
  unfolding gather ones
  begin = record { known = refl; odd = refl }

  pub parity : (sum k : ℕ) → Summed sum k → w ≤ k * 64 → (z : Bool) → eqb (ones sum % 2) 0 ≡ z → cond z Zero One ≡ reduce_xor bits
  parity sum k s l z e =
      let b : length bits ≤ k * 64 = rw length-tabulate l in
      let n : count_of (same One) bits ≡ total (k * 64) one_at = of-list ◌+◌ 0 zero-add (count_of (same One)) one_in refl (λ b bs. refl) Zero refl bits (k * 64) b in
      sym (ap₂ (λ (x y : Bool). cond x X (cond y Zero One))
      (any_some is_unknown Zero refl bits (k * 64) b ∙ s.known)
      (ap (λ (n : ℕ). eqb (n % 2) 0) n ∙ ap (λ (n : ℕ). eqb n 0) (sym s.odd) ∙ e))

  module _ (p : WordPlanes w v u) where
    ones-word : (k : ℕ) → get_or u k 0 ≡ 0 → ones (get_or v k 0) ≡ total 64 (λ j. one_at (k * 64 + j))
    ones-word k e =
        ones-digits 64 (get_or v k 0) (p.words.value-words k)
        ∙ gather_cong ◌+◌ 0 64 (bit_at (get_or v k 0)) (λ j. one_at (k * 64 + j))
        (λ j l. ⊎_elim
        (λ m. one-stored (bit_at (get_or v k 0) j) (bit-lt (get_or v k 0) j)
        ∙ ap one_in (sym (inside w v u Zero k j l m ∙ ap (stored (bit_at (get_or v k 0) j)) (ap (λ (x : ℕ). bit_at x j) e ∙ bit-of-zero j))))
        (λ m. plane-bit v k j l ∙ p.value-plane.clear (k * 64 + j) m ∙ sym (ap one_in (outside w v u Zero (k * 64 + j) m)))
        (lt-or-ge (k * 64 + j) w))

    module _ (sum k : ℕ) (s : Summed sum k) where
      pub another : sum < 2 ^ 64 → get_or u k 0 ≡ 0 → Summed (bit_xor sum (get_or v k 0)) (k + 1)
      another l e = record {
        known = some_word k (unknown_at bits) ∙ ap₂ ◌||◌ s.known (sym (unknown-word w v u p k) ∙ ap (λ (y : ℕ). not (eqb y 0)) e);
        odd = xor-odd 64 sum (get_or v k 0) l (p.words.value-words k) ∙ omega (arith, s.odd, ones-word k e, gather-word ◌+◌ 0 zero-add add_assoc k one_at);
      }

      pub unknown-found : (get_or u k 0 ≡ 0 → ⊥) → X ≡ reduce_xor bits
      unknown-found e =
          sym (ap (λ (z : Bool). cond z X (cond (eqb (count_of (same One) bits % 2) 0) Zero One))
          (any_found is_unknown Zero refl bits ((k + 1) * 64)
          (some_word k (unknown_at bits) ∙ ap₂ ◌||◌ s.known (sym (unknown-word w v u p k) ∙ ap not (ne_eqb (get_or u k 0) 0 e)))))
