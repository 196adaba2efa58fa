-- The operators that give a vector, on one word of each plane.
--     joined-word       the operator on two narrow vectors is its rule at each place of their words
--     joined-narrow     so it is the operator on the words at 64 bits
--     inverted-word     the word of not is that of the vector of its bits below the width
use mathlib.Core.Path.{◌≡◌, refl, sym, ap, ap₂, ◌∙◌}
use Prim.Native.Nat.{ℕ, ◌+◌, ◌-◌, ◌*◌, ◌^◌, ◌<◌, min}
use native.Mathlib.Nat.{zero-add}
use native.Mathlib.Omega.{arith}
use lib.ListN.{get_or}
use Rattle.bit.specs.declared.LogicBit.TheVariants.{Zero}
use Rattle.words.specs.declared.Word.{Word}
use Rattle.words.specs.Vector.{at, tabulate}
use Rattle.words.specs.Planes.{bit_of, lent, planes_of, value_digit, unknown_digit, word_by, word_count, width_mask}
use Rattle.words.proofs.Digits.{pack-cong}
use Rattle.value.specs.declared.Header.{Header}
use Rattle.value.specs.Checks.{plain, vector}
use Rattle.extension.specs.Extension.{larger_width}
use Rattle.extension.proofs.Extension.{Plainly}
use Rattle.lanes.specs.declared.Bitwise.{Bitwise}
use Rattle.lanes.specs.declared.Bitwise.TheVariants.{And, Or, Xor, Merge}
use Rattle.lanes.specs.Lanes.{op_bit, lane_word, not_word}
use Rattle.bitwise_words.specs.Joined.{joined, inverted_word, inverted_planes}
use Rattle.narrow.specs.Narrow.{single, plain64}
use Rattle.narrow.proofs.Singles.{one_word}
use Rattle.narrow.proofs.Operands.{Narrow, plain-narrow, paired_at, paired, in_a_word}

-- ---- and, or, xor and merge

zeros : (op : Bitwise) → op_bit op Zero Zero ≡ Zero
zeros And = refl
zeros Or = refl
zeros Xor = refl
zeros Merge = refl

module _ (op : Bitwise) (a b : Header) (x y : Word) (n : Narrow a x) (m : Narrow b y) (c : Plainly a b) where
  joined-bit : (j : ℕ) → j < 64 → op_bit op (bit_of x j) (bit_of y j) ≡ at (joined op (vector a (single x)) (vector b (single y))) (0 * 64 + j)
  joined-bit j l =
      sym (paired (op_bit op) a b x y n m c j l)
      ∙ ap₂ (get_or (joined op (vector a (single x)) (vector b (single y)))) (sym (zero-add j)) (zeros op)

  pub joined-word : single (lane_word (op_bit op) x y) ≡ planes_of (joined op (vector a (single x)) (vector b (single y)))
  unfolding lane_word
  joined-word =
      one_word (larger_width a b) (paired_at (op_bit op) a b x y n m c) (lane_word (op_bit op) x y) (in_a_word a b x y n m)
      (ap₂ word_by (pack-cong 64 _ _ (λ j l. ap value_digit (joined-bit j l))) (pack-cong 64 _ _ (λ j l. ap unknown_digit (joined-bit j l))))

pub joined-narrow : (op : Bitwise) (a b : Header) (x y : Word) → Narrow a x → Narrow b y → Plainly a b
    → planes_of (joined op (vector a (single x)) (vector b (single y))) ≡ planes_of (joined op (plain64 x) (plain64 y))
joined-narrow op a b x y n m c =
    sym (joined-word op a b x y n m c) ∙ joined-word op (plain 64) (plain 64) x y (plain-narrow x) (plain-narrow y) (λ _. refl)

-- ---- not

-- the words of not at width w, of which there is one
pub inverted-word : (w : ℕ) (x : Word) → single (not_word x (width_mask w 0)) ≡ inverted_planes (min 64 w) (single x)
unfolding tabulate
inverted-word w x =
    let e : min 64 (w - 0 * 64) ≡ min 64 (min 64 w - 0 * 64) = omega arith in
    let one : 1 ≡ word_count (min 64 w) = omega arith in
    ap (λ (n : ℕ). single (not_word x (2 ^ n - 1))) e
    ∙ ap (λ (n : ℕ). lent (tabulate n (λ k. (inverted_word (min 64 w) (single x) k).value)) (tabulate n (λ k. (inverted_word (min 64 w) (single x) k).unknown))) one
