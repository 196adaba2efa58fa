-- The comparisons, on one word of each plane.
--     compared-word     the comparison of two narrow vectors is that of the places of their words
--     compared-narrow   so it is the comparison of the words at 64 bits
use mathlib.Core.Path.{◌≡◌, refl, sym, ap, ap₂, ◌∙◌}
use mathlib.Core.Bool.{Bool, false, ◌||◌, cond}
use native.Mathlib.Omega.{arith}
use lib.ListN.{get_or}
use Rattle.bit.specs.declared.LogicBit.{LogicBit}
use Rattle.bit.specs.declared.LogicBit.TheVariants.{Zero, One, X}
use Rattle.words.specs.declared.Word.{Word}
use Rattle.words.specs.Planes.{bit_of}
use Rattle.words.proofs.Planes.{get_d_tabulate, length-tabulate}
use Rattle.value.specs.declared.Header.{Header}
use Rattle.value.specs.Checks.{plain, vector}
use Rattle.reduce_words.specs.Fold.{any_of}
use Rattle.reduce_words.proofs.Gather.{gather_cong}
use Rattle.reduce_words.proofs.Places.{any_some}
use Rattle.extension.proofs.Extension.{Plainly}
use Rattle.compare_words.specs.declared.Comparison.{Comparison}
use Rattle.compare_words.specs.Compared.{mismatch, unsure, on_pair, decided, places, compared, word_places}
use Rattle.compare_words.proofs.Places.{zeros, zero-apart, zero-unsure}
use Rattle.narrow.specs.Narrow.{single, plain64}
use Rattle.narrow.proofs.Operands.{Narrow, plain-narrow, paired, in_a_word}

module _ (op : Comparison) (a b : Header) (x y : Word) (n : Narrow a x) (m : Narrow b y) (c : Plainly a b) where
  some-place : (t : LogicBit → LogicBit → Bool) → t Zero Zero ≡ false
      → any_of (on_pair t) (places (vector a (single x)) (vector b (single y))) ≡ any_of (on_pair t) (word_places 64 x y)
  some-place t fails =
      any_some (on_pair t) zeros fails (places (vector a (single x)) (vector b (single y))) 64 (rw length-tabulate (in_a_word a b x y n m))
      ∙ gather_cong ◌||◌ false 64 (λ j. on_pair t (get_or (places (vector a (single x)) (vector b (single y))) j zeros)) (λ j. on_pair t (get_or (word_places 64 x y) j zeros))
      (λ j l. ap (on_pair t) (paired {A = LogicBit × LogicBit} (λ p q. (p, q)) a b x y n m c j l ∙ sym (get_d_tabulate 64 (λ i. (bit_of x i, bit_of y i)) j zeros l)))
      ∙ sym (any_some (on_pair t) zeros fails (word_places 64 x y) 64 (rw length-tabulate (omega arith)))

  pub compared-word : decided op (word_places 64 x y) ≡ compared op (vector a (single x)) (vector b (single y))
  compared-word =
      sym (ap₂ (λ (p q : Bool). cond p Zero (cond q X One)) (some-place (mismatch op) (zero-apart op)) (some-place (unsure op) (zero-unsure op)))

pub compared-narrow : (op : Comparison) (a b : Header) (x y : Word) → Narrow a x → Narrow b y → Plainly a b
    → compared op (vector a (single x)) (vector b (single y)) ≡ compared op (plain64 x) (plain64 y)
compared-narrow op a b x y n m c =
    sym (compared-word op a b x y n m c) ∙ compared-word op (plain 64) (plain 64) x y (plain-narrow x) (plain-narrow y) (λ _. refl)
