-- Not of a vector by words and by bits.
--     by-words     the words that not has by the operand's words are the planes of the vector that it gives by bits
use mathlib.Core.Path.{◌≡◌, sym, ap, ap₂, ◌∙◌}
use mathlib.Core.List.{List}
use Prim.Native.Nat.{ℕ}
use lib.ListN.{length}
use Rattle.bit.specs.declared.LogicBit.{LogicBit}
use Rattle.bit.specs.declared.LogicBit.TheVariants.{Zero}
use Rattle.bit.specs.Rules.{not_bit}
use Rattle.words.specs.declared.Word.{Word}
use Rattle.words.specs.Vector.{at, tabulate}
use Rattle.words.specs.Planes.{stored, plane_bit, from_planes, word_count, word_in, word_at, lent, planes_of, Words64}
use Rattle.words.proofs.Planes.{length-tabulate, get_d_tabulate, eq-tabulate, plane-bit}
use Rattle.lanes.proofs.Places.{not-word, one-cut}
use Rattle.bitwise_words.specs.Joined.{inverted, inverted_word, inverted_planes}

module _ (w : ℕ) (v u : List ℕ) where
  -- not at every place of the planes
  abbrev inverted_at : ℕ → LogicBit
  inverted_at i = not_bit (stored (plane_bit v i) (plane_bit u i))

  abbrev bits : List LogicBit
  bits = from_planes w v u

  at-each-place : tabulate w inverted_at ≡ inverted bits
  at-each-place =
      eq-tabulate (length bits) (λ i. not_bit (at bits i)) (tabulate w inverted_at) Zero
      (length-tabulate w inverted_at ∙ sym (length-tabulate w _))
      (λ i l. get_d_tabulate w inverted_at i Zero (rw length-tabulate at l)
      ∙ ap not_bit (sym (get_d_tabulate w (λ i. stored (plane_bit v i) (plane_bit u i)) i Zero (rw length-tabulate at l))))

  -- word k of that vector
  abbrev word_is : ℕ → Word
  word_is = word_at (at (tabulate w inverted_at))

  module _ (f : Words64 (lent v u)) where
    word : (k : ℕ) → inverted_word w (lent v u) k ≡ word_is k
    word k =
        not-word w k (word_in (lent v u) k) (f.value-words k) (f.unknown-words k)
        ∙ one-cut not_bit (λ i. stored (plane_bit v i) (plane_bit u i)) w k (word_in (lent v u) k)
        (λ j l. ap₂ stored (plane-bit v k j l) (plane-bit u k j l))

    pub by-words : inverted_planes w (lent v u) ≡ planes_of (inverted bits)
    by-words =
        (λ i. lent (tabulate (word_count w) (λ k. (word k i).value)) (tabulate (word_count w) (λ k. (word k i).unknown)))
        ∙ ap (λ (n : ℕ). lent (tabulate (word_count n) (λ k. (word_is k).value)) (tabulate (word_count n) (λ k. (word_is k).unknown))) (sym (length-tabulate w inverted_at))
        ∙ ap planes_of at-each-place
