-- Two operands that are read by their extents, joined at a width that neither passes.
--     all-written                        the planes of the result, once every word is written
--     settled_joined                     operands read by their extents, joined, are the operands joined
--     value_written, unknown-written     words of the result from those of the planes, where both operands have them whole
use mathlib.Core.Path.{◌≡◌, sym, ap, ap₂, ◌∙◌}
use mathlib.Core.List.{List}
use Prim.Native.Nat.{ℕ, ◌/◌, ◌≤◌, ◌<◌, min, max}
use native.Mathlib.Omega.{arith}
use lib.ListN.{length, get_or}
use Rattle.words.specs.declared.Word.{Word}
use Rattle.words.specs.Vector.{at, FilledTo}
use Rattle.words.specs.Planes.{value_digit, unknown_digit, word_count, from_planes, word_of, word_at, word_in, lent, planes_of}
use Rattle.words.proofs.Planes.{length-tabulate}
use Rattle.words.proofs.Fill.{plane-done}
use Rattle.value.specs.declared.Header.{Header}
use Rattle.value.specs.Checks.{vector}
use Rattle.extension.specs.declared.Extent.{Extent}
use Rattle.extension.specs.Extension.{extent_of}
use Rattle.extension.proofs.Extension.{settled}
use Rattle.lanes.specs.declared.Bitwise.{Bitwise}
use Rattle.lanes.specs.Lanes.{op_bit}
use Rattle.bitwise_words.specs.Joined.{joined_word, joined_over, joined}
use Rattle.lanes.proofs.Places.{direct, whole_word}

module _ (op : Bitwise) (w : ℕ) (x : Extent) (av au : List ℕ) (y : Extent) (bv bu : List ℕ) where
  pub all-written : (k : ℕ) (ov ou : List ℕ) → FilledTo 0 (word_of value_digit (at (joined_over op w x (lent av au) y (lent bv bu)))) (word_count w) k ov
      → FilledTo 0 (word_of unknown_digit (at (joined_over op w x (lent av au) y (lent bv bu)))) (word_count w) k ou → word_count w ≤ k
      → lent ov ou ≡ planes_of (joined_over op w x (lent av au) y (lent bv bu))
  all-written k ov ou hv hu l =
      let R = joined_over op w x (lent av au) y (lent bv bu) in
      let e = ap word_count (sym (length-tabulate w _)) in
      ap₂ lent (plane-done value_digit R _ _ _ hv l e) (plane-done unknown_digit R _ _ _ hu l e)

  direct_word : x.width ≤ w → (i : ℕ) → i < min x.width y.width / 64
      → joined_word op (lent av au) (lent bv bu) i ≡ word_at (at (joined_over op w x (lent av au) y (lent bv bu))) i
  direct_word h i l =
      whole_word (op_bit op) (λ i. get_or (from_planes x.width av au) i x.beyond) (λ i. get_or (from_planes y.width bv bu) i y.beyond) w i
      (word_in (lent av au) i) (word_in (lent bv bu) i)
      (direct x.width av au x.beyond i (omega arith))
      (direct y.width bv bu y.beyond i (omega arith))
      (omega arith)

  module _ (h : x.width ≤ w) (N M n : ℕ) (out : List ℕ) (long : length out ≡ M) (hn : n ≡ min x.width y.width / 64) where
    pub value_written : FilledTo 0 (λ k. (joined_word op (lent av au) (lent bv bu) k).value) N n out
        → FilledTo 0 (word_of value_digit (at (joined_over op w x (lent av au) y (lent bv bu)))) M n out
    value_written g = record { long = long; upto = λ i l. g.upto i l ∙ ap (λ (z : Word). z.value) (direct_word h i (rw hn at l)) }

    pub unknown-written : FilledTo 0 (λ k. (joined_word op (lent av au) (lent bv bu) k).unknown) N n out
        → FilledTo 0 (word_of unknown_digit (at (joined_over op w x (lent av au) y (lent bv bu)))) M n out
    unknown-written g = record { long = long; upto = λ i l. g.upto i l ∙ ap (λ (z : Word). z.unknown) (direct_word h i (rw hn at l)) }

-- the extents say each operand's bits beside the other
pub settled_joined : (op : Bitwise) (a b : Header) (av au bv bu : List ℕ) (x y : Extent) (w : ℕ)
    → x ≡ extent_of (vector a (lent av au)) b → y ≡ extent_of (vector b (lent bv bu)) a → w ≡ max a.width b.width
    → joined_over op w x (lent av au) y (lent bv bu) ≡ joined op (vector a (lent av au)) (vector b (lent bv bu))
settled_joined op a b av au bv bu x y w hx hy hw = settled (op_bit op) a b av au bv bu hx hy w hw
