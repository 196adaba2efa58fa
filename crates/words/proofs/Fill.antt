-- A loop that writes a list from the front: n places, of which the first k are F 0, .., F (k - 1).
--     start, more, done         nothing written yet; one place more; all written
--     plane-done, map-done      all words of a plane; all places of what g sees of a list
use mathlib.Core.Path.{◌≡◌, sym, ap, ◌∙◌}
use mathlib.Core.List.{List, map}
use Prim.Native.Nat.{ℕ, ◌+◌, ◌≤◌, ◌<◌}
use native.Mathlib.Nat.{not-suc-le-zero, lt_of_lt_of_le}
use native.Mathlib.Omega.{arith}
use borrow.Author.Count.{below_more}
use lib.ListN.{length, get_or, set, length-set, length-map, get_or-map}
use lib.Seq.{get_or-set_same, get_or-set_other}
use Rattle.bit.specs.declared.LogicBit.{LogicBit}
use Rattle.words.specs.Vector.{tabulate, FilledTo, at}
use Rattle.words.specs.Planes.{word_count, word_of, plane_of}
use Rattle.words.proofs.Planes.{eq-tabulate}

module _ {A : Type 0} {d : A} {F : ℕ → A} {n : ℕ} {out : List A} where
  pub start : length out ≡ n → FilledTo d F n 0 out
  start e = record { long = e; upto = λ i l. absurd (not-suc-le-zero l) }

  pub more : {k : ℕ} {x : A} → FilledTo d F n k out → k < n → x ≡ F k → FilledTo d F n (k + 1) (set out k x)
  more {k} {x} h l e = record {
    long = length-set out k x ∙ h.long;
    upto = below_more (λ i. get_or (set out k x) i d ≡ F i) k
        (λ i m. get_or-set_other out k i x d (omega arith) ∙ h.upto i m)
        (get_or-set_same out k x d (omega (arith, h.long)) ∙ e);
  }

  pub done : {k : ℕ} → FilledTo d F n k out → n ≤ k → out ≡ tabulate n F
  done h l = eq-tabulate n F out d h.long (λ i m. h.upto i (lt_of_lt_of_le m l))

pub plane-done : (d : LogicBit → ℕ) (bs : List LogicBit) (n k : ℕ) (out : List ℕ)
    → FilledTo 0 (word_of d (at bs)) n k out → n ≤ k → n ≡ word_count (length bs) → out ≡ plane_of d bs
plane-done d bs n k out h l e = done h l ∙ ap (λ (m : ℕ). tabulate m (word_of d (at bs))) e

module _ {A B : Type 0} (g : A → B) (n : ℕ) (s : List A) (d : A) (e : length s ≡ n) where
  map-tabulate : map g s ≡ tabulate n (λ i. g (get_or s i d))
  map-tabulate = eq-tabulate n (λ i. g (get_or s i d)) (map g s) (g d) (length-map s g ∙ e) (λ i _. get_or-map g s i d)

  pub map-done : {l : List B} {k : ℕ} → FilledTo (g d) (λ i. g (get_or s i d)) n k l → n ≤ k → l ≡ map g s
  map-done h m = done h m ∙ sym map-tabulate
