-- A scan of two lists of words: whether some word of the first is not 0; if none is, whether some word of the second is.
--     left               what is left to be told behind k words, where `seen` is 0 if those of the second list were
--     found, more, end   a word of the first list is not 0; one word more; no word is left
use mathlib.Core.Path.{◌≡◌, sym, ap, ap₂, ◌∙◌}
use mathlib.Core.Bool.{Bool, false, not, ◌||◌, or_assoc, or-false}
use mathlib.Core.List.{List, ◌∷◌}
use Prim.Native.Nat.{ℕ, ◌+◌, ◌≤◌, ◌<◌}
use native.Mathlib.Numerals.{add-one}
use borrow.Author.Tests.{eq-eqb, ne_eqb}
use lib.Bits.{bit_or}
use lib.ListN.{length, get_or, drop, drop_of_length-le}
use lib.Seq.{drop-cons}
use Rattle.reduce_words.specs.declared.Truth.{Truth}
use Rattle.reduce_words.specs.declared.Truth.TheVariants.{True}
use Rattle.reduce_words.specs.Fold.{any_of, not_zero}
use Rattle.reduce_words.proofs.Marks.{or-nonzero}
use Rattle.reduce_words.proofs.ByWords.{told}

abbrev behind : ℕ → List ℕ → List ℕ → Truth
behind seen os us = told (any_of not_zero os) (not_zero seen || any_of not_zero us)

module _ (os us : List ℕ) where
  abbrev pub left : ℕ → ℕ → Truth
  left seen k = behind seen (drop k os) (drop k us)

  module _ (seen k : ℕ) (l : k < length os) (m : k < length us) where
    heads : left seen k ≡ behind seen (get_or os k 0 ∷ drop (k + 1) os) (get_or us k 0 ∷ drop (k + 1) us)
    heads = rw (add-one k) (ap₂ (behind seen) (drop-cons os k 0 l) (drop-cons us k 0 m))

    pub found : (get_or os k 0 ≡ 0 → ⊥) → left seen k ≡ True
    found z =
        heads
        ∙ ap (λ (b : Bool). told (b || any_of not_zero (drop (k + 1) os)) (not_zero seen || (not_zero (get_or us k 0) || any_of not_zero (drop (k + 1) us))))
        (ap not (ne_eqb _ _ z))

    pub more : get_or os k 0 ≡ 0 → left seen k ≡ left (bit_or seen (get_or us k 0)) (k + 1)
    more z =
        heads
        ∙ ap₂ (λ (b c : Bool). told (b || any_of not_zero (drop (k + 1) os)) c) (ap not (eq-eqb _ _ z))
        (sym (or_assoc (not_zero seen) (not_zero (get_or us k 0)) (any_of not_zero (drop (k + 1) us)))
        ∙ ap (λ (b : Bool). b || any_of not_zero (drop (k + 1) us)) (sym (or-nonzero seen (get_or us k 0))))

  pub end : (seen k : ℕ) → length os ≤ k → length us ≤ k → (z : Bool) → not_zero seen ≡ z → left seen k ≡ told false z
  end seen k l m z e = ap₂ (behind seen) (drop_of_length-le os l) (drop_of_length-le us m) ∙ ap (told false) (or-false (not_zero seen) ∙ e)
