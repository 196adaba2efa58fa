-- What is told of a vector by the words of its planes.
--     told               truth, by whether a known 1 stands in the vector and whether an unknown bit does
--     truth-by-words     truth by words is truth by bits
--     known_zeros         the places of each word that hold a known 0: zeros-cut cut off at the width, zeros-whole of a word below the width
--     zeros-by-words     some word has such a place where a bit is a known 0
use mathlib.Core.Path.{◌≡◌, refl, sym, ap, ap₂, ◌∙◌}
use mathlib.Core.Bool.{Bool, false, ◌||◌, or_assoc, cond}
use mathlib.Core.List.{List}
use Prim.Native.Nat.{ℕ, zero, suc, ◌+◌, ◌-◌, ◌*◌, ◌^◌, ◌≤◌, ◌<◌}
use native.Mathlib.Nat.{mod-eq_of_lt}
use native.Mathlib.Omega.{arith}
use lib.Bits.{bit_and, bit_or, and_mask}
use lib.ListN.{length, get_or}
use lib.Pow.{ones_sub-lt}
use Rattle.bit.specs.declared.LogicBit.{LogicBit}
use Rattle.bit.specs.declared.LogicBit.TheVariants.{Zero, One}
use Rattle.bit.specs.Rules.{same}
use Rattle.words.specs.Vector.{tabulate}
use Rattle.words.specs.Planes.{Planes, from_planes, lent, complement, width_mask}
use Rattle.words.proofs.Extend.{whole-mask}
use Rattle.words.proofs.Planes.{length-tabulate, get_d_tabulate}
use Rattle.reduce_words.specs.declared.Truth.{Truth}
use Rattle.reduce_words.specs.declared.Truth.TheVariants.{False, True, Unknown}
use Rattle.reduce_words.specs.Fold.{any_of, is_unknown, contains, truth_of, not_zero, truth_by_words}
use Rattle.reduce_words.proofs.Gather.{gather, some, gather_cong, gather-add}
use Rattle.reduce_words.proofs.Places.{WordPlanes, any_some, any-tabulate, unknown-word, one_word, zero_word}

abbrev pub told : Bool → Bool → Truth
told one unknown = cond one True (cond unknown Unknown False)

-- some word passes where some of its 64 places does
some_words : (n : ℕ) (g f : ℕ → Bool) → ((k : ℕ) → g k ≡ some 64 (λ j. f (k * 64 + j))) → some n g ≡ some (n * 64) f
unfolding gather
some_words zero g f h = refl
some_words (suc n) g f h =
    let first : (j : ℕ) → 0 * 64 + j ≡ j = λ j. omega arith in
    let others : (k j : ℕ) → suc k * 64 + j ≡ 64 + (k * 64 + j) = λ k j. omega arith in
    let e : suc n * 64 ≡ 64 + n * 64 = omega arith in
    ap₂ ◌||◌ (h 0 ∙ gather_cong ◌||◌ false 64 (λ j. f (0 * 64 + j)) f (λ j _. ap f (first j)))
    (some_words n (λ k. g (suc k)) (λ i. f (64 + i))
    (λ k. h (suc k) ∙ gather_cong ◌||◌ false 64 (λ j. f (suc k * 64 + j)) (λ j. f (64 + (k * 64 + j))) (λ j _. ap f (others k j))))
    ∙ sym (ap (λ (m : ℕ). some m f) e ∙ gather-add ◌||◌ false (λ b. refl) or_assoc 64 (n * 64) f)

-- the places of each word that hold a known 0
abbrev pub known_zeros : ℕ → Planes → List ℕ
known_zeros w p = tabulate (length p.value) (λ k. bit_and (complement (bit_or (get_or p.value k 0) (get_or p.unknown k 0))) (width_mask w k))

module _ (w : ℕ) (v u : List ℕ) (k : ℕ) (l : k < length v) where
  pub zeros-cut : (m : ℕ) → m ≡ width_mask w k → get_or (known_zeros w (lent v u)) k 0 ≡ bit_and (complement (bit_or (get_or v k 0) (get_or u k 0))) m
  zeros-cut m e = get_d_tabulate _ _ k 0 l ∙ ap (bit_and (complement (bit_or (get_or v k 0) (get_or u k 0)))) (sym e)

  pub zeros-whole : k * 64 + 64 ≤ w → get_or (known_zeros w (lent v u)) k 0 ≡ complement (bit_or (get_or v k 0) (get_or u k 0))
  zeros-whole h = zeros-cut (2 ^ 64 - 1) (whole-mask w k h) ∙ and_mask (complement (bit_or (get_or v k 0) (get_or u k 0))) 64 ∙ mod-eq_of_lt (ones_sub-lt 64 _)

module _ (w : ℕ) (v u : List ℕ) (p : WordPlanes w v u) where
  abbrev bits : List LogicBit
  bits = from_planes w v u

  -- a test of all bits, by a number of each word that is not 0 where a bit of the word passes
  any-words : (t : LogicBit → Bool) (e : LogicBit) → t e ≡ false → (n : ℕ) → w ≤ n * 64 → (g : ℕ → ℕ)
      → ((k : ℕ) → not_zero (g k) ≡ some 64 (λ j. t (get_or bits (k * 64 + j) e))) → any_of not_zero (tabulate n g) ≡ any_of t bits
  any-words t e fails n l g h =
      any-tabulate not_zero n g
      ∙ some_words n (λ k. not_zero (g k)) (λ i. t (get_or bits i e)) h
      ∙ sym (any_some t e fails bits (n * 64) (rw length-tabulate l))

  unknown-by-words : any_of not_zero u ≡ any_of is_unknown bits
  unknown-by-words =
      any_some not_zero 0 refl u (length u) (omega arith)
      ∙ some_words (length u) (λ k. not_zero (get_or u k 0)) (λ i. is_unknown (get_or bits i Zero)) (unknown-word w v u p)
      ∙ sym (any_some is_unknown Zero refl bits (length u * 64) (rw length-tabulate (omega (arith, p.unknown-plane.count))))

  pub zeros-by-words : told (any_of not_zero (known_zeros w (lent v u))) (any_of not_zero u) ≡ contains Zero bits
  zeros-by-words =
      ap₂ told (any-words (same Zero) One refl (length v) (omega (arith, p.value-plane.count)) _ (zero_word w v u p)) unknown-by-words

  pub truth-by-words : truth_by_words (lent v u) ≡ truth_of bits
  truth-by-words =
      ap₂ told (any-words (same One) Zero refl (length v) (omega (arith, p.value-plane.count)) _ (one_word w v u p)) unknown-by-words
