-- A plane that is filled word by word from characters.
--     more                       one more word
--     both_words, plane-word     a word of both planes, and of one of them, from the characters in front of those of the words below it
use Rattle.std.proofs.Common.{◌≡◌, ℕ, zero, suc, ◌+◌, ◌-◌, ◌*◌, ◌<◌, min, Bool, true, false, cond, List, [], ◌∷◌, ◌++◌, length, drop, set, refl, ap, ◌∙◌, le_of_suc-le-suc, add-one, arith}
use Rattle.bit.specs.declared.LogicBit.{LogicBit}
use Rattle.words.specs.Vector.{tabulate, at, pack}
use Rattle.words.specs.Planes.{value_digit, unknown_digit, word_of, word_at, packed}
use Rattle.text.specs.Answers.{bits_in}
use Rattle.text.proofs.Characters.{word-at}
use Rattle.replay.specs.Fields.{bits_of}

set-suc : (F : ℕ → ℕ) (k : ℕ) (p : List ℕ) → k < length p → set (tabulate k F ++ drop k p) k (F k) ≡ tabulate (suc k) F ++ drop (suc k) p
unfolding tabulate
set-suc F k [] h = absurd (omega arith)
set-suc F zero (y ∷ ys) h = refl
set-suc F (suc k) (y ∷ ys) h = ap (λ (l : List ℕ). F 0 ∷ l) (set-suc (λ i. F (suc i)) k ys (le_of_suc-le-suc h))

-- word k is written to a plane whose words below k are F 0, .., F (k - 1)
pub more : (F : ℕ → ℕ) (k : ℕ) (p q : List ℕ) (x : ℕ) → k < length p → q ≡ tabulate k F ++ drop k p → x ≡ F k
    → set q k x ≡ tabulate (k + 1) F ++ drop (k + 1) p
more F k p q x h e f = rw (add-one k, e, f) (set-suc F k p h)

module _ (t : List ℕ) (k n left : ℕ) (e : n ≡ min 64 (length t - k * 64)) (f : left + n ≡ length t - k * 64) where
  abbrev digits : (LogicBit → ℕ) → ℕ
  digits d = pack 64 (λ j. d (at (bits_in t left n) j))

  digits-at : (d : LogicBit → ℕ) → digits d ≡ word_of d (at (bits_of t)) k
  digits-at d =
      let z : left ≡ 0 + left = omega arith in
      ap (λ (from : ℕ). pack 64 (λ j. d (at (bits_in t from n) j))) z ∙ word-at d t 0 (length t) k n left (omega arith) e f

  pub both_words : packed (at (bits_in t left n)) ≡ word_at (at (bits_of t)) k
  both_words = λ i. record { value = digits-at value_digit i; unknown = digits-at unknown_digit i }

  pub plane-word : (u : Bool) → cond u (digits unknown_digit) (digits value_digit)
      ≡ word_of (λ b. cond u (unknown_digit b) (value_digit b)) (at (bits_of t)) k
  plane-word true = digits-at unknown_digit
  plane-word false = digits-at value_digit
