-- What is put together from the places 0, .., n - 1 by an operation that has a neutral element.
--     gather, some   by any operation; by or: some place passes a test
--     gather_cong    by what stands at each place
--     gather-add     the places below m, then the n from there on
--     gather-word    the places below word k, then the 64 of word k
--     of-list        a list, place by place; a member that adds nothing stands beyond its end
--     of-digits      a number, digit by digit
use mathlib.Core.Path.{◌≡◌, refl, sym, ap, ap₂, ◌∙◌}
use mathlib.Core.Bool.{Bool, false, ◌||◌}
use mathlib.Core.List.{List, [], ◌∷◌}
use Prim.Native.Nat.{ℕ, zero, suc, ◌+◌, ◌*◌, ◌/◌, ◌%◌, ◌^◌, ◌≤◌, ◌<◌, suc-le-suc}
use native.Mathlib.Nat.{not-suc-le-zero, le_of_suc-le-suc, zero-lt-suc, zero-add, suc-add}
use native.Mathlib.Numerals.{add-one}
use native.Mathlib.Omega.{arith}
use lib.Arith.{lt-one}
use lib.Pow.{shr_lt}
use lib.ListN.{length, get_or}
use Rattle.words.specs.Vector.{bit_at}
use Rattle.words.proofs.Digits.{bit-zero, bit-suc}

module _ {A : Type 0} (op : A → A → A) (e : A) where
  -- f 0, .., f (n - 1) put together; e where n is 0
  unfoldable pub gather : ℕ → (ℕ → A) → A
  gather zero f = e
  gather (suc n) f = op (f 0) (gather n (λ i. f (suc i)))

-- some place below n passes the test
abbrev pub some : ℕ → (ℕ → Bool) → Bool
some = gather ◌||◌ false

module _ {A : Type 0} (op : A → A → A) (e : A) where
  pub gather_cong : (n : ℕ) (f g : ℕ → A) → ((j : ℕ) → j < n → f j ≡ g j) → gather op e n f ≡ gather op e n g
  unfolding gather
  gather_cong zero f g h = refl
  gather_cong (suc n) f g h = ap₂ op (h 0 (zero-lt-suc n)) (gather_cong n (λ i. f (suc i)) (λ i. g (suc i)) (λ j l. h (suc j) (suc-le-suc l)))

  module _ (left : (a : A) → op e a ≡ a) where
    module _ (assoc : (a b c : A) → op (op a b) c ≡ op a (op b c)) where
      pub gather-add : (m n : ℕ) (f : ℕ → A) → gather op e (m + n) f ≡ op (gather op e m f) (gather op e n (λ i. f (m + i)))
      unfolding gather
      gather-add zero n f = simp zero-add (sym (left (gather op e n f)))
      gather-add (suc m) n f = simp suc-add (ap (op (f 0)) (gather-add m n (λ i. f (suc i))) ∙ sym (assoc (f 0) _ _))

      pub gather-word : (k : ℕ) (f : ℕ → A) → gather op e ((k + 1) * 64) f ≡ op (gather op e (k * 64) f) (gather op e 64 (λ j. f (k * 64 + j)))
      gather-word k f = let q : (k + 1) * 64 ≡ k * 64 + 64 = omega arith in ap (λ (n : ℕ). gather op e n f) q ∙ gather-add (k * 64) 64 f

    gather_none : (a : A) → a ≡ e → (n : ℕ) → gather op e n (λ i. a) ≡ e
    unfolding gather
    gather_none a h zero = refl
    gather_none a h (suc n) = ap₂ op h (gather_none a h n) ∙ left e

    module _ {B : Type 0} (L : List B → A) (h : B → A) (nil : L [] ≡ e) (cons : (b : B) (bs : List B) → L (b ∷ bs) ≡ op (h b) (L bs)) where
      pub of-list : (d : B) → h d ≡ e → (bs : List B) (n : ℕ) → length bs ≤ n → L bs ≡ gather op e n (λ i. h (get_or bs i d))
      unfolding gather
      of-list d none [] n l = nil ∙ sym (gather_none (h d) none n)
      of-list d none (b ∷ bs) zero l = absurd (not-suc-le-zero l)
      of-list d none (b ∷ bs) (suc n) l = cons b bs ∙ ap (op (h b)) (of-list d none bs n (le_of_suc-le-suc l))

  module _ (F : ℕ → A) (g : ℕ → A) (none : F 0 ≡ e) (step : (x : ℕ) → F x ≡ op (g (x % 2)) (F (x / 2))) where
    pub of-digits : (n x : ℕ) → x < 2 ^ n → F x ≡ gather op e n (λ j. g (bit_at x j))
    unfolding gather
    of-digits zero x l = ap F (lt-one l) ∙ none
    of-digits (suc n) x l =
        step x
        ∙ ap₂ op (ap g (sym (bit-zero x)))
        (of-digits n (x / 2) (shr_lt n 1 (rw add-one l)) ∙ gather_cong n (λ j. g (bit_at (x / 2) j)) (λ j. g (bit_at x (suc j))) (λ j _. ap g (sym (bit-suc x j))))
