-- The parts of a literal behind its apostrophe, one law for each way through the code.
--     sign-ends, sign_read      the sign: the end of the text, and an s or none
--     base-ends, base-other, value-other, base_read     the base and the value behind it
use mathlib.Core.Path.{◌≡◌, sym, ap, ◌∙◌}
use mathlib.Core.Bool.{Bool, true, false, cond}
use mathlib.Core.List.{List, ◌∷◌}
use Prim.Native.Nat.{ℕ, suc, ◌+◌, ◌≤◌, ◌<◌}
use native.Mathlib.Nat.{add-zero}
use native.Mathlib.Numerals.{add-one}
use mir.Val.{bool_byte}
use lib.ListN.{length, drop, get_or, drop_of_length-le}
use lib.Seq.{drop-cons}
use Rattle.refusal.specs.Outcome.Answer.{given, refused}
use Rattle.literal_words.specs.Digits.{value_bits, is_value}
use Rattle.literal_read.specs.Literal.{is_s, is_base, sized, based, signed_based}

module _ (w : ℕ) (s : List ℕ) (i : ℕ) where
  pub sign-ends : length s ≤ i → signed_based w (drop i s) ≡ refused 15
  unfolding signed_based
  sign-ends h = rw (drop_of_length-le s h)

  pub sign_read : i < length s → (b : Bool) → is_s (get_or s i 0) ≡ b → signed_based w (drop i s) ≡ based w b (drop (i + bool_byte b) s)
  unfolding signed_based
  sign_read h true e = rw (add-one, drop-cons s i 0 h, e)
  sign_read h false e =
      ap (signed_based w) (drop-cons s i 0 h) ∙ plain (is_s (get_or s i 0)) e
      ∙ ap (based w false) (sym (drop-cons s i 0 h)) ∙ ap (λ (k : ℕ). based w false (drop k s)) (sym (add-zero i))
    where
      plain : (b : Bool) → b ≡ false
          → cond b (based w true (drop (suc i) s)) (based w false (get_or s i 0 ∷ drop (suc i) s)) ≡ based w false (get_or s i 0 ∷ drop (suc i) s)
      plain b e = rw e

module _ (w : ℕ) (b : Bool) (s : List ℕ) (i : ℕ) where
  pub base-ends : length s ≤ i → based w b (drop i s) ≡ refused 15
  unfolding based
  base-ends h = rw (drop_of_length-le s h)

  module _ (h : i < length s) where
    pub base-other : is_base (get_or s i 0) ≡ false → based w b (drop i s) ≡ refused 15
    unfolding based
    base-other e = rw (drop-cons s i 0 h, e)

    module _ (e : is_base (get_or s i 0) ≡ true) where
      pub value-other : is_value (get_or s i 0) (drop (i + 1) s) ≡ false → based w b (drop i s) ≡ refused 15
      unfolding based
      value-other f = rw (drop-cons s i 0 h, e, ← add-one i, f)

      pub base_read : is_value (get_or s i 0) (drop (i + 1) s) ≡ true
          → based w b (drop i s) ≡ given (record { header = sized w b; bits = value_bits (get_or s i 0) w (drop (i + 1) s) })
      unfolding based
      base_read f = rw (drop-cons s i 0 h, e, ← add-one i, f)
