-- Two vectors of at most 64 bits, read beside each other.
--     Narrow       a vector in one word that no check refuses, and that is no fill
--     paired       what is worked out at each place of two such operands, of equal width if both are signed, is worked out at each bit of their words
--     in_a_word    the larger width is at most 64
use mathlib.Core.Path.{◌≡◌, sym, ap, ap₂, ◌∙◌}
use mathlib.Core.Bool.{not}
use mathlib.Core.Logic.{⊎_elim}
use mathlib.Core.List.{[], ◌∷◌}
use Prim.Native.Nat.{ℕ, ◌≤◌, ◌<◌}
use native.Mathlib.Nat.{zero-add}
use native.Mathlib.Omega.{arith}
use lib.Dec.{T}
use lib.ListN.{get_or}
use Rattle.bit.specs.declared.LogicBit.{LogicBit}
use Rattle.bit.specs.declared.LogicBit.TheVariants.{Zero}
use Rattle.words.specs.declared.Word.{Word}
use Rattle.words.specs.Vector.{at, tabulate}
use Rattle.words.specs.Planes.{bit_of}
use Rattle.words.proofs.Digits.{lt-or-ge}
use Rattle.words.proofs.Planes.{get_d_tabulate, get_d-tabulate-out, length-tabulate, operand}
use Rattle.value.specs.declared.Header.{Header}
use Rattle.value.specs.Checks.{plain, vector}
use Rattle.value.proofs.Checks.{Sound}
use Rattle.extension.specs.Extension.{larger_width, operand_at}
use Rattle.extension.proofs.Extension.{Plainly, read_left, read_right}
use Rattle.narrow.specs.Narrow.{single}
use Rattle.narrow.proofs.Singles.{whole, at_most, place_of}

pub record Narrow (h : Header) (x : Word) : Type 0 where
  pub sound : Sound h (single x)
  pub no-fill : T (not h.is_fill)

-- every word pair at 64 bits
pub plain-narrow : (x : Word) → Narrow (plain 64) x
plain-narrow x = record {
  sound = record {
    planes = record { narrow = omega arith; value-plane = whole x.value; unknown-plane = whole x.unknown };
    fill = λ e z. omega arith;
  };
  no-fill = tt;
}

-- bit j of the word is place j of the vector
own-bit : (h : Header) (x : Word) → Narrow h x → (j : ℕ) → j < 64 → bit_of x j ≡ at (vector h (single x)).bits j
own-bit h x n j l =
    operand h.width (x.value ∷ []) (x.unknown ∷ []) n.sound.planes.value-plane n.sound.planes.unknown-plane 0 j l
    ∙ ap (at (vector h (single x)).bits) (zero-add j)

-- from the width on it is 0
none : (h : Header) (x : Word) → Narrow h x → (j : ℕ) → j < 64 → h.width ≤ j → bit_of x j ≡ Zero
none h x n j l m = own-bit h x n j l ∙ get_d-tabulate-out h.width (place_of x) j Zero m

module _ {A : Type 0} (f : LogicBit → LogicBit → A) (a b : Header) (x y : Word) (n : Narrow a x) (m : Narrow b y) (c : Plainly a b) where
  abbrev pub paired_at : ℕ → A
  paired_at i = f (operand_at (vector a (single x)) b i) (operand_at (vector b (single y)) a i)

  pub paired : (j : ℕ) → j < 64 → get_or (tabulate (larger_width a b) paired_at) j (f Zero Zero) ≡ f (bit_of x j) (bit_of y j)
  paired j l =
      let u = vector a (single x) in
      let v = vector b (single y) in
      let lu = length-tabulate a.width (place_of x) in
      let lv = length-tabulate b.width (place_of y) in
      ⊎_elim
      (λ k. get_d_tabulate (larger_width a b) paired_at j (f Zero Zero) k
      ∙ ap₂ f (read_left u v lu lv n.no-fill m.no-fill c j k ∙ sym (own-bit a x n j l))
      (read_right u v lu lv n.no-fill m.no-fill c j k ∙ sym (own-bit b y m j l)))
      (λ k. get_d-tabulate-out (larger_width a b) paired_at j (f Zero Zero) k
      ∙ sym (ap₂ f (none a x n j l (omega arith)) (none b y m j l (omega arith))))
      (lt-or-ge j (larger_width a b))

pub in_a_word : (a b : Header) (x y : Word) → Narrow a x → Narrow b y → larger_width a b ≤ 64
in_a_word a b x y n m = omega (arith, at_most a.width x.value n.sound.planes.value-plane, at_most b.width y.value m.sound.planes.value-plane)
