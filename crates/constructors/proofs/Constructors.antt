-- The bits that the constructors write, as one number continued by a bit.
use mathlib.Core.Path.{◌≡◌, refl, sym, ap, ap₂, ◌∙◌}
use mathlib.Core.Logic.{⊎_elim}
use mathlib.Core.List.{List, [], ◌∷◌}
use Prim.Native.Nat.{ℕ, ◌^◌, ◌<◌}
use native.Mathlib.Nat.{div-eq_of_lt, mod-eq_of_lt}
use lib.ListN.{get_or}
use Rattle.bit.specs.declared.LogicBit.{LogicBit}
use Rattle.bit.specs.declared.LogicBit.TheVariants.{Zero}
use Rattle.words.specs.Vector.{bit_at, tabulate}
use Rattle.words.specs.Planes.{Planes, from_planes, stored, plane_bit}
use Rattle.constructors.specs.Constructors.{constructed, from_u64}
use Rattle.words.proofs.Digits.{bit-above, bit-of-zero, lt-or-ge}
use Rattle.words.proofs.Planes.{get_d_tabulate, get_d-tabulate-out}

-- every bit is the same
pub constant : (p q : List ℕ) (b : LogicBit) → ◌≡◌ {A = ℕ → LogicBit} (λ i. get_or (from_planes 0 p q) i b) (λ i. b)
unfolding tabulate
constant p q b = refl

digit-one : (x i : ℕ) → i < 64 → plane_bit (x ∷ []) i ≡ bit_at x i
digit-one x i l = ap₂ (λ (k j : ℕ). bit_at (get_or (x ∷ []) k 0) j) (div-eq_of_lt l) (mod-eq_of_lt l)

number_bit : (x : ℕ) → x < 2 ^ 64 → (i : ℕ) → get_or (from_planes 64 (x ∷ []) (0 ∷ [])) i Zero ≡ stored (bit_at x i) 0
number_bit x h i =
    ⊎_elim
    (λ l. get_d_tabulate 64 (λ i. stored (plane_bit (x ∷ []) i) (plane_bit (0 ∷ []) i)) i Zero l
    ∙ ap₂ stored (digit-one x i l) (digit-one 0 i l ∙ bit-of-zero i))
    (λ l. get_d-tabulate-out 64 (λ i. stored (plane_bit (x ∷ []) i) (plane_bit (0 ∷ []) i)) i Zero l ∙ sym (ap (λ (d : ℕ). stored d 0) (bit-above x 64 i h l)))
    (lt-or-ge i 64)

-- the digits of a number of 64 digits
pub number : (x : ℕ) → x < 2 ^ 64 → ◌≡◌ {A = ℕ → LogicBit} (λ i. get_or (from_planes 64 (x ∷ []) (0 ∷ [])) i Zero) (λ i. stored (bit_at x i) 0)
number x h = λ k i. number_bit x h i k

-- and so the constructor of a number gives them
pub number_given : (x w : ℕ) (p : Planes) → x < 2 ^ 64
    → constructed w (λ i. get_or (from_planes 64 (x ∷ []) (0 ∷ [])) i Zero) p ≡ from_u64 x w p
number_given x w p h = ap (λ (f : ℕ → LogicBit). constructed w f p) (number x h)
