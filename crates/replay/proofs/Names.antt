-- A text looked up among names: one law for each way through the loop.
use Rattle.std.proofs.Common.{◌≡◌, ℕ, suc, ◌+◌, ◌-◌, ◌<◌, Bool, true, false, ◌&&◌, Some, None, eqb, List, [], ◌∷◌, refl, ap, add-one, arith}
use lib.Pointwise.{pointwise}
use Rattle.replay.specs.Text.{part_of}
use Rattle.replay.specs.Calls.{same_text, name_from}

same-as : (s t : List ℕ) → same_text s t ≡ pointwise eqb s t
unfolding same_text
same-as [] [] = refl
same-as [] (b ∷ t) = refl
same-as (a ∷ s) [] = refl
same-as (a ∷ s) (b ∷ t) = ap (λ (z : Bool). eqb a b && z) (same-as s t)

module _ (k n : ℕ) (names t : List ℕ) where
  pub name_here : k < n → pointwise eqb (part_of 32 k names) t ≡ true → name_from k (n - k) names t ≡ Some k
  unfolding name_from
  name_here h q = let e : n - k ≡ suc (n - (k + 1)) = omega arith in rw (e, same-as (part_of 32 k names) t, q)

  pub name_behind : k < n → pointwise eqb (part_of 32 k names) t ≡ false → name_from k (n - k) names t ≡ name_from (k + 1) (n - (k + 1)) names t
  unfolding name_from
  name_behind h q = let e : n - k ≡ suc (n - (k + 1)) = omega arith in rw (e, same-as (part_of 32 k names) t, q, add-one k)

  pub no_name : n - k ≡ 0 → name_from k (n - k) names t ≡ None
  unfolding name_from
  no_name e = rw e
