-- `literal_words::unchecked::take_digits`: each plane holds a number that goes on with the rest of the text to what all of it gives.
use mathlib.Core.Path.{◌≡◌}
use mathlib.Core.Bool.{true}
use mathlib.Core.List.{List}
use Prim.Native.Nat.{ℕ, ◌-◌}
use lib.ListN.{length, drop}
use Rattle.literal_words.specs.Digits.{digits, number_by}
use Rattle.literal_words.specs.Passes.{words_of, value_number, unknown_number, readable}
use Rattle.literal_words.proofs.unchecked.take_digits.Given as goal

-- a plane p has become q, and of the text t is left u
pub record Going (r : ℕ) (f : ℕ → ℕ) (t u p q : List ℕ) : Type 0 where
  pub long : length q ≡ length p
  pub reached : (n : ℕ) → p ≡ words_of (length p) n → (m : ℕ) × (q ≡ words_of (length p) m) × (number_by r f n (digits t) ≡ number_by r f m (digits u))

pub record Inv (r : ℕ) (s : List ℕ) (from : ℕ) (v u v' u' : List ℕ) (i : ℕ) : Type 0 where
  pub rest : readable r (drop i s) ≡ true
  pub to_value : Going r (value_number r) (drop from s) (drop i s) v v'
  pub to_unknown : Going r (unknown_number r) (drop from s) (drop i s) u u'

abbrev pub invariant-loop-i : goal.invariant-loop-i
invariant-loop-i l = Inv l.r l.s l.from l.initial.value l.initial.unknown l.value l.unknown l.i

abbrev pub decreases-loop-i : goal.decreases-loop-i
decreases-loop-i l = length l.s - l.i
