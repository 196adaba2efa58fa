-- The law that every export which writes planes or a text ends with.
use mathlib.Core.Path.{◌≡◌, ap}
use Rattle.refusal.specs.Outcome.{Answer, Outcome, outcome}
use Rattle.abi.specs.Coded.{coded, coded_outcome}

-- coding the answer of a call codes its outcome
pub coding : {A C S : Type 0} (f : Answer A → C) {r : C} {a : Answer A} {s : S} {o : Outcome A S} → r ≡ f a → outcome a s ≡ o → coded r s ≡ coded_outcome f o
coding f e g = rw e (ap (coded_outcome f) g)
