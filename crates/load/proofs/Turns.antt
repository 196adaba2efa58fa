-- What the rest of the inputs leaves, once one is done.
use mathlib.Core.Path.{◌≡◌, refl, ap}
use mathlib.Core.List.{List, [], ◌∷◌}
use Prim.Native.Nat.{ℕ}
use Rattle.refusal.specs.Outcome.{outcome, refuse}
use Rattle.refusal.specs.Outcome.Answer.{given, refused}
use Rattle.value.specs.Checks.{Vector}
use Rattle.store.specs.Store.{State}
use Rattle.load.specs.Inputs.{after_input, add_listed, add_inputs}

module _ (s : State) where
  pub inputs-done : add_inputs s [] ≡ outcome (given tt) s
  unfolding add_inputs
  inputs-done = refl

  module _ (v : Vector) (vs : List Vector) where
    pub input-turn : (n : ℕ) → (add_listed s v).answer ≡ given n → add_inputs s (v ∷ vs) ≡ add_inputs (add_listed s v).left vs
    unfolding add_inputs
    input-turn n e = ap (λ a. after_input a (add_listed s v).left (add_inputs (add_listed s v).left vs)) e

    pub input_last : (n : ℕ) → (add_listed s v).answer ≡ refused n → add_inputs s (v ∷ vs) ≡ refuse n (add_listed s v).left
    unfolding add_inputs
    input_last n e = ap (λ a. after_input a (add_listed s v).left (add_inputs (add_listed s v).left vs)) e
