-- What is left of a list, once its first steps are done: the invariant of the loop.
--     walk_start, walk_more, walk-last, walk-done     no step done, one that adds a cell, one that is refused, and no step left
use mathlib.Core.Path.{◌≡◌, refl, sym, ap, ap₂, ◌∙◌}
use mathlib.Core.List.{List, ◌∷◌}
use Prim.Native.Nat.{ℕ, suc, ◌+◌, ◌*◌, ◌≤◌, ◌<◌}
use native.Mathlib.Numerals.{add-one}
use native.Mathlib.Omega.{arith}
use lib.ListN.{length, drop}
use Rattle.refusal.specs.Outcome.{Answer, Outcome, outcome}
use Rattle.refusal.specs.Outcome.Answer.{given, refused}
use Rattle.words.specs.Vector.{tabulate}
use Rattle.lines.specs.Buffer.{Buffer, buffer, put}
use Rattle.run_lines.specs.Output.{cell_text, done_text, refused_text}
use Rattle.ops.specs.declared.Step.{Step}
use Rattle.machine.specs.Machine.{AtEnd, RefusedAt}
use Rattle.store.specs.Step.{Memory, step_result, add_step}
use Rattle.steps.specs.Run.{run_steps, final, final_of}
use Rattle.steps.proofs.Turns.{steps-done, step-turn, step-last}
use Rattle.load.proofs.Loops.{next_one, none_left}

-- the memory m and the place `at` of the buffer, with the steps from k on, leave what the memory `from` leaves with all n of them
pub record Walked (from : Memory) (out : List ℕ) (n : ℕ) (f : ℕ → Step) (m : Memory) (d : List ℕ) (at k : ℕ) : Type 0 where
  pub short : at ≤ k * 4111
  pub long : length d ≡ length out
  pub left : final_of (run_steps from 0 (tabulate n f)) (buffer out 0) ≡ final_of (run_steps m k (drop k (tabulate n f))) (buffer d at)

module _ (n : ℕ) (f : ℕ → Step) (from : Memory) (out : List ℕ) where
  pub walk_start : Walked from out n f from out 0 0
  walk_start = record { short = omega arith; long = refl; left = refl }

  module _ (m : Memory) (d : List ℕ) (at k : ℕ) (h : Walked from out n f m d at k) where
    pub walk-done : n ≤ k → final_of (run_steps from 0 (tabulate n f)) (buffer out 0) ≡ final m (put (buffer d at) (done_text k)) (AtEnd k)
    walk-done l = h.left ∙ ap (λ ss. final_of (run_steps m k ss) (buffer d at)) (none_left n f k l) ∙ steps-done m k d at

    module _ (l : k < n) where
      abbrev rest : List Step
      rest = drop (k + 1) (tabulate n f)

      onto-step : final_of (run_steps from 0 (tabulate n f)) (buffer out 0) ≡ final_of (run_steps m k (f k ∷ rest)) (buffer d at)
      onto-step = h.left ∙ ap (λ ss. final_of (run_steps m k ss) (buffer d at)) (next_one n f k l)

      module _ (a : Answer ℕ) (t : Memory) (e : List ℕ) (j : ℕ) (called : outcome a t ≡ add_step m (f k)) where
        pub walk_more : (c : ℕ) → a ≡ given c → buffer e j ≡ put (buffer d at) (cell_text c (step_result m.state (f k)).vector.bits)
            → at ≤ length d → j ≤ at + 4111 → length e ≡ length d → Walked from out n f t e j (k + 1)
        walk_more c g shown inside short same =
            let left : (add_step m (f k)).left ≡ t = sym (ap (λ (o : Outcome ℕ Memory). o.left) called) in
            let answer : (add_step m (f k)).answer ≡ given c = sym (ap (λ (o : Outcome ℕ Memory). o.answer) called) ∙ g in
            record {
              short = omega (arith, short, h.short);
              long = same ∙ h.long;
              left =
                  onto-step
                  ∙ step-turn m k d at (f k) rest c answer inside
                  ∙ ap₂ (λ (z : Memory) (b : Buffer). final_of (run_steps z (suc k) rest) b) left (sym shown)
                  ∙ ap (λ (i : ℕ). final_of (run_steps t i rest) (buffer e j)) (sym (add-one k));
            }

        pub walk-last : (r : ℕ) → a ≡ refused r → buffer e j ≡ put (buffer d at) (refused_text r (k + 1))
            → final_of (run_steps from 0 (tabulate n f)) (buffer out 0) ≡ final t (buffer e j) (RefusedAt r (k + 1))
        walk-last r g shown =
            let left : (add_step m (f k)).left ≡ t = sym (ap (λ (o : Outcome ℕ Memory). o.left) called) in
            let answer : (add_step m (f k)).answer ≡ refused r = sym (ap (λ (o : Outcome ℕ Memory). o.answer) called) ∙ g in
            onto-step
            ∙ step-last m k d at (f k) rest r answer
            ∙ ap (λ i. final (add_step m (f k)).left (put (buffer d at) (refused_text r i)) (RefusedAt r i)) (sym (add-one k))
            ∙ ap₂ (λ z b. final z b (RefusedAt r (k + 1))) left (sym shown)
