-- The turns of a run: what the rest of a list leaves, once one step is done.
--     step-turn, step-last        a step that adds a cell, and one that is refused
--     steps-done      no step is left
use mathlib.Core.Path.{◌≡◌, refl, sym, ap, ◌∙◌}
use mathlib.Core.List.{List, [], ◌∷◌}
use Prim.Native.Nat.{ℕ, suc, ◌≤◌}
use lib.ListN.{length}
use Rattle.refusal.specs.Outcome.Answer.{given, refused}
use Rattle.lines.specs.Buffer.{buffer, put}
use Rattle.lines.proofs.Put.{put-put}
use Rattle.run_lines.specs.Output.{cell_text, done_text, refused_text}
use Rattle.ops.specs.declared.Step.{Step}
use Rattle.machine.specs.Machine.{AtEnd, RefusedAt}
use Rattle.store.specs.Step.{Memory, add_step, step_result}
use Rattle.steps.specs.Run.{after_step, run_steps, final, final_of}

module _ (m : Memory) (k : ℕ) (d : List ℕ) (i : ℕ) where
  pub steps-done : final_of (run_steps m k []) (buffer d i) ≡ final m (put (buffer d i) (done_text k)) (AtEnd k)
  unfolding run_steps
  steps-done = refl

  module _ (s : Step) (ss : List Step) where
    pub step-turn : (n : ℕ) → (add_step m s).answer ≡ given n → i ≤ length d
        → final_of (run_steps m k (s ∷ ss)) (buffer d i)
        ≡ final_of (run_steps (add_step m s).left (suc k) ss) (put (buffer d i) (cell_text n (step_result m.state s).vector.bits))
    unfolding run_steps
    step-turn n e h =
        let rest = run_steps (add_step m s).left (suc k) ss in
        let bits = (step_result m.state s).vector.bits in
        ap (λ a. final_of (after_step a (add_step m s).left k bits rest) (buffer d i)) e
        ∙ ap (λ b. final rest.memory b rest.ending) (sym (put-put d i (cell_text n bits) rest.text h))

    pub step-last : (n : ℕ) → (add_step m s).answer ≡ refused n
        → final_of (run_steps m k (s ∷ ss)) (buffer d i) ≡ final (add_step m s).left (put (buffer d i) (refused_text n (suc k))) (RefusedAt n (suc k))
    unfolding run_steps
    step-last n e =
        ap (λ a. final_of (after_step a (add_step m s).left k (step_result m.state s).vector.bits (run_steps (add_step m s).left (suc k) ss)) (buffer d i)) e
