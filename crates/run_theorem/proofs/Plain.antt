-- The steps of a run, from a store that holds the machine's cells, do what the machine does.
--     steps-plain     the same ending, and the state holds the machine's cells
use mathlib.Core.Path.{◌≡◌, refl, sym, ap, ◌∙◌, subst}
use mathlib.Core.List.{List, [], ◌∷◌, ◌++◌}
use Prim.Native.Nat.{ℕ, suc}
use Rattle.refusal.specs.Outcome.{Answer, Outcome, outcome, or_refuse}
use Rattle.refusal.specs.Outcome.Answer.{given, refused}
use Rattle.ops.specs.declared.Step.{Step}
use Rattle.machine.specs.declared.Room.{Room}
use Rattle.machine.specs.Machine.{Cell, headers_of, check_step, step_cell, Run, onward, run_from}
use Rattle.store.specs.Store.{Holds, room_of}
use Rattle.store.specs.Step.{Memory, step_result, stepped, add_step}
use Rattle.store.proofs.Held.{Added}
use Rattle.store.proofs.Steps.{step-check, step-holds}
use Rattle.steps.specs.Run.{Ran, after_step, run_steps}

abbrev pub Same : Ran → Run → Type 0
Same a p = (a.ending ≡ p.ending) × Holds a.memory.state p.cells

abbrev pub room : Memory → Room
room m = room_of m.state.arenas m.scratch

pub steps-plain : (ss : List Step) (m : Memory) (cs : List Cell) (k : ℕ) (r : Room) → room m ≡ r → Holds m.state cs
    → Same (run_steps m k ss) (run_from r cs k ss)
unfolding run_steps run_from
steps-plain [] m cs k r e h = (refl, h)
steps-plain (s ∷ ss) m cs k r e h =
    go (check_step r (headers_of cs) s) refl (λ n q p. steps-plain ss n (cs ++ (step_cell cs s ∷ [])) (suc k) r q p)
  where
    more : List Cell
    more = cs ++ (step_cell cs s ∷ [])

    c : Cell
    c = step_result m.state s

    done : Outcome ℕ Memory
    done = outcome (given m.state.store.count) (stepped c m)

    machine : Answer Unit → Run
    machine x = onward x cs k (run_from r more (suc k) ss)

    ours : Outcome ℕ Memory → Ran
    ours o = after_step o.answer o.left k c.vector.bits (run_steps o.left (suc k) ss)

    same_check : check_step (room m) (headers_of cs) s ≡ check_step r (headers_of cs) s
    same_check = ap (λ z. check_step z (headers_of cs) s) e

    called : (x : Answer Unit) → check_step r (headers_of cs) s ≡ x → add_step m s ≡ or_refuse x m done
    called x f = ap (λ z. or_refuse z m done) (step-check m.state cs m.scratch s h ∙ same_check ∙ f)

    go : (x : Answer Unit) → check_step r (headers_of cs) s ≡ x
        → ((n : Memory) → room n ≡ r → Holds n.state more → Same (run_steps n (suc k) ss) (run_from r more (suc k) ss))
        → Same (ours (add_step m s)) (machine x)
    go (given u) f ih =
        let a =
        subst (λ o. Added o.answer m o.left cs (step_cell cs s)) (called (given u) f) (step-holds m.state cs m.scratch s h (same_check ∙ f))
        in
        subst (λ o. Same (ours o) (machine (given u))) (sym (called (given u) f)) (ih (stepped c m) (a.room ∙ e) a.holds)
    go (refused n) f ih = subst (λ o. Same (ours o) (machine (refused n))) (sym (called (refused n) f)) (refl, h)
