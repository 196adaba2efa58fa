-- The result of a step on cells that are no wider than an input may be is no wider.
use mathlib.Core.List.{List, [], ◌∷◌, map}
use Prim.Native.Nat.{ℕ, zero, suc}
use native.Mathlib.Omega.{arith}
use lib.ListN.{take, get_or}
use Rattle.words.specs.Planes.{Planes}
use Rattle.value.specs.declared.Header.{Header}
use Rattle.ops.specs.declared.Family.{Family}
use Rattle.ops.specs.declared.Family.TheVariants as family
use Rattle.ops.specs.declared.Step.{Step}
use Rattle.ops.specs.Ops.{family_of, family_header}
use Rattle.machine.specs.Machine.{holding, vector_at}
use Rattle.cells.specs.declared.Cell.{Cell}
use Rattle.cells.specs.Cells.{cell_vector}
use Rattle.cells.specs.Places.{no_cell}
use Rattle.store.specs.Store.{State, cells_of}
use Rattle.store.specs.Step.{step_result}
use Rattle.load.specs.Limits.{Thin, AllThin}

cells-thin : (a : Planes) (cs : List Cell) (n : ℕ) → ((j : ℕ) → Thin (get_or cs j no_cell).header) → (j : ℕ) → Thin (vector_at (map (λ (c : Cell). holding (cell_vector a c)) (take n cs)) j).header
cells-thin a [] zero t j = omega arith
cells-thin a [] (suc n) t j = omega arith
cells-thin a (c ∷ cs) zero t j = omega arith
cells-thin a (c ∷ cs) (suc n) t zero = t 0
cells-thin a (c ∷ cs) (suc n) t (suc j) = cells-thin a cs n (λ k. t (suc k)) j

family-thin : (k : Family) (a b c : Header) → Thin a → Thin b → Thin c → Thin (family_header k a b c)
family-thin (family.Join j) a b c p q r = omega arith
family-thin family.Not a b c p q r = p
family-thin (family.Answer q) a b c p q' r = omega arith
family-thin family.Select a b c p q r = q
family-thin family.Insert a b c p q r = p

pub step-thin : (s : State) (step : Step) → AllThin s.store → Thin (step_result s step).vector.header
step-thin s step n =
    let t : (j : ℕ) → Thin (vector_at (cells_of s) j).header = cells-thin s.arenas s.store.cells s.store.count n in
    family-thin (family_of step.op) (vector_at (cells_of s) step.a).header (vector_at (cells_of s) step.b).header (vector_at (cells_of s) step.c).header
    (t step.a) (t step.b) (t step.c)
