-- What is proved of the run of a whole list beyond demand 3 (`Demand3`): any list, and inputs with fills among them. Known bits are kept in lists
-- without case and wildcard comparisons, and every step of another op is known exactly; of an equality this is said where neither operand is a
-- fill and both are of equal width or one is unsigned.
use Rattle.std.specs.Prelude.{◌≡◌, List, [], ◌∷◌, ℕ, length}
use Rattle.refusal.specs.Outcome.Answer.{given}
use Rattle.value.specs.Checks.{Vector}
use Rattle.ops.specs.declared.Step.{Step}
use Rattle.machine.specs.Machine.{Ending, AtEnd, RefusedAt, input_cells, machine_run}
use Rattle.execute.specs.Executed.{LentMemory}
use Rattle.store.specs.Store.{Holds}
use Rattle.steplist.specs.Listing.{whole}
use Rattle.knownness.specs.Knownness.{AllKeep, Keeps, Cellwise, AllSound, Exactable, ExactCells}
use Rattle.steps.specs.Run.{Ran}
use Rattle.run_theorem.specs.Demand.{room, step_list, run_on, run_of, cells_left, Paired}

-- arenas of one length, as 14 asks of every store
abbrev pub Level : LentMemory → Type 0
Level m = length m.arenas.unknown ≡ length m.arenas.value

-- the ending in arenas of two lengths: the first step is refused by 14
abbrev pub uneven_ending : List Step → Ending
uneven_ending [] = AtEnd 0
uneven_ending (s ∷ ss) = RefusedAt 14 1

-- the run p on m, accepted inputs A and the steps ss is the plain machine's
pub record PlainRun (m : LentMemory) (A : List Vector) (ss : List Step) (p : Ran) : Type 0 where
  -- it leaves exactly that machine's cells
  pub cells : cells_left p ≡ (machine_run (room m) (input_cells A) ss).cells
  -- in arenas of one length it ends as the machine does, and the store it leaves agrees with its arenas
  pub ending : Level m → p.ending ≡ (machine_run (room m) (input_cells A) ss).ending
  pub holds : Level m → Holds p.memory.state (machine_run (room m) (input_cells A) ss).cells
  -- in arenas of two lengths no input is accepted, so there is none; the machine, which has no arenas, would refuse the first step by 11
  pub uneven : ¬ (Level m) → (A ≡ []) × (p.ending ≡ uneven_ending ss)

-- of the run p on m and the inputs A, and the run q on n and the inputs B
pub record Refined (m n : LentMemory) (A B : List Vector) (ss : List Step) (p q : Ran) : Type 0 where
  pub ending : q.ending ≡ p.ending
  pub plain : PlainRun m A ss p
  pub plain-refined : PlainRun n B ss q
  pub kept : AllKeep ss → Cellwise Keeps (cells_left p) (cells_left q)
  pub exact : ExactCells Exactable (length A) ss (cells_left p)
  pub exact-refined : ExactCells Exactable (length B) ss (cells_left q)

abbrev pub Refinement : Type 0
Refinement = (m n : LentMemory) (A B : List Vector) (ss : List Step) → AllSound (input_cells A) → Paired m n A B
    → Refined m n A B ss (run_on m A ss) (run_on n B ss)

-- of two texts that say such lists, and what `run` computes of them
abbrev pub TextRefinement : Type 0
TextRefinement = (m n : LentMemory) (A B : List Vector) (ss : List Step) (t u : List ℕ)
    → whole t ≡ given (step_list A ss) → whole u ≡ given (step_list B ss)
    → Paired m n A B → Refined m n A B ss (run_of m t) (run_of n u)
