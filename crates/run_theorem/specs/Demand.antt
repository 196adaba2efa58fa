-- Demand 3 in its own words, one claim about the run of a whole step list: making unknown input bits known changes no ending and no known bit; each
-- run's cells are those of the plain machine, whatever memory held; and each result bit is known as v exactly when all separate completions of
-- that step's operands give v. Assumed is what document 01 assumes ("The runs of demand 3"), that no input is a fill, and of an equality, for the
-- last, that its operands are of equal width. `Refinement` is stronger, and this is proved from it.
use Rattle.std.specs.Prelude.{◌≡◌, ◌≢◌, List, ℕ, length}
use Rattle.refusal.specs.Outcome.Answer.{given}
use Rattle.words.specs.Planes.{Planes}
use Rattle.value.specs.Checks.{Vector}
use Rattle.ops.specs.declared.Op.{Op}
use Rattle.ops.specs.declared.Op.TheVariants.{CaseEqual, CasezEqual, CasexEqual, WildcardEqual}
use Rattle.ops.specs.declared.Step.{Step}
use Rattle.machine.specs.declared.Room.{Room}
use Rattle.machine.specs.Machine.{Cell, input_cells, machine_run}
use Rattle.execute.specs.Executed.{LentMemory}
use Rattle.store.specs.Store.{state, empty_store, room_of, cells_of}
use Rattle.steplist.specs.Listing.{StepList, whole}
use Rattle.knownness.specs.Knownness.{step_at, Keeps, Refines, Cellwise, AllSound, NoFill, EqualWidths, ExactCells}
use Rattle.load.specs.Inputs.{add_inputs}
use Rattle.steps.specs.Run.{Ran, run_list, run_text, emptied}

-- ---- two runs

abbrev pub room : LentMemory → Room
room m = room_of m.arenas m.scratch

abbrev pub step_list : List Vector → List Step → StepList
step_list inputs ss = record { inputs = inputs; steps = ss }

-- the run of a list from an empty store
abbrev pub run_on : LentMemory → List Vector → List Step → Ran
run_on m A ss = run_list (emptied m.arenas m.scratch) (step_list A ss)

-- the run of a text, which is what `run` computes
abbrev pub run_of : LentMemory → List ℕ → Ran
run_of m t = run_text m.arenas m.scratch t

-- the headers of the filled cells, and in the arenas their bits
abbrev pub cells_left : Ran → List Cell
cells_left p = cells_of p.memory.state

-- two lent planes of the same lengths as two others
abbrev pub SameLengths : Planes → Planes → Type 0
SameLengths p q = (length q.value ≡ length p.value) × (length q.unknown ≡ length p.unknown)

-- the inputs B are A with some unknown bits made 0 or 1, every input of A is accepted (that those of B are is not assumed), and both runs are lent
-- arenas and scratch of the same lengths
pub record Paired (m n : LentMemory) (A B : List Vector) : Type 0 where
  pub refines : Cellwise Refines (input_cells A) (input_cells B)
  pub accepted : (add_inputs (state empty_store m.arenas) A).answer ≡ given tt
  pub arenas : SameLengths m.arenas n.arenas
  pub scratch : SameLengths m.scratch n.scratch

-- ---- the claim

-- "any ops but ceq, cz, cx and weq"
abbrev pub Demanded : Op → Type 0
Demanded op = (op ≢ CaseEqual) × (op ≢ CasezEqual) × (op ≢ CasexEqual) × (op ≢ WildcardEqual)

-- of the run p on m and the inputs A, and the run q on n and the inputs B
pub record Demand (m n : LentMemory) (A B : List Vector) (ss : List Step) (p q : Ran) : Type 0 where
  -- the same ending: the list's end, or the same refusal at the same step
  pub ending : q.ending ≡ p.ending
  -- every bit known in any cell under A is the same under B
  pub kept : Cellwise Keeps (cells_left p) (cells_left q)
  -- each run's cells are the plain machine's
  pub plain : cells_left p ≡ (machine_run (room m) (input_cells A) ss).cells
  pub plain-refined : cells_left q ≡ (machine_run (room n) (input_cells B) ss).cells
  -- each bit of each step's result is known as v exactly when all completions of the step's operands give v
  pub exact : ExactCells EqualWidths (length A) ss (cells_left p)
  pub exact-refined : ExactCells EqualWidths (length B) ss (cells_left q)

-- of two texts that say such lists, and what `run` computes of them
abbrev pub TextDemand3 : Type 0
TextDemand3 = (m n : LentMemory) (A B : List Vector) (ss : List Step) (t u : List ℕ)
    → whole t ≡ given (step_list A ss) → whole u ≡ given (step_list B ss)
    → Paired m n A B → NoFill (input_cells A) → ((k : ℕ) → Demanded (step_at ss k).op) → Demand m n A B ss (run_of m t) (run_of n u)

-- of any two such lists, each of whose inputs has as many bits as its header says
abbrev pub Demand3 : Type 0
Demand3 = (m n : LentMemory) (A B : List Vector) (ss : List Step) → AllSound (input_cells A)
    → Paired m n A B → NoFill (input_cells A) → ((k : ℕ) → Demanded (step_at ss k).op) → Demand m n A B ss (run_on m A ss) (run_on n B ss)
