-- Document 01, "The runs of demand 3": cells that refine others, the completions of a step's operands, what demand 3 claims of the cells of
-- a run, and why some ops stand outside it.
use Rattle.std.specs.Prelude.{◌≡◌, Bool, true, false, not, cond, ◌⊎◌, ◌↔◌, ◌≢◌, List, [], ◌∷◌, ℕ, ◌+◌, ◌<◌, T, length, get_or, take}
use Rattle.bit.specs.declared.LogicBit.{LogicBit}
use Rattle.bit.specs.Rules.{known}
use Rattle.refusal.specs.Outcome.Answer.{given}
use Rattle.words.specs.Vector.{at}
use Rattle.value.specs.declared.Header.{Header}
use Rattle.value.specs.Checks.{Vector}
use Rattle.lanes.specs.declared.Bitwise.TheVariants as bitwise
use Rattle.extension.specs.Extension.{operand_at}
use Rattle.ops.specs.declared.Op.{Op}
use Rattle.ops.specs.declared.Op.TheVariants.{And, Or, Xor, Not, Merge, ReduceAnd, ReduceOr, ReduceXor, Equal, CaseEqual, CasezEqual, CasexEqual, WildcardEqual, LogicAnd, LogicOr, Select, Insert}
use Rattle.ops.specs.declared.Step.{Step}
use Rattle.ops.specs.declared.Family.{Family}
use Rattle.ops.specs.declared.Family.TheVariants as family
use Rattle.ops.specs.Ops.{no_step, family_of, op_bits}
use Rattle.machine.specs.declared.Room.{Room}
use Rattle.machine.specs.Machine.{Cell, headers_of, vector_at, check_step, step_cell, machine_run}

-- ---- the ops

-- the ops of demand 3's lists, all but the case and wildcard comparisons: a step of one keeps known bits
abbrev pub keeps_known : Op → Bool
keeps_known And = true
keeps_known Or = true
keeps_known Xor = true
keeps_known Not = true
keeps_known Merge = true
keeps_known ReduceAnd = true
keeps_known ReduceOr = true
keeps_known ReduceXor = true
keeps_known Equal = true
keeps_known CaseEqual = false
keeps_known CasezEqual = false
keeps_known CasexEqual = false
keeps_known WildcardEqual = false
keeps_known LogicAnd = true
keeps_known LogicOr = true
keeps_known Select = true
keeps_known Insert = true

-- the ops whose result is known exactly where all completions agree, an equality's where its operands are comparable
abbrev pub is_exact : Op → Bool
is_exact op = keeps_known op

-- step k of a list, from 0
abbrev pub step_at : List Step → ℕ → Step
step_at ss k = get_or ss k no_step

-- a list of demand 3
abbrev pub AllKeep : List Step → Type 0
AllKeep ss = (k : ℕ) → T (keeps_known (step_at ss k).op)

-- ---- bits

abbrev pub Known : LogicBit → Type 0
Known b = T (known b)

-- a bit known under the first is the same under the second
abbrev pub Keeps : LogicBit → LogicBit → Type 0
Keeps a b = Known a → b ≡ a

-- b is a, or a is unknown and b is 0 or 1
abbrev pub Refines : LogicBit → LogicBit → Type 0
Refines a b = (b ≡ a) ⊎ (T (not (known a)) × Known b)

-- r is 0 or 1, and is a if a is
abbrev pub Completes : LogicBit → LogicBit → Type 0
Completes a r = Known r × Keeps a r

-- ---- vectors and cells

-- the same header and as many bits, and R at each place
abbrev pub Pointwise : (LogicBit → LogicBit → Type 0) → Vector → Vector → Type 0
Pointwise R a b = (b.header ≡ a.header) × (length b.bits ≡ length a.bits) × ((i : ℕ) → R (at a.bits i) (at b.bits i))

-- as many cells, and R of each two bits
abbrev pub Cellwise : (LogicBit → LogicBit → Type 0) → List Cell → List Cell → Type 0
Cellwise R A B = (length B ≡ length A) × ((j : ℕ) → Pointwise R (vector_at A j) (vector_at B j))

-- each cell has as many bits as its header says
abbrev pub AllSound : List Cell → Type 0
AllSound cs = (j : ℕ) → length (vector_at cs j).bits ≡ (vector_at cs j).header.width

-- ---- a step that is known exactly

-- merge: what it gives is read from either of its operands, and not from its result
abbrev pub merges : Family → Bool
merges (family.Join bitwise.And) = false
merges (family.Join bitwise.Or) = false
merges (family.Join bitwise.Xor) = false
merges (family.Join bitwise.Merge) = true
merges family.Not = false
merges (family.Answer q) = false
merges family.Select = false
merges family.Insert = false

-- the arms of a merge are its two operands, extended
abbrev pub arm_at : (second : Bool) → Vector → Vector → ℕ → LogicBit
arm_at true a b i = operand_at b a.header i
arm_at false a b i = operand_at a b.header i

-- what the op has at place i of the completed operands; in a merge, either arm
abbrev pub gives : Op → ℕ → (second : Bool) → Vector → Vector → Vector → ℕ → LogicBit
gives op pos second a b c i = cond (merges (family_of op)) (arm_at second a b i) (at (op_bits op a b c pos) i)

-- every completion of the operands, of each on its own even where two name one cell, gives v at place i
abbrev pub AllGive : List Cell → Step → ℕ → LogicBit → Type 0
AllGive cs s i v = (a b c : Vector) → Pointwise Completes (vector_at cs s.a) a → Pointwise Completes (vector_at cs s.b) b
    → Pointwise Completes (vector_at cs s.c) c → (second : Bool) → gives s.op s.c second a b c i ≡ v

-- each bit of the vector made is known as v exactly if all completions of the operands give v
abbrev pub ExactStep : List Cell → Step → Vector → Type 0
ExactStep cs s made = (i : ℕ) → i < length made.bits → (v : LogicBit) → Known v → (at made.bits i ≡ v) ↔ AllGive cs s i v

-- ---- where an equality is known exactly

-- its operands are of equal width
abbrev pub EqualWidths : List Cell → Step → Type 0
EqualWidths cs s = s.op ≡ Equal → (vector_at cs s.a).header.width ≡ (vector_at cs s.b).header.width

-- two operands of which neither is a fill, and which are of equal width if both are signed
abbrev pub Comparable : Header → Header → Type 0
Comparable a b = T (not a.is_fill) × T (not b.is_fill) × (T a.is_signed → T b.is_signed → a.width ≡ b.width)

-- so are those of an equality. Where they are not, one unknown bit can stand at several places, and the equality be x though all completions
-- give 0: signed x0 beside signed 0100 (document 01, "Cases on either side"), or a fill x beside 01
abbrev pub EqualityComparable : List Cell → Step → Type 0
EqualityComparable cs s = s.op ≡ Equal → Comparable (vector_at cs s.a).header (vector_at cs s.b).header

-- a step of which exactness is proved
abbrev pub Exactable : List Cell → Step → Type 0
Exactable cs s = T (is_exact s.op) × EqualityComparable cs s

-- ---- the cells of a run

abbrev pub NoFill : List Cell → Type 0
NoFill cs = (j : ℕ) → T (not (vector_at cs j).header.is_fill)

-- n cells and then those of the steps ss, as far as these were run: each that meets C is known exactly. Its operands are cells before it
abbrev pub ExactCells : (C : List Cell → Step → Type 0) → (n : ℕ) → List Step → List Cell → Type 0
ExactCells C n ss cells = (k : ℕ) → k < length ss → n + k < length cells → C (take (n + k) cells) (step_at ss k)
    → ExactStep (take (n + k) cells) (step_at ss k) (vector_at cells (n + k))

-- the runs of the steps ss from the cells A and from the cells B end alike, and if all ops keep known bits, every bit known in a cell of the
-- first is the same in the second
pub record Alike (r : Room) (A B : List Cell) (ss : List Step) : Type 0 where
  pub ending : (machine_run r B ss).ending ≡ (machine_run r A ss).ending
  pub kept : AllKeep ss → Cellwise Keeps (machine_run r A ss).cells (machine_run r B ss).cells

-- so do those from any two lists of cells, each of the first with as many bits as its header says, of which the second has the headers of the
-- first and keeps its known bits
abbrev pub KnownKept : Type 0
KnownKept = (r : Room) (A B : List Cell) (ss : List Step) → AllSound A → Cellwise Keeps A B → Alike r A B ss

-- ---- the ops outside demand 3

-- a list of one step of the op, and cells that are refined, with which a bit that was known changes
pub record Loses (op : Op) : Type 0 where
  pub room : Room
  pub cells : List Cell
  pub refined : List Cell
  pub step : Step
  pub by : step.op ≡ op
  pub sound : AllSound cells
  pub refines : Cellwise Refines cells refined
  pub cell : ℕ
  pub place : ℕ
  pub known-bit : Known (at (vector_at (machine_run room cells (step ∷ [])).cells cell).bits place)
  pub changes : at (vector_at (machine_run room refined (step ∷ [])).cells cell).bits place
      ≢ at (vector_at (machine_run room cells (step ∷ [])).cells cell).bits place

-- cells and a step of the op that is run on them and is not known exactly, though if it is an equality its operands are comparable
pub record Inexact (op : Op) : Type 0 where
  pub room : Room
  pub cells : List Cell
  pub step : Step
  pub by : step.op ≡ op
  pub sound : AllSound cells
  pub accepted : check_step room (headers_of cells) step ≡ given tt
  pub comparable : EqualityComparable cells step
  pub inexact : ¬ (ExactStep cells step (step_cell cells step).vector)

-- the tables leave out an op exactly if it must be
pub record LeftOut : Type 0 where
  pub loses : (op : Op) → T (not (keeps_known op)) ↔ Loses op
  pub inexact : (op : Op) → T (not (is_exact op)) ↔ Inexact op
