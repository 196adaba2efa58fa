-- A case of demand 3: two runs of a list, on inputs of which some unknown bits are made known, in memories that differ in all but their lengths.
-- What demand 3 assumes can be met, and of these runs the cells, a bit that is kept and the exact steps of the first are said outright.
--     left, left-refined     the cells that the two runs leave
--     kept-zero              a bit that is known stays
--     exact-step             each of the three steps of the first run is known exactly; the first extends an operand by its top bit, which is
--                            unknown, and the last is an equality
--     text-case              demand 3 of what `run` computes of their texts
use mathlib.Core.Path.{◌≡◌, refl, sym, subst}
use mathlib.Core.Logic.{inl, inr}
use mathlib.Core.Bool.{true, false}
use mathlib.Core.List.{List, [], ◌∷◌, ◌++◌}
use Prim.Native.Nat.{ℕ, zero, suc, ◌+◌, ◌≤◌, ◌<◌}
use native.Mathlib.Omega.{arith}
use lib.Dec.{T}
use lib.ListN.{length, take}
use Rattle.bit.specs.declared.LogicBit.{LogicBit}
use Rattle.bit.specs.declared.LogicBit.TheVariants.{Zero, One, X, Z}
use Rattle.bit.specs.Rules.{known}
use Rattle.refusal.specs.Outcome.Answer.{given}
use Rattle.words.specs.Planes.{lent}
use Rattle.words.specs.Vector.{at, tabulate}
use Rattle.text.specs.Write.{texts, decimal_digits, decimal, number_text, bits_text}
use Rattle.value.specs.Checks.{plain, Vector}
use Rattle.ops.specs.declared.Op.TheVariants.{And, ReduceOr, Equal}
use Rattle.ops.specs.declared.Step.{Step}
use Rattle.machine.specs.Machine.{Cell, holding, vector_at, words_taken, check_step, run_from, input_cells}
use Rattle.execute.specs.Executed.{LentMemory}
use Rattle.knownness.specs.Knownness.{step_at, Refines, Pointwise, Cellwise, AllSound, NoFill, ExactStep, EqualWidths}
use Rattle.store.specs.Store.{state, empty_store}
use Rattle.store.proofs.Held.{empty_holds}
use Rattle.steplist.specs.Listing.{InLimits, InputWithin, StepWithin, whole, input_text, step_text, list_text}
use Rattle.steplist.proofs.Exactly.{whole-exactly}
use Rattle.run_theorem.specs.Demand.{room, step_list, run_on, run_of, cells_left, Paired, Demanded, Demand}
use Rattle.run_theorem.proofs.Inputs.{Accepts, input_headers, inputs-plain}
use Rattle.run_theorem.proofs.Demand.{kept-named, demand3, text-demand3}

-- ---- the runs

abbrev unsigned : List LogicBit → Vector
unsigned bs = record { header = plain (length bs); bits = bs }

abbrev signed : List LogicBit → Vector
signed bs = record { header = record { width = length bs; is_signed = true; is_fill = false }; bits = bs }

-- signed p1, 01 and q01: where p is x and q is z, and where p is 1 and q is 0
abbrev inputs : LogicBit → LogicBit → List Vector
inputs p q = signed (One ∷ p ∷ []) ∷ signed (One ∷ Zero ∷ []) ∷ signed (One ∷ Zero ∷ q ∷ []) ∷ []

abbrev A : List Vector
A = inputs X Z

abbrev B : List Vector
B = inputs One Zero

abbrev ss : List Step
ss = record { op = And; a = 0; b = 2; c = 0 } ∷ record { op = ReduceOr; a = 3; b = 0; c = 0 } ∷ record { op = Equal; a = 0; b = 1; c = 0 } ∷ []

abbrev m : LentMemory
m = record { arenas = lent (7 ∷ 7 ∷ 7 ∷ 7 ∷ 7 ∷ 7 ∷ []) (9 ∷ 9 ∷ 9 ∷ 9 ∷ 9 ∷ 9 ∷ []); scratch = lent (7 ∷ 7 ∷ []) (1 ∷ []) }

abbrev n : LentMemory
n = record { arenas = lent (0 ∷ 0 ∷ 0 ∷ 0 ∷ 0 ∷ 0 ∷ []) (5 ∷ 0 ∷ 0 ∷ 0 ∷ 0 ∷ 0 ∷ []); scratch = lent (0 ∷ 0 ∷ []) (0 ∷ []) }

-- ---- what is assumed of them

sound : AllSound (input_cells A)
sound zero = refl
sound (suc zero) = refl
sound (suc (suc zero)) = refl
sound (suc (suc (suc j))) = refl

no-fill : NoFill (input_cells A)
no-fill zero = tt
no-fill (suc zero) = tt
no-fill (suc (suc zero)) = tt
no-fill (suc (suc (suc j))) = tt

by-headers : Accepts (room m) [] (input_headers A)
unfolding words_taken
by-headers = (refl, (refl, (refl, tt {0})))

refined : Cellwise Refines (input_cells A) (input_cells B)
refined = (refl, go)
  where
    first : (i : ℕ) → Refines (at (One ∷ X ∷ []) i) (at (One ∷ One ∷ []) i)
    first zero = inl refl
    first (suc zero) = inr (tt, tt)
    first (suc (suc i)) = inl refl

    last : (i : ℕ) → Refines (at (One ∷ Zero ∷ Z ∷ []) i) (at (One ∷ Zero ∷ Zero ∷ []) i)
    last zero = inl refl
    last (suc zero) = inl refl
    last (suc (suc zero)) = inr (tt, tt)
    last (suc (suc (suc i))) = inl refl

    go : (j : ℕ) → Pointwise Refines (vector_at (input_cells A) j) (vector_at (input_cells B) j)
    go zero = (refl, refl, first)
    go (suc zero) = (refl, refl, λ i. inl refl)
    go (suc (suc zero)) = (refl, refl, last)
    go (suc (suc (suc j))) = (refl, refl, λ i. inl refl)

paired : Paired m n A B
paired = record {
  refines = refined;
  accepted = (inputs-plain m.scratch (room m) A (state empty_store m.arenas) [] refl (empty_holds m.arenas refl) sound by-headers).accepted;
  arenas = (refl, refl);
  scratch = (refl, refl);
}

ops : (k : ℕ) → Demanded (step_at ss k).op
ops zero = kept-named And tt
ops (suc zero) = kept-named ReduceOr tt
ops (suc (suc zero)) = kept-named Equal tt
ops (suc (suc (suc k))) = kept-named And tt

-- ---- what is so of them

case : Demand m n A B ss (run_on m A ss) (run_on n B ss)
case = demand3 m n A B ss sound paired no-fill ops

abbrev result : List LogicBit → Cell
result bs = holding (unsigned bs)

abbrev cells : List Cell
cells = input_cells A ++ (result (One ∷ Zero ∷ X ∷ []) ∷ result (One ∷ []) ∷ result (X ∷ []) ∷ [])

abbrev cells_refined : List Cell
cells_refined = input_cells B ++ (result (One ∷ Zero ∷ Zero ∷ []) ∷ result (One ∷ []) ∷ result (Zero ∷ []) ∷ [])

pub left : cells_left (run_on m A ss) ≡ cells
unfolding run_from check_step words_taken tabulate
left = case.plain

pub left-refined : cells_left (run_on n B ss) ≡ cells_refined
unfolding run_from check_step words_taken tabulate
left-refined = case.plain-refined

pub kept-zero : at (vector_at (cells_left (run_on n B ss)) 3).bits 1 ≡ at (vector_at (cells_left (run_on m A ss)) 3).bits 1
kept-zero = (case.kept.1 3).2 1 (subst (λ (c : List Cell). T (known (at (vector_at c 3).bits 1))) (sym left) tt)

pub exact-step : (k : ℕ) → k < 3 → ExactStep (take (3 + k) cells) (step_at ss k) (vector_at cells (3 + k))
exact-step k l = subst (λ c. ExactStep (take (3 + k) c) (step_at ss k) (vector_at c (3 + k))) left (case.exact k l inside widths)
  where
    inside : 3 + k < length (cells_left (run_on m A ss))
    inside = subst (λ (c : List Cell). 3 + k < length c) (sym left) (omega arith)

    equal : (k : ℕ) → k < 3 → EqualWidths (take (3 + k) cells) (step_at ss k)
    equal zero l e = let z : ◌≡◌ {A = ℕ} 0 1 = cc in absurd (omega arith)
    equal (suc zero) l e = let z : ◌≡◌ {A = ℕ} 0 1 = cc in absurd (omega arith)
    equal (suc (suc zero)) l e = refl
    equal (suc (suc (suc k))) l e = absurd (omega arith)

    widths : EqualWidths (take (3 + k) (cells_left (run_on m A ss))) (step_at ss k)
    widths = subst (λ c. EqualWidths (take (3 + k) c) (step_at ss k)) (sym left) (equal k l)

-- ---- and of their texts

abbrev text : List Vector → List ℕ
text is = list_text (step_list is ss)

within : (p q : LogicBit) → InLimits (step_list (inputs p q) ss)
unfolding InLimits InputWithin StepWithin
within p q = (
  omega arith,
  omega arith,
  ((omega arith, refl, refl), ((omega arith, refl, refl), ((omega arith, refl, refl), tt {0}))),
  ((omega arith, omega arith, omega arith), ((omega arith, omega arith, omega arith), ((omega arith, omega arith, omega arith), tt {0}))),
)

short : (p q : LogicBit) → length (text (inputs p q)) ≤ 65536
unfolding list_text texts input_text step_text number_text decimal decimal_digits bits_text
short p q = omega arith

said : (p q : LogicBit) → whole (text (inputs p q)) ≡ given (step_list (inputs p q) ss)
said p q = (whole-exactly (text (inputs p q)) (step_list (inputs p q) ss)).1 (refl, within p q, short p q)

pub text-case : Demand m n A B ss (run_of m (text A)) (run_of n (text B))
text-case = text-demand3 m n A B ss (text A) (text B) (said X Z) (said One Zero) paired no-fill ops
