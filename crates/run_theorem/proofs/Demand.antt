-- Demand 3 in its own words, from `refinement`: the ops that it names keep known bits and are exact, and where no input is a fill no cell is, so that
-- operands of equal width are comparable.
use mathlib.Core.Path.{refl, sym, subst}
use mathlib.Core.Bool.{not}
use mathlib.Core.Logic.{◌≢◌}
use mathlib.Core.List.{List, [], ◌∷◌}
use Prim.Native.Nat.{ℕ, zero, suc, ◌+◌}
use lib.Dec.{T}
use lib.ListN.{length, take}
use Rattle.value.specs.Checks.{Vector}
use Rattle.ops.specs.declared.Op.{Op}
use Rattle.ops.specs.declared.Op.TheVariants.{And, Or, Xor, Not, Merge, ReduceAnd, ReduceOr, ReduceXor, Equal, CaseEqual, CasezEqual, CasexEqual, WildcardEqual, LogicAnd, LogicOr, Select, Insert}
use Rattle.ops.specs.declared.Step.{Step}
use Rattle.machine.specs.Machine.{Cell, input_cells}
use Rattle.execute.specs.Executed.{LentMemory}
use Rattle.knownness.specs.Knownness.{keeps_known, step_at, Refines, Cellwise, NoFill, EqualWidths, Exactable, ExactCells}
use Rattle.knownness.proofs.Machine.{run-no-fill}
use Rattle.steps.specs.Run.{Ran}
use Rattle.run_theorem.specs.Demand.{room, run_on, cells_left, Demanded, Demand, Demand3, TextDemand3}
use Rattle.run_theorem.specs.Refinement.{PlainRun}
use Rattle.run_theorem.proofs.Refinement.{refinement, text-sound, of-texts}

-- ---- the ops: those that the table has, and those of which none of the four names is theirs

-- an op that the table has is none that it has not
other : (op : Op) {o : Op} → T (keeps_known op) → ¬ (T (keeps_known o)) → op ≢ o
other op t f e = f (subst (λ (x : Op). T (keeps_known x)) e t)

pub kept-named : (op : Op) → T (keeps_known op) → Demanded op
kept-named op t = (other op t (λ x. x), other op t (λ x. x), other op t (λ x. x), other op t (λ x. x))

named-kept : (op : Op) → Demanded op → T (keeps_known op)
named-kept And d = tt
named-kept Or d = tt
named-kept Xor d = tt
named-kept Not d = tt
named-kept Merge d = tt
named-kept ReduceAnd d = tt
named-kept ReduceOr d = tt
named-kept ReduceXor d = tt
named-kept Equal d = tt
named-kept CaseEqual d = d.0 refl
named-kept CasezEqual d = d.1 refl
named-kept CasexEqual d = d.2 refl
named-kept WildcardEqual d = d.3 refl
named-kept LogicAnd d = tt
named-kept LogicOr d = tt
named-kept Select d = tt
named-kept Insert d = tt

-- ---- no fills

-- of the first cells, since an empty cell is read behind them
no-fill-take : (cs : List Cell) (n : ℕ) → NoFill cs → NoFill (take n cs)
no-fill-take cs zero h j = tt
no-fill-take [] (suc n) h j = tt
no-fill-take (x ∷ xs) (suc n) h zero = h zero
no-fill-take (x ∷ xs) (suc n) h (suc j) = no-fill-take xs n (λ i. h (suc i)) j

refined-no-fill : (A B : List Cell) → Cellwise Refines A B → NoFill A → NoFill B
refined-no-fill A B r h j = subst (λ x. T (not x.is_fill)) (sym (r.1 j).0) (h j)

plain-no-fill : (m : LentMemory) (A : List Vector) (ss : List Step) (p : Ran) → PlainRun m A ss p → NoFill (input_cells A) → NoFill (cells_left p)
plain-no-fill m A ss p t h = subst NoFill (sym t.cells) (run-no-fill (room m) ss 0 (input_cells A) h)

-- where no cell is a fill and every op is one of those named, a step is known exactly if it is no equality or its operands are of equal width
equal-widths-exact : (n : ℕ) (ss : List Step) (cells : List Cell) → ((k : ℕ) → Demanded (step_at ss k).op) → NoFill cells
    → ExactCells Exactable n ss cells → ExactCells EqualWidths n ss cells
equal-widths-exact n ss cells ops h x k l m w =
    let f = no-fill-take cells (n + k) h in
    x k l m (named-kept (step_at ss k).op (ops k), λ q. (f (step_at ss k).a, f (step_at ss k).b, λ s t. w q))

pub demand3 : Demand3
demand3 m n A B ss sound pair plain ops =
    let r = refinement m n A B ss sound pair in
    let p = plain-no-fill m A ss (run_on m A ss) r.plain plain in
    let q = plain-no-fill n B ss (run_on n B ss) r.plain-refined (refined-no-fill (input_cells A) (input_cells B) pair.refines plain) in
    record {
      ending = r.ending;
      kept = r.kept (λ k. named-kept (step_at ss k).op (ops k));
      plain = r.plain.cells;
      plain-refined = r.plain-refined.cells;
      exact = equal-widths-exact (length A) ss (cells_left (run_on m A ss)) ops p r.exact;
      exact-refined = equal-widths-exact (length B) ss (cells_left (run_on n B ss)) ops q r.exact-refined;
    }

pub text-demand3 : TextDemand3
text-demand3 m n A B ss t u et eu pair plain ops =
    of-texts m n A B ss t u et eu (Demand m n A B ss) (demand3 m n A B ss (text-sound m n A B ss t u et eu) pair plain ops)
