-- `ops::op_of`: the table has the ops of the codes below 17, and no op has another code.
use mathlib.Core.Path.{◌≡◌, refl}
use mathlib.Core.Bool.{Bool, true, ◌&&◌}
use mathlib.Core.List.{List, [], ◌∷◌}
use Prim.Native.Nat.{ℕ, ◌≤◌}
use native.Mathlib.Omega.{arith}
use lib.Dec.{T, ltb, ltb→lt}
use borrow.Author.Tests.{ne_eqb}
use Rattle.std.specs.Prelude.{None}
use Rattle.bit.proofs.Tests.{and_left, and_right}
use Rattle.words.specs.Vector.{tabulate}
use Rattle.words.proofs.Planes.{get_d_tabulate}
use Rattle.ops.specs.declared.Op.{Op}
use Rattle.ops.specs.Names.{all_ops, op_code, with_code, op_of}
use Rattle.ops.proofs.op_of.Goals as goal

-- whether the code of each op of a list is below m
abbrev below : ℕ → List Op → Bool
below m [] = true
below m (op ∷ ops) = ltb (op_code op) m && below m ops

-- then none has the code m or a larger one
beyond : (m n : ℕ) → m ≤ n → (ops : List Op) → T (below m ops) → None ≡ with_code n ops
unfolding with_code
beyond m n l [] t = refl
beyond m n l (op ∷ ops) t =
    let k = ltb→lt (op_code op) m (and_left (ltb (op_code op) m) (below m ops) t) in
    simp (ne_eqb (op_code op) n (λ e. omega arith)) (beyond m n l ops (and_right (ltb (op_code op) m) (below m ops) t))

pub returns-then-code-lt17 : goal.returns-then-code-lt17
unfolding tabulate with_code
returns-then-code-lt17 c = rw (← get_d_tabulate 17 op_of c.args.code None c.if-code-lt17.true)

pub returns-else-code-lt17 : goal.returns-else-code-lt17
returns-else-code-lt17 c = rw (← beyond 17 c.args.code c.if-code-lt17.false all_ops tt)
