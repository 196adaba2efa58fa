-- Document 01, "Step list": the names of the ops, in its order; and the code that an op has in the exports.
use Rattle.std.specs.Prelude.{cond, ℕ, List, [], ◌∷◌, Option, Some, None, eqb}
use Prim.Native.String.{String}
use Rattle.ops.specs.declared.Op.{Op}
use Rattle.ops.specs.declared.Op.TheVariants.{And, Or, Xor, Not, Merge, ReduceAnd, ReduceOr, ReduceXor, Equal, CaseEqual, CasezEqual, CasexEqual, WildcardEqual, LogicAnd, LogicOr, Select, Insert}

abbrev pub all_ops : List Op
all_ops = And ∷ Or ∷ Xor ∷ Not ∷ Merge ∷ ReduceAnd ∷ ReduceOr ∷ ReduceXor ∷ Equal ∷ CaseEqual ∷ CasezEqual ∷ CasexEqual ∷ WildcardEqual ∷ LogicAnd ∷ LogicOr ∷ Select ∷ Insert ∷ []

-- the name of an op in a step list
abbrev pub op_name : Op → String
op_name And = "and"
op_name Or = "or"
op_name Xor = "xor"
op_name Not = "not"
op_name Merge = "mrg"
op_name ReduceAnd = "rand"
op_name ReduceOr = "ror"
op_name ReduceXor = "rxor"
op_name Equal = "eq"
op_name CaseEqual = "ceq"
op_name CasezEqual = "cz"
op_name CasexEqual = "cx"
op_name WildcardEqual = "weq"
op_name LogicAnd = "land"
op_name LogicOr = "lor"
op_name Select = "sel"
op_name Insert = "ins"

-- ---- codes

-- an op keeps its code for good: when ops come or go no other op's code moves, and the code of an op that is gone is not given to another
abbrev pub op_code : Op → ℕ
op_code And = 0
op_code Or = 1
op_code Xor = 2
op_code Not = 3
op_code Merge = 4
op_code ReduceAnd = 5
op_code ReduceOr = 6
op_code ReduceXor = 7
op_code Equal = 8
op_code CaseEqual = 9
op_code CasezEqual = 10
op_code CasexEqual = 11
op_code WildcardEqual = 12
op_code LogicAnd = 13
op_code LogicOr = 14
op_code Select = 15
op_code Insert = 16

-- the op of code n in a list, or none
unfoldable pub with_code : ℕ → List Op → Option Op
with_code n [] = None
with_code n (op ∷ ops) = cond (eqb (op_code op) n) (Some op) (with_code n ops)

abbrev pub op_of : ℕ → Option Op
op_of n = with_code n all_ops
