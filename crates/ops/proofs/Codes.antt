-- Each op has a code of its own: it is the op of its code.
use mathlib.Core.Path.{◌≡◌, refl}
use Rattle.std.specs.Prelude.{Some}
use Rattle.ops.specs.declared.Op.{Op}
use Rattle.ops.specs.declared.Op.TheVariants.{And, Or, Xor, Not, Merge, ReduceAnd, ReduceOr, ReduceXor, Equal, CaseEqual, CasezEqual, CasexEqual, WildcardEqual, LogicAnd, LogicOr, Select, Insert}
use Rattle.ops.specs.Names.{op_code, with_code, op_of}

pub op-of-code : (op : Op) → op_of (op_code op) ≡ Some op
unfolding with_code
op-of-code And = refl
op-of-code Or = refl
op-of-code Xor = refl
op-of-code Not = refl
op-of-code Merge = refl
op-of-code ReduceAnd = refl
op-of-code ReduceOr = refl
op-of-code ReduceXor = refl
op-of-code Equal = refl
op-of-code CaseEqual = refl
op-of-code CasezEqual = refl
op-of-code CasexEqual = refl
op-of-code WildcardEqual = refl
op-of-code LogicAnd = refl
op-of-code LogicOr = refl
op-of-code Select = refl
op-of-code Insert = refl
