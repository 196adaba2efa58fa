-- When the answer of a line is what a call gave: a refusal by its number (document 01, "Numbers for what is not done"), a bit by its code ("Bit
-- code"), a decision by its bit, rule and place, a header by its three parts ("Header and operand").
use Rattle.std.specs.Prelude.{ℕ, ◌/◌, ◌%◌, Bool, false, cond, ◌&&◌, eqb}
use Rattle.std.specs.Bool.{beq}
use Rattle.words.specs.declared.Word.{Word}
use Rattle.value.specs.declared.Header.{Header}
use Rattle.abi.specs.declared.DecisionResult.{DecisionResult}
use Rattle.abi.specs.declared.HeaderResult.{HeaderResult}
use Rattle.agreement.specs.declared.Field.{Field}

-- a refusal by its number; where there is none, 0, no refusal and what else was compared
abbrev pub answered : Field → ℕ → Bool → Bool
answered f refusal same = cond (eqb refusal 0) (cond f.is_refusal false same) (cond f.is_refusal (eqb f.number refusal) false)

-- a bit by the two digits of its code
abbrev pub same_code : Word → ℕ → Bool
same_code w code = eqb w.value (code % 2) && eqb w.unknown (code / 2)

-- a decision by the number of its rule, its place and its bit
abbrev pub same_decision : Word → ℕ → ℕ → DecisionResult → Bool
same_decision w rule place r = eqb rule r.rule && (eqb place r.place && same_code w r.bit)

abbrev pub same_header : Header → HeaderResult → Bool
same_header h r = eqb h.width r.width && (beq h.is_signed r.is_signed && beq h.is_fill r.is_fill)
