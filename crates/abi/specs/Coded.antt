-- The answers of the entries as they cross to C: a refusal is its number (document 01, "Numbers for what is not done") and 0 where the call was
-- done, a bit is its code ("Bit code"), and the other fields of a refused call are 0.
use Rattle.std.specs.Prelude.{Bool, false, cond, ℕ, Float}
use Rattle.bit.specs.declared.LogicBit.{LogicBit}
use Rattle.bit.specs.Rules.{code}
use Rattle.refusal.specs.Outcome.{Answer, Outcome}
use Rattle.refusal.specs.Outcome.Answer.{given, refused}
use Rattle.words.specs.declared.Word.{Word}
use Rattle.value.specs.declared.Header.{Header}
use Rattle.value.specs.declared.Operand.{Operand}
use Rattle.value.specs.declared.Operand.TheVariants as operand
use Rattle.reduce_words.specs.declared.Truth.{Truth}
use Rattle.reduce_words.specs.Fold.{truth_bit}
use Rattle.decide.specs.declared.Rule.{Rule}
use Rattle.decide.specs.declared.Rule.TheVariants.{KnownMismatch, Unknown, AllEqual, Numeric}
use Rattle.decide.specs.declared.Decision.{Decision}
use Rattle.abi.specs.declared.BitResult.{BitResult}
use Rattle.abi.specs.declared.WordResult.{WordResult}
use Rattle.abi.specs.declared.HeaderResult.{HeaderResult}
use Rattle.abi.specs.declared.LengthResult.{LengthResult}
use Rattle.abi.specs.declared.DecisionResult.{DecisionResult}

abbrev pub coded_done : Answer Unit → ℕ
coded_done (given u) = 0
coded_done (refused n) = n

abbrev pub coded_bit : Answer LogicBit → BitResult
coded_bit (given b) = record { refusal = 0; bit = code b }
coded_bit (refused n) = record { refusal = n; bit = 0 }

abbrev pub coded_word : Answer Word → WordResult
coded_word (given w) = record { refusal = 0; value = w.value; unknown = w.unknown }
coded_word (refused n) = record { refusal = n; value = 0; unknown = 0 }

abbrev pub coded_header : Answer Header → HeaderResult
coded_header (given h) = record { refusal = 0; width = h.width; is_signed = h.is_signed; is_fill = h.is_fill }
coded_header (refused n) = record { refusal = n; width = 0; is_signed = false; is_fill = false }

-- no is 0, yes is 1
abbrev pub coded_change : Answer Bool → BitResult
coded_change (given c) = record { refusal = 0; bit = cond c 1 0 }
coded_change (refused n) = record { refusal = n; bit = 0 }

-- a truth by the code of its bit
abbrev pub coded_truth : Answer Truth → BitResult
coded_truth (given t) = record { refusal = 0; bit = code (truth_bit t) }
coded_truth (refused n) = record { refusal = n; bit = 0 }

-- the rules of document 02, point 3, in its order
abbrev pub rule_number : Rule → ℕ
rule_number (KnownMismatch i) = 1
rule_number (Unknown i) = 2
rule_number AllEqual = 3
rule_number Numeric = 4

-- the place of a rule, 0 where it has none
abbrev pub rule_place : Rule → ℕ
rule_place (KnownMismatch i) = i
rule_place (Unknown i) = i
rule_place AllEqual = 0
rule_place Numeric = 0

abbrev pub coded_decision : Answer Decision → DecisionResult
coded_decision (given d) = record { refusal = 0; bit = code d.bit; rule = rule_number d.rule; place = rule_place d.rule }
coded_decision (refused n) = record { refusal = n; bit = 0; rule = 0; place = 0 }

abbrev pub coded_length : Answer ℕ → LengthResult
coded_length (given n) = record { refusal = 0; length = n }
coded_length (refused n) = record { refusal = n; length = 0 }

-- an operand is passed as its mark, a header and a real, of which one counts
abbrev pub operand_of : Bool → Header → Float → Operand
operand_of is_real h x = cond is_real (operand.Real x) (operand.Vector h)

-- a coded answer, and what is lent for writing, planes or a text, as the call leaves it
pub record Coded (C S : Type 0) : Type 0 where
  pub answer : C
  pub left : S

module _ {C S : Type 0} where
  abbrev pub coded : C → S → Coded C S
  coded c s = record { answer = c; left = s }

module _ {A C S : Type 0} where
  -- an outcome with its answer coded
  abbrev pub coded_outcome : (Answer A → C) → Outcome A S → Coded C S
  coded_outcome f o = coded (f o.answer) o.left
