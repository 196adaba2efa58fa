-- Document 02, point 3: equality and wildcard equality with the rule that decided. The bit is that of `is_equal` and `wildcard_eq`, and so are the
-- refusals.
use Rattle.std.specs.Prelude.{◌≡◌}
use Rattle.bit.specs.declared.LogicBit.{LogicBit}
use Rattle.refusal.specs.Outcome.{Answer}
use Rattle.refusal.specs.Outcome.Answer.{given, refused}
use Rattle.words.specs.Planes.{Planes}
use Rattle.value.specs.declared.Header.{Header}
use Rattle.value.specs.declared.Operand.{Operand}
use Rattle.value.specs.declared.Operand.TheVariants as operand
use Rattle.value.specs.Checks.{vector}
use Rattle.compare_words.specs.declared.Comparison.{Comparison}
use Rattle.compare_words.specs.declared.Comparison.TheVariants.{WildcardEqual}
use Rattle.compare_words.specs.declared.Found.{Found}
use Rattle.compare_words.specs.declared.Found.TheVariants.{Mismatch, Unsure, Same}
use Rattle.compare_words.specs.Compared.{places, found}
use Rattle.compare.specs.Compare.{comparison, is_equal}
use Rattle.decide.specs.declared.Rule.{Rule}
use Rattle.decide.specs.declared.Rule.TheVariants.{KnownMismatch, Unknown, AllEqual, Numeric}
use Rattle.decide.specs.declared.Decision.{Decision}
use Rattle.decide.specs.Rule.{every_place, right_known, rule_of, Fits, Only, GoesWith}

abbrev pub decision : LogicBit → Rule → Decision
decision b r = record { bit = b; rule = r }

-- an answer's bit beside a rule; a refusal stays
abbrev pub with_rule : Rule → Answer LogicBit → Answer Decision
with_rule r (given b) = given (decision b r)
with_rule r (refused n) = refused n

-- two vectors have a rule by their places; where an operand is a real, the rule is "numeric"
abbrev pub equal_rule : Operand → Planes → Operand → Planes → Rule
equal_rule (operand.Vector a) p (operand.Vector b) q = rule_of every_place (vector a p) (vector b q)
equal_rule (operand.Vector a) p (operand.Real y) q = Numeric
equal_rule (operand.Real x) p (operand.Vector b) q = Numeric
equal_rule (operand.Real x) p (operand.Real y) q = Numeric

-- `decide_equal`
abbrev pub decide_equal : Operand → Planes → Operand → Planes → Answer Decision
decide_equal a p b q = with_rule (equal_rule a p b q) (is_equal a p b q)

-- `decide_wildcard`
abbrev pub decide_wildcard : Header → Planes → Header → Planes → Answer Decision
decide_wildcard a p b q = with_rule (rule_of right_known (vector a p) (vector b q)) (comparison WildcardEqual a p b q)

-- ---- what holds of the answers

-- what it is for a rule to fit two operands of an equality
abbrev pub FitsOperands : Operand → Planes → Operand → Planes → Rule → Type 0
FitsOperands (operand.Vector a) p (operand.Vector b) q r = Fits every_place (vector a p) (vector b q) r
FitsOperands (operand.Vector a) p (operand.Real y) q r = r ≡ Numeric
FitsOperands (operand.Real x) p (operand.Vector b) q r = r ≡ Numeric
FitsOperands (operand.Real x) p (operand.Real y) q r = r ≡ Numeric

-- exactly the rule of a decision fits, and the bit goes with it
pub record Settles (fits : Rule → Type 0) (d : Decision) : Type 0 where
  pub only : Only fits d.rule
  pub goes : GoesWith d.rule d.bit

abbrev pub EqualSettled : Type 0
EqualSettled = (a b : Operand) (p q : Planes) (d : Decision) → decide_equal a p b q ≡ given d → Settles (FitsOperands a p b q) d

abbrev pub WildcardSettled : Type 0
WildcardSettled =
    (a b : Header) (p q : Planes) (d : Decision) → decide_wildcard a p b q ≡ given d → Settles (Fits right_known (vector a p) (vector b q)) d

-- ---- what the scan tells

abbrev pub found_rule : Found → Rule
found_rule (Mismatch i) = KnownMismatch i
found_rule (Unsure i) = Unknown i
found_rule Same = AllEqual

-- a comparison of two vectors, with the rule by what a scan of them finds
abbrev pub decide_scanned : Comparison → Header → Planes → Header → Planes → Answer Decision
decide_scanned op a p b q = with_rule (found_rule (found op (places (vector a p) (vector b q)))) (comparison op a p b q)
