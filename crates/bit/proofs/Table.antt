-- The four tables of single-bit rules: one computed test over all their entries, and the law that turns it into the rule at each entry.
--     each          what a test passes at each of the four bits holds of any bit
--     at, at-not    what is looked up in a rule's table is the rule
--     code_lt, of-code, same-eq     a code is below 4, and gives its bit back; bits of the same code are the same
use mathlib.Core.Path.{◌≡◌, refl, sym, ap, ◌∙◌}
use mathlib.Core.Bool.{Bool, ◌&&◌}
use mathlib.Core.List.{List, [], ◌∷◌}
use Prim.Native.Nat.{ℕ, ◌<◌}
use lib.ListN.{get_or}
use lib.Dec.{T, eqb, eqb→eq, lit<}
use Rattle.bit.specs.Rules.{code, of_code, entry, same, and_bit, or_bit, xor_bit, merge_bit, not_bit}
use Rattle.bit.specs.declared.LogicBit.{LogicBit}
use Rattle.bit.specs.declared.LogicBit.TheVariants.{Zero, One, X, Z}
use Rattle.bit.proofs.Tests.{and_left, and_right}

-- the test passes at each of the four bits
abbrev pub all : (LogicBit → Bool) → Bool
all p = p Zero && (p One && (p X && p Z))

pub each : (p : LogicBit → Bool) → T (all p) → (a : LogicBit) → T (p a)
each p t Zero = and_left (p Zero) _ t
each p t One = and_left (p One) _ (and_right (p Zero) _ t)
each p t X = and_left (p X) _ (and_right (p One) _ (and_right (p Zero) _ t))
each p t Z = and_right (p X) _ (and_right (p One) _ (and_right (p Zero) _ t))

pub code_lt : (b : LogicBit) → code b < 4
code_lt Zero = lit< tt
code_lt One = lit< tt
code_lt X = lit< tt
code_lt Z = lit< tt

pub of-code : (b : LogicBit) → of_code (code b) ≡ b
of-code Zero = refl
of-code One = refl
of-code X = refl
of-code Z = refl

pub same-eq : (a b : LogicBit) → T (same a b) → a ≡ b
same-eq a b t = sym (of-code a) ∙ ap of_code (eqb→eq (code a) (code b) t) ∙ of-code b

-- the rules of two bits
pub data Rule : Type 0 where
  And Or Xor Merge : Rule

abbrev pub rule : Rule → LogicBit → LogicBit → LogicBit
rule And = and_bit
rule Or = or_bit
rule Xor = xor_bit
rule Merge = merge_bit

abbrev row : ℕ → ℕ → ℕ → ℕ → List ℕ
row p q r s = p ∷ q ∷ r ∷ s ∷ []

-- the constants of the code
abbrev pub table : Rule → List (List ℕ)
table And = row 0 0 0 0 ∷ row 0 1 2 2 ∷ row 0 2 2 2 ∷ row 0 2 2 2 ∷ []
table Or = row 0 1 2 2 ∷ row 1 1 1 1 ∷ row 2 1 2 2 ∷ row 2 1 2 2 ∷ []
table Xor = row 0 1 2 2 ∷ row 1 0 2 2 ∷ row 2 2 2 2 ∷ row 2 2 2 2 ∷ []
table Merge = row 0 2 2 2 ∷ row 2 1 2 2 ∷ row 2 2 2 2 ∷ row 2 2 2 2 ∷ []

-- the rule's table holds the rule's code at row a and column b
abbrev holds : Rule → LogicBit → LogicBit → Bool
holds r a b = eqb (entry (table r) a b) (code (rule r a b))

abbrev ruled : Rule → Bool
ruled r = all (λ a. all (holds r a))

each-rule : (p : Rule → Bool) → T (p And && (p Or && (p Xor && p Merge))) → (r : Rule) → T (p r)
each-rule p t And = and_left (p And) _ t
each-rule p t Or = and_left (p Or) _ (and_right (p And) _ t)
each-rule p t Xor = and_left (p Xor) _ (and_right (p Or) _ (and_right (p And) _ t))
each-rule p t Merge = and_right (p Xor) _ (and_right (p Or) _ (and_right (p And) _ t))

-- the one test, over the sixty-four entries
rule-holds : (r : Rule) → T (ruled r)
rule-holds = each-rule ruled tt

pub at : (r : Rule) (a b : LogicBit) → of_code (entry (table r) a b) ≡ rule r a b
at r a b =
    ap of_code (eqb→eq (entry (table r) a b) (code (rule r a b)) (each (holds r a) (each (λ a. all (holds r a)) (rule-holds r) a) b))
    ∙ of-code (rule r a b)

-- the table of not has one row
abbrev pub not_table : List ℕ
not_table = row 1 0 2 2

abbrev not-holds : LogicBit → Bool
not-holds a = eqb (get_or not_table (code a) 0) (code (not_bit a))

pub at-not : (a : LogicBit) → of_code (get_or not_table (code a) 0) ≡ not_bit a
at-not a = ap of_code (eqb→eq (get_or not_table (code a) 0) (code (not_bit a)) (each not-holds tt a)) ∙ of-code (not_bit a)
