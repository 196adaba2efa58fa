-- The cases of document 01, "Cases on either side", that are marked with a star, and cases of document 02, points 2 to 5, over the definitions
-- that the contracts cite. A vector is written highest bit first, each bit by its code: 0, 1, x or z; a plane as its words, lowest first.
use Rattle.std.specs.Prelude.{◌≡◌, Bool, true, false, cond, List, [], ◌∷◌, map, reverse, ℕ, ◌-◌, ◌^◌, length}
use Rattle.std.specs.Float.{binary64, nan}
use Rattle.std.specs.Float.Ieee.{of_bits}
use Rattle.bit.specs.declared.LogicBit.{LogicBit}
use Rattle.bit.specs.declared.LogicBit.TheVariants.{Zero, One, X}
use Rattle.bit.specs.Rules.{of_code}
use Rattle.words.specs.Planes.{Planes, lent}
use Rattle.value.specs.declared.Header.{Header}
use Rattle.value.specs.declared.Operand.{Operand}
use Rattle.value.specs.declared.Operand.TheVariants as operand
use Rattle.value.specs.Checks.{Vector}
use Rattle.lanes.specs.declared.Bitwise.{Bitwise}
use Rattle.lanes.specs.declared.Bitwise.TheVariants.{And, Or, Xor, Merge}
use Rattle.bitwise_words.specs.Joined.{joined, inverted, inverted_planes, result_signed}
use Rattle.reduce_words.specs.declared.Truth.{Truth}
use Rattle.reduce_words.specs.declared.Truth.TheVariants as truth
use Rattle.reduce_words.specs.Fold.{reduce_and, reduce_or, reduce_xor, truth_by_words}
use Rattle.compare_words.specs.declared.Comparison.TheVariants.{Equal, CaseEqual, CasezEqual, WildcardEqual}
use Rattle.compare_words.specs.Compared.{compared}
use Rattle.compare.specs.Compare.{equal_operands}
use Rattle.decide.specs.declared.Rule.TheVariants.{KnownMismatch, Unknown, AllEqual, Numeric}
use Rattle.decide.specs.declared.Decision.{Decision}
use Rattle.decide.specs.Rule.{every_place, right_known, rule_of}
use Rattle.decide.specs.Decide.{decision, equal_rule}
use Rattle.arm.specs.Arm.{Part, part_of, chosen_arm}

abbrev x : ℕ
x = 2

abbrev z : ℕ
z = 3

abbrev bits : List ℕ → List LogicBit
bits codes = reverse (map of_code codes)

-- a width, and whether it is signed and a fill
abbrev marked : ℕ → Bool → Bool → Header
marked w signed fill = record { width = w; is_signed = signed; is_fill = fill }

-- an unsigned vector
abbrev u : List ℕ → Vector
u codes = record { header = marked (length codes) false false; bits = bits codes }

-- a signed vector
abbrev s : List ℕ → Vector
s codes = record { header = marked (length codes) true false; bits = bits codes }

-- an unsigned fill
abbrev f : List ℕ → Vector
f codes = record { header = marked (length codes) false true; bits = bits codes }

-- a fill that is marked signed
abbrev g : List ℕ → Vector
g codes = record { header = marked (length codes) true true; bits = bits codes }

-- the sign of a result: 1 if it is signed
abbrev sign : Bitwise → Header → Header → List LogicBit
sign op a b = cond (result_signed op a b) One Zero ∷ []

-- what a definition gives, and what the document says
pub record Case (A : Type 0) : Type 0 where
  pub given : A
  pub said : A

infixl 90 ◌is◌
abbrev ◌is◌ : List LogicBit → List ℕ → Case (List LogicBit)
given is said = record { given = given; said = bits said }

infixl 85 ◌tells◌
abbrev ◌tells◌ : Decision → Decision → Case Decision
given tells said = record { given = given; said = said }

module _ {A : Type 0} where
  -- in every case the definition gives what the document says
  abbrev pub Hold : List (Case A) → Type 0
  Hold cs = map (λ (c : Case A). c.given) cs ≡ map (λ (c : Case A). c.said) cs

abbrev pub starred : List (Case (List LogicBit))
starred =
    joined And (u (0 ∷ 1 ∷ x ∷ z ∷ [])) (u (1 ∷ 1 ∷ 1 ∷ 1 ∷ [])) is (0 ∷ 1 ∷ x ∷ x ∷ [])
    ∷ joined Or (u (0 ∷ 1 ∷ x ∷ z ∷ [])) (u (1 ∷ 1 ∷ 1 ∷ 0 ∷ [])) is (1 ∷ 1 ∷ 1 ∷ x ∷ [])
    ∷ joined Xor (u (1 ∷ x ∷ [])) (u (1 ∷ 1 ∷ [])) is (0 ∷ x ∷ [])
    ∷ inverted (u (0 ∷ z ∷ 1 ∷ [])).bits is (1 ∷ x ∷ 0 ∷ [])
    ∷ joined Merge (u (1 ∷ 0 ∷ x ∷ z ∷ [])) (u (1 ∷ 0 ∷ x ∷ z ∷ [])) is (1 ∷ 0 ∷ x ∷ x ∷ [])
    ∷ (compared Equal (u (1 ∷ x ∷ [])) (u (0 ∷ x ∷ [])) ∷ []) is (0 ∷ [])
    ∷ (compared Equal (u (1 ∷ x ∷ [])) (u (1 ∷ x ∷ [])) ∷ []) is (x ∷ [])
    ∷ (reduce_and [] ∷ []) is (1 ∷ [])
    ∷ (reduce_or [] ∷ []) is (0 ∷ [])
    ∷ (reduce_xor [] ∷ []) is (0 ∷ [])
    ∷ (compared WildcardEqual (u (0 ∷ x ∷ [])) (u (1 ∷ 1 ∷ [])) ∷ []) is (0 ∷ [])
    ∷ (compared WildcardEqual (u (1 ∷ x ∷ [])) (u (1 ∷ 1 ∷ [])) ∷ []) is (x ∷ [])
    ∷ (compared WildcardEqual (u (1 ∷ 1 ∷ [])) (u (1 ∷ x ∷ [])) ∷ []) is (1 ∷ [])
    ∷ (compared CasezEqual (u (1 ∷ x ∷ [])) (u (1 ∷ z ∷ [])) ∷ []) is (1 ∷ [])
    ∷ (compared CaseEqual (s (x ∷ [])) (s (x ∷ x ∷ x ∷ [])) ∷ []) is (1 ∷ [])
    ∷ []

-- operands of two widths, extended by the top bit if both are signed, else by 0; fills, stretched; the sign of a merge
abbrev pub point_two : List (Case (List LogicBit))
point_two =
    joined Or (s (1 ∷ [])) (s (0 ∷ 0 ∷ [])) is (1 ∷ 1 ∷ [])
    ∷ joined Or (s (1 ∷ [])) (u (0 ∷ 0 ∷ [])) is (0 ∷ 1 ∷ [])
    ∷ joined Or (u (1 ∷ [])) (s (0 ∷ 0 ∷ [])) is (0 ∷ 1 ∷ [])
    ∷ joined Or (s []) (s (1 ∷ 0 ∷ [])) is (1 ∷ 0 ∷ [])
    ∷ joined And (s (z ∷ [])) (s (1 ∷ 0 ∷ 1 ∷ [])) is (x ∷ 0 ∷ x ∷ [])
    ∷ joined Xor (s (x ∷ 0 ∷ [])) (s (0 ∷ 1 ∷ 0 ∷ 0 ∷ [])) is (x ∷ x ∷ x ∷ 0 ∷ [])
    ∷ joined Merge (s (1 ∷ [])) (s (1 ∷ 1 ∷ [])) is (1 ∷ 1 ∷ [])
    ∷ (compared CaseEqual (s (z ∷ [])) (s (z ∷ z ∷ z ∷ [])) ∷ []) is (1 ∷ [])
    ∷ joined Merge (u (1 ∷ 1 ∷ 1 ∷ 1 ∷ [])) (f (1 ∷ [])) is (1 ∷ 1 ∷ 1 ∷ 1 ∷ [])
    ∷ joined Merge (f (0 ∷ 1 ∷ 1 ∷ [])) (s (1 ∷ [])) is (x ∷ x ∷ 1 ∷ [])
    ∷ joined Merge (f (0 ∷ 1 ∷ [])) (f (1 ∷ [])) is (1 ∷ 1 ∷ [])
    ∷ joined Merge (s (1 ∷ [])) (g (1 ∷ 1 ∷ [])) is (x ∷ 1 ∷ [])
    ∷ (compared WildcardEqual (u (1 ∷ 1 ∷ 1 ∷ 1 ∷ [])) (f (1 ∷ [])) ∷ []) is (1 ∷ [])
    ∷ (compared WildcardEqual (g (1 ∷ 1 ∷ [])) (s (1 ∷ [])) ∷ []) is (0 ∷ [])
    ∷ (compared CaseEqual (u (x ∷ x ∷ [])) (f (x ∷ [])) ∷ []) is (1 ∷ [])
    ∷ (compared CaseEqual (u (z ∷ z ∷ [])) (f (z ∷ [])) ∷ []) is (1 ∷ [])
    ∷ sign Merge (marked 65 true false) (marked 1 true false) is (1 ∷ [])
    ∷ sign Merge (marked 0 true false) (marked 0 true false) is (1 ∷ [])
    ∷ sign Merge (marked 4 true false) (marked 4 false false) is (0 ∷ [])
    ∷ sign Merge (marked 4 false false) (marked 4 true false) is (0 ∷ [])
    ∷ sign Merge (marked 4 true false) (marked 4 true true) is (0 ∷ [])
    ∷ sign Merge (marked 4 true true) (marked 4 true true) is (0 ∷ [])
    ∷ sign Or (marked 4 true false) (marked 4 true false) is (0 ∷ [])
    ∷ []

-- ---- which rule decided

infixl 90 ◌equal◌ ◌wildcard◌
abbrev ◌equal◌ : Vector → Vector → Decision
a equal b = decision (compared Equal a b) (rule_of every_place a b)

abbrev ◌wildcard◌ : Vector → Vector → Decision
a wildcard b = decision (compared WildcardEqual a b) (rule_of right_known a b)

-- an equality with a real; no planes are lent, so that a vector is empty
abbrev numeric : Operand → Operand → Decision
numeric a b =
    let none : Planes = record { value = []; unknown = [] } in
    decision (equal_operands a none b none) (equal_rule a none b none)

abbrev empty : Operand
empty = operand.Vector (marked 0 false false)

abbrev mismatch : ℕ → Decision
mismatch i = decision Zero (KnownMismatch i)

abbrev unknown : ℕ → Decision
unknown i = decision X (Unknown i)

abbrev all_equal : Decision
all_equal = decision One AllEqual

-- which rule decided, and the bit: known mismatches, unknown bits on either side, vectors of two widths, fills, places that are not compared, reals
abbrev pub point_three : List (Case Decision)
point_three =
    u (1 ∷ x ∷ []) equal u (0 ∷ x ∷ []) tells mismatch 1
    ∷ u (1 ∷ x ∷ x ∷ 0 ∷ []) equal u (0 ∷ 1 ∷ 1 ∷ 0 ∷ []) tells mismatch 3
    ∷ u (1 ∷ 0 ∷ 1 ∷ []) equal u (0 ∷ 1 ∷ 0 ∷ []) tells mismatch 0
    ∷ u (1 ∷ x ∷ x ∷ 0 ∷ []) equal u (1 ∷ 1 ∷ 1 ∷ 0 ∷ []) tells unknown 1
    ∷ u (z ∷ 1 ∷ 1 ∷ 0 ∷ []) equal u (1 ∷ x ∷ 1 ∷ 0 ∷ []) tells unknown 2
    ∷ u (1 ∷ 0 ∷ []) equal u (x ∷ 0 ∷ []) tells unknown 1
    ∷ s (x ∷ 0 ∷ []) equal s (0 ∷ 1 ∷ 0 ∷ 0 ∷ []) tells unknown 1
    ∷ s (1 ∷ 0 ∷ []) equal s (0 ∷ 1 ∷ 1 ∷ 0 ∷ []) tells mismatch 3
    ∷ u (1 ∷ 0 ∷ []) equal s (0 ∷ 1 ∷ 1 ∷ 0 ∷ []) tells mismatch 2
    ∷ u (1 ∷ 0 ∷ 0 ∷ 0 ∷ 0 ∷ 0 ∷ []) equal u (0 ∷ []) tells mismatch 5
    ∷ u (0 ∷ 1 ∷ []) equal f (1 ∷ []) tells mismatch 1
    ∷ f (x ∷ 0 ∷ []) equal u (0 ∷ 0 ∷ []) tells all_equal
    ∷ u [] equal u (1 ∷ 0 ∷ 0 ∷ []) tells mismatch 2
    ∷ u [] equal u [] tells all_equal
    ∷ u (1 ∷ x ∷ []) wildcard u (1 ∷ 1 ∷ []) tells unknown 0
    ∷ u (0 ∷ x ∷ []) wildcard u (1 ∷ 1 ∷ []) tells mismatch 1
    ∷ u (1 ∷ x ∷ 0 ∷ []) wildcard u (z ∷ z ∷ 1 ∷ []) tells mismatch 0
    ∷ u (x ∷ z ∷ 1 ∷ 0 ∷ []) wildcard u (1 ∷ x ∷ 1 ∷ x ∷ []) tells unknown 3
    ∷ u (x ∷ x ∷ []) wildcard u (z ∷ x ∷ []) tells all_equal
    ∷ u (1 ∷ 1 ∷ []) wildcard u (1 ∷ x ∷ []) tells all_equal
    ∷ f (x ∷ []) wildcard u (1 ∷ 1 ∷ 1 ∷ 1 ∷ []) tells unknown 0
    ∷ s (x ∷ []) wildcard s (1 ∷ x ∷ []) tells unknown 1
    ∷ u (x ∷ z ∷ []) wildcard u (1 ∷ 1 ∷ []) tells unknown 0
    ∷ numeric (operand.Real nan) (operand.Real nan) tells decision Zero Numeric
    ∷ numeric (operand.Real (of_bits binary64 0)) empty tells decision One Numeric
    ∷ numeric empty (operand.Real nan) tells decision Zero Numeric
    ∷ []

-- ---- by words

infixl 85 ◌inverts◌
abbrev ◌inverts◌ : Planes → Planes → Case Planes
given inverts said = record { given = given; said = said }

-- all 64 places of a word
abbrev ones : ℕ
ones = 2 ^ 64 - 1

-- each word of not, at widths 0, 1, 4, 64, 65 and 128
abbrev pub point_four_not : List (Case Planes)
point_four_not =
    inverted_planes 0 (lent (0 ∷ []) (0 ∷ [])) inverts lent (0 ∷ []) (0 ∷ [])
    ∷ inverted_planes 1 (lent (0 ∷ []) (0 ∷ [])) inverts lent (1 ∷ []) (0 ∷ [])
    ∷ inverted_planes 1 (lent (1 ∷ []) (0 ∷ [])) inverts lent (0 ∷ []) (0 ∷ [])
    ∷ inverted_planes 4 (lent (5 ∷ []) (3 ∷ [])) inverts lent (8 ∷ []) (3 ∷ [])
    ∷ inverted_planes 64 (lent (0 ∷ []) (0 ∷ [])) inverts lent (ones ∷ []) (0 ∷ [])
    ∷ inverted_planes 64 (lent (ones ∷ []) (ones ∷ [])) inverts lent (0 ∷ []) (ones ∷ [])
    ∷ inverted_planes 65 (lent (0 ∷ 0 ∷ []) (0 ∷ 0 ∷ [])) inverts lent (ones ∷ 1 ∷ []) (0 ∷ 0 ∷ [])
    ∷ inverted_planes 65 (lent (1 ∷ 1 ∷ []) (2 ∷ 0 ∷ [])) inverts lent ((ones - 3) ∷ 0 ∷ []) (2 ∷ 0 ∷ [])
    ∷ inverted_planes 65 (lent (0 ∷ 0 ∷ []) (0 ∷ 1 ∷ [])) inverts lent (ones ∷ 0 ∷ []) (0 ∷ 1 ∷ [])
    ∷ inverted_planes 128 (lent (0 ∷ 1 ∷ []) (0 ∷ 0 ∷ [])) inverts lent (ones ∷ (ones - 1) ∷ []) (0 ∷ 0 ∷ [])
    ∷ []

infixl 85 ◌counts◌
abbrev ◌counts◌ : Truth → Truth → Case Truth
given counts said = record { given = given; said = said }

-- truth by the words of planes of one or two words: 0, 1, x and z alone, beside each other, and in either word
abbrev pub point_four_truth : List (Case Truth)
point_four_truth =
    truth_by_words (lent (0 ∷ []) (0 ∷ [])) counts truth.False
    ∷ truth_by_words (lent (1 ∷ []) (0 ∷ [])) counts truth.True
    ∷ truth_by_words (lent (0 ∷ []) (1 ∷ [])) counts truth.Unknown
    ∷ truth_by_words (lent (1 ∷ []) (1 ∷ [])) counts truth.Unknown
    ∷ truth_by_words (lent (3 ∷ []) (1 ∷ [])) counts truth.True
    ∷ truth_by_words (lent (ones ∷ []) (ones ∷ [])) counts truth.Unknown
    ∷ truth_by_words (lent (0 ∷ 0 ∷ []) (0 ∷ 0 ∷ [])) counts truth.False
    ∷ truth_by_words (lent (0 ∷ 0 ∷ []) (1 ∷ 0 ∷ [])) counts truth.Unknown
    ∷ truth_by_words (lent (0 ∷ 0 ∷ []) (0 ∷ 1 ∷ [])) counts truth.Unknown
    ∷ truth_by_words (lent (0 ∷ 1 ∷ []) (1 ∷ 0 ∷ [])) counts truth.True
    ∷ truth_by_words (lent (1 ∷ 2 ∷ []) (1 ∷ 2 ∷ [])) counts truth.Unknown
    ∷ []

-- ---- an arm

infixl 85 ◌hands◌
abbrev ◌hands◌ : Part → Part → Case Part
given hands said = record { given = given; said = said }

-- words of the block b, from its offset of o bytes on
abbrev part : ℕ → ℕ → List ℕ → Part
part b o words = record { start = (b, o); words = words }

-- a slice of them that is lent
abbrev plane : ℕ → ℕ → List ℕ → Part
plane b o words = part_of (record { ref_ptr = (b, o); now = words })

-- the words that come back and where they lie: of planes of one length and of two, of empty ones, and of two that lie in one block
abbrev pub point_five : List (Case Part)
point_five =
    chosen_arm truth.True (plane 7 0 (1 ∷ 2 ∷ [])) (plane 9 0 (3 ∷ 4 ∷ [])) hands part 7 0 (1 ∷ 2 ∷ [])
    ∷ chosen_arm truth.False (plane 7 0 (1 ∷ 2 ∷ [])) (plane 9 0 (3 ∷ 4 ∷ [])) hands part 9 0 (3 ∷ 4 ∷ [])
    ∷ chosen_arm truth.Unknown (plane 7 0 (1 ∷ 2 ∷ [])) (plane 9 0 (3 ∷ 4 ∷ [])) hands part 7 0 []
    ∷ chosen_arm truth.True (plane 7 8 (1 ∷ [])) (plane 7 24 (2 ∷ 3 ∷ 4 ∷ [])) hands part 7 8 (1 ∷ [])
    ∷ chosen_arm truth.False (plane 7 8 (1 ∷ [])) (plane 7 24 (2 ∷ 3 ∷ 4 ∷ [])) hands part 7 24 (2 ∷ 3 ∷ 4 ∷ [])
    ∷ chosen_arm truth.Unknown (plane 7 8 (1 ∷ [])) (plane 7 24 (2 ∷ 3 ∷ 4 ∷ [])) hands part 7 8 []
    ∷ chosen_arm truth.True (plane 7 0 []) (plane 9 0 (5 ∷ [])) hands part 7 0 []
    ∷ chosen_arm truth.False (plane 7 0 (5 ∷ [])) (plane 9 0 []) hands part 9 0 []
    ∷ chosen_arm truth.Unknown (plane 7 0 []) (plane 9 0 (5 ∷ [])) hands part 7 0 []
    ∷ []
