-- Document 02, point 3: which rule decides an equality (IEEE 1800-2017, 11.4.5) or a wildcard equality (11.4.6) of two vectors. The bits of a
-- place are those that the comparison reads, at the larger width.
use Rattle.std.specs.Prelude.{◌≡◌, Bool, true, false, not, ◌&&◌, cond, ℕ, ◌<◌}
use Rattle.bit.specs.declared.LogicBit.{LogicBit}
use Rattle.bit.specs.declared.LogicBit.TheVariants.{Zero, One, X}
use Rattle.bit.specs.Rules.{same, known}
use Rattle.value.specs.Checks.{Vector}
use Rattle.reduce_words.specs.Fold.{any_of}
use Rattle.extension.specs.Extension.{larger_width, operand_at}
use Rattle.compare_words.specs.Compared.{on_pair, places, lowest}
use Rattle.decide.specs.declared.Rule.{Rule}
use Rattle.decide.specs.declared.Rule.TheVariants.{KnownMismatch, Unknown, AllEqual, Numeric}

-- ---- one place

-- an equality compares every place
abbrev pub every_place : LogicBit → LogicBit → Bool
every_place a b = true

-- a wildcard equality compares the places whose right bit is known
abbrev pub right_known : LogicBit → LogicBit → Bool
right_known a b = known b

module _ (compares : LogicBit → LogicBit → Bool) where
  -- a compared place that holds two known bits, which differ
  abbrev pub differs : LogicBit → LogicBit → Bool
  differs a b = compares a b && known a && known b && not (same a b)

  -- a compared place that holds an unknown bit
  abbrev pub holds_unknown : LogicBit → LogicBit → Bool
  holds_unknown a b = compares a b && not (known a && known b)

-- ---- the rule that is told

-- a known mismatch and its lowest place, else unknown and its lowest place, else all equal
abbrev pub rule_of : (LogicBit → LogicBit → Bool) → Vector → Vector → Rule
rule_of compares a b =
    cond (any_of (on_pair (differs compares)) (places a b)) (KnownMismatch (lowest (on_pair (differs compares)) (places a b)))
    (cond (any_of (on_pair (holds_unknown compares)) (places a b)) (Unknown (lowest (on_pair (holds_unknown compares)) (places a b))) AllEqual)

-- ---- what it is for a rule to fit two vectors

module _ (a b : Vector) where
  -- the bits of place i pass a test
  abbrev pub passes : (LogicBit → LogicBit → Bool) → ℕ → Bool
  passes t i = t (operand_at a b.header i) (operand_at b a.header i)

  -- no place passes
  abbrev pub NoPlace : (LogicBit → LogicBit → Bool) → Type 0
  NoPlace t = (i : ℕ) → i < larger_width a.header b.header → passes t i ≡ false

  -- place i passes, and no lower one does
  pub record LowestPlace (t : LogicBit → LogicBit → Bool) (i : ℕ) : Type 0 where
    pub inside : i < larger_width a.header b.header
    pub holds : passes t i ≡ true
    pub none_lower : (j : ℕ) → j < i → passes t j ≡ false

  -- each place that is compared holds the same known bit on both sides
  abbrev pub EachEqual : (LogicBit → LogicBit → Bool) → Type 0
  EachEqual compares =
      (i : ℕ) → i < larger_width a.header b.header → passes compares i ≡ true → passes (λ x y. known x && same x y) i ≡ true

abbrev pub Fits : (LogicBit → LogicBit → Bool) → Vector → Vector → Rule → Type 0
Fits compares a b (KnownMismatch i) = LowestPlace a b (differs compares) i
Fits compares a b (Unknown i) = NoPlace a b (differs compares) × LowestPlace a b (holds_unknown compares) i
Fits compares a b AllEqual = EachEqual a b compares
Fits compares a b Numeric = ⊥

-- ---- the laws

-- exactly one rule fits, r
pub record Only (fits : Rule → Type 0) (r : Rule) : Type 0 where
  pub fitting : fits r
  pub alone : (s : Rule) → fits s → s ≡ r

-- whichever places a comparison compares, exactly the rule that is told fits
abbrev pub OneFits : Type 0
OneFits = (compares : LogicBit → LogicBit → Bool) (a b : Vector) → Only (Fits compares a b) (rule_of compares a b)

-- the bit that goes with a rule: 0, x or 1; where an operand is a real, 0 or 1
abbrev pub GoesWith : Rule → LogicBit → Type 0
GoesWith (KnownMismatch i) b = b ≡ Zero
GoesWith (Unknown i) b = b ≡ X
GoesWith AllEqual b = b ≡ One
GoesWith Numeric b = known b ≡ true
