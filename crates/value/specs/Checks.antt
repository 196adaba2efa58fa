-- A vector with its header, the checks of planes, of an operand and of output planes, in document 01's numbers and order ("Numbers for what is
-- not done"), and how a result is written.
use Rattle.std.specs.Prelude.{false, ◌&&◌, cond, List, ℕ, eqb, ltb, length}
use Rattle.refusal.specs.Outcome.{Answer, Outcome, outcome, after, or_refuse}
use Rattle.refusal.specs.Outcome.Answer.{given, refused}
use Rattle.bit.specs.declared.LogicBit.{LogicBit}
use Rattle.words.specs.Planes.{word_count, vector_of, planes_of, clear_above, Planes}
use Rattle.value.specs.declared.Header.{Header}
use Rattle.value.specs.declared.Operand.{Operand}
use Rattle.value.specs.declared.Operand.TheVariants as operand

-- unsigned, and no fill
abbrev pub plain : ℕ → Header
plain w = record { width = w; is_signed = false; is_fill = false }

-- a header and the bits of its width
pub record Vector : Type 0 where
  pub header : Header
  pub bits : List LogicBit

abbrev pub vector : Header → Planes → Vector
vector h p = record { header = h; bits = vector_of h.width p }

-- the widest vector ("Header and operand")
abbrev pub max_width : ℕ
max_width = 1048576

-- both planes have exactly n words, or the refusal
abbrev pub exactly : ℕ → Planes → ℕ → Answer Unit
exactly n p refusal = cond (eqb (length p.value) n && eqb (length p.unknown) n) (given tt) (refused refusal)

-- 1 the width is above 1,048,576; 2 a plane is not exactly its word count
unfoldable pub check_lengths : ℕ → Planes → Answer Unit
check_lengths w p = cond (ltb max_width w) (refused 1) (exactly (word_count w) p 2)

-- 1, 2, then 3 a bit is set at or above the width
unfoldable pub check_planes : ℕ → Planes → Answer Unit
check_planes w p =
    after (check_lengths w p) (cond (clear_above w p.value && clear_above w p.unknown) (given tt) (refused 3))

-- 1, 2, 3, then 4 a fill of width 0
unfoldable pub check_vector : Header → Planes → Answer Unit
check_vector h p = after (check_planes h.width p) (cond (h.is_fill && eqb h.width 0) (refused 4) (given tt))

-- 1 to 4 for the left operand, then for the right
abbrev pub check_pair : Header → Planes → Header → Planes → Answer Unit
check_pair a p b q = after (check_vector a p) (check_vector b q)

-- a float comes with empty planes: 2
unfoldable pub check_operand : Operand → Planes → Answer Unit
check_operand (operand.Vector h) p = check_vector h p
check_operand (operand.Real x) p = exactly 0 p 2

-- 5 an output plane is not exactly the result's word count
unfoldable pub check_output : ℕ → Planes → Answer Unit
check_output w p = exactly (word_count w) p 5

-- a result vector, written whole into the planes lent for it, or 5
abbrev pub written : Vector → Planes → Outcome Header Planes
written r out = or_refuse (check_output r.header.width out) out (outcome (given r.header) (planes_of r.bits))
