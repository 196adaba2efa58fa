-- Document 01, "Step list": the line op=, which gives the op by its name, and how large the numbers of a step may be.
use Rattle.std.specs.Prelude.{ℕ, cond, List, map, ltb, get_or}
use Rattle.text.specs.Read.{bytes, Got, next, key, one_of}
use Rattle.text.specs.Read.Got.{found}
use Rattle.ops.specs.declared.Op.{Op}
use Rattle.ops.specs.declared.Op.TheVariants.{And}
use Rattle.ops.specs.Ops.{uses}
use Rattle.ops.specs.Names.{all_ops, op_name}

-- ---- a line of a key and one of several names

-- the name's number, from 0
unfoldable pub name_line : List ℕ → List (List ℕ) → List ℕ → Got ℕ
name_line k names t = next (key k t) (λ x. one_of names 0)

-- the value of l that has the name; d is never given, since a name's number is below the length of l
unfoldable pub choice_line : {A : Type 0} → List ℕ → (A → List ℕ) → List A → A → List ℕ → Got A
choice_line k name l d t = next (name_line k (map name l) t) (λ n. found (get_or l n d))

-- ---- the line op=

abbrev pub op_key : List ℕ
op_key = bytes "op="

abbrev pub op_text : Op → List ℕ
op_text op = bytes (op_name op)

unfoldable pub op_line : List ℕ → Got Op
op_line = choice_line op_key op_text all_ops And

-- ---- the numbers of a step

-- the largest number that the i-th of a, b and c may be, from 0: an unused one is 0
abbrev pub largest : Op → ℕ → ℕ
largest op i = cond (ltb i (uses op)) 4294967295 0
