-- Document 02, point 5: the arm that a condition picks (IEEE 1800-2017, 11.4.11), as a part of the caller's own plane.
use Rattle.std.specs.Prelude.{List, ℕ, take}
use Rattle.std.specs.Borrow.{Bor}
use Rattle.reduce_words.specs.declared.Truth.{Truth}
use Rattle.reduce_words.specs.declared.Truth.TheVariants.{False, True, Unknown}

-- words that lie one behind the other in memory: where the first of them lies, a block and an offset in bytes, and what they are
pub record Part : Type 0 where
  pub start : ℕ × ℕ
  pub words : List ℕ

-- what a lent slice is a reference to
abbrev pub part_of : Bor (List ℕ) → Part
part_of s = record { start = s.ref_ptr; words = s.now }

-- the first n words of a part, where they lie
abbrev pub beginning : ℕ → Part → Part
beginning n p = record { start = p.start; words = take n p.words }

-- true gives all of the first, false all of the second, unknown the empty beginning of the first
abbrev pub chosen_arm : Truth → Part → Part → Part
chosen_arm True first second = first
chosen_arm False first second = second
chosen_arm Unknown first second = beginning 0 first
