-- `literal_words::unchecked::read_chunk`: what is read is a chunk, and the first turn is always made.
use mathlib.Core.Path.{◌≡◌}
use mathlib.Core.Bool.{true}
use mathlib.Core.List.{List}
use Prim.Native.Nat.{ℕ, ◌-◌, ◌^◌, ◌≤◌, ◌<◌}
use lib.ListN.{length, drop}
use Rattle.literal_words.specs.Passes.{value_number, unknown_number, readable, Goes}
use Rattle.literal_words.proofs.unchecked.read_chunk.Given as goal

pub record Read (r : ℕ) (s : List ℕ) (from v u p i : ℕ) : Type 0 where
  pub begun : from ≤ i
  pub first : from ≡ i → p ≡ 1
  pub small : (p ≤ 2 ^ 32) × (v < p) × (u < p)
  pub rest : readable r (drop i s) ≡ true
  pub to_value : Goes r (value_number r) p v (drop from s) (drop i s)
  pub to_unknown : Goes r (unknown_number r) p u (drop from s) (drop i s)

abbrev pub invariant-loop-i : goal.invariant-loop-i
invariant-loop-i l = Read l.r l.s l.from l.value l.unknown l.power l.i

abbrev pub decreases-loop-i : goal.decreases-loop-i
decreases-loop-i l = length l.s - l.i
