-- `literal_words::unchecked::times_plus`: the words below the index are those of the new number, those from it on are as they were.
use mathlib.Core.Path.{◌≡◌}
use mathlib.Core.List.{List}
use Prim.Native.Nat.{ℕ, ◌+◌, ◌*◌, ◌^◌, ◌≤◌, ◌<◌}
use lib.ListN.{length, get_or}
use Rattle.words.specs.Vector.{FilledTo}
use Rattle.literal_words.specs.Passes.{words_of}
use Rattle.literal_words.proofs.Passes.{word, carried}
use Rattle.literal_words.proofs.unchecked.times_plus.Given as goal

pub record Passed (f a : ℕ) (p q : List ℕ) (carry k : ℕ) : Type 0 where
  pub small : carry < 2 ^ 32
  pub kept : (i : ℕ) → k ≤ i → get_or q i 0 ≡ get_or p i 0
  pub taken : (n : ℕ) → p ≡ words_of (length p) n → (carry ≡ carried f a n k) × FilledTo 0 (word (n * f + a)) (length p) k q

abbrev pub invariant-loop-x : goal.invariant-loop-x
invariant-loop-x l = Passed l.factor l.add l.initial.plane l.plane l.carry l.x-index
