-- A plane compared word by word: one law for each way through the loop.
use mathlib.Core.Path.{◌≡◌}
use mathlib.Core.Bool.{true, false}
use mathlib.Core.List.{List}
use Prim.Native.Nat.{ℕ, ◌+◌, ◌≤◌, ◌<◌}
use native.Mathlib.Numerals.{add-one}
use lib.ListN.{length, drop, get_or, drop_of_length-le}
use lib.Seq.{drop-cons}
use borrow.Author.Tests.{eq-eqb, ne_eqb}
use Rattle.agreement.specs.Holds.{holds_from}

module _ (plane words : List ℕ) (k : ℕ) where
  pub done : length plane ≤ k → holds_from k (drop k plane) words ≡ true
  unfolding holds_from
  done h = rw drop_of_length-le

  pub same : k < length plane → get_or plane k 0 ≡ get_or words k 0 → holds_from k (drop k plane) words ≡ holds_from (k + 1) (drop (k + 1) plane) words
  unfolding holds_from
  same h q = rw (add-one k, drop-cons plane k 0, eq-eqb _ _ q)

  pub other : k < length plane → (get_or plane k 0 ≡ get_or words k 0 → ⊥) → holds_from k (drop k plane) words ≡ false
  unfolding holds_from
  other h q = rw (drop-cons plane k 0, ne_eqb _ _ q)
