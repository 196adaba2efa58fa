-- What a call answers, and what it leaves behind. Document 01, "Numbers for what is not done": a refusal returns its number only, and no lent
-- word or store field changes.
use Rattle.std.specs.Prelude.{ℕ, Result, Ok, Err}
use Rattle.refusal.specs.declared.Refusal.{Refusal}
use Rattle.refusal.specs.Refusals.{refusal_number}

-- a result, or the number of a refusal
pub data Answer (A : Type 0) : Type 0 where
  given : A → Answer A
  refused : ℕ → Answer A

-- the answer, and all that the call can change as the call leaves it
pub record Outcome (A S : Type 0) : Type 0 where
  pub answer : Answer A
  pub left : S

module _ {A : Type 0} where
  -- a result of the code in the paper's numbers
  abbrev pub answer : Result A Refusal → Answer A
  answer (Ok a) = given a
  answer (Err r) = refused (refusal_number r)

module _ {A : Type 0} where
  -- the first check that refuses decides; where none does, the answer is a
  abbrev pub after : Answer Unit → Answer A → Answer A
  after (given u) a = a
  after (refused n) a = refused n

module _ {A S : Type 0} where
  abbrev pub outcome : Answer A → S → Outcome A S
  outcome a s = record { answer = a; left = s }

  -- a refusal leaves what it found
  abbrev pub refuse : ℕ → S → Outcome A S
  refuse n s = outcome (refused n) s

  -- a refusal of the check, which leaves s as it is, or the outcome o
  abbrev pub or_refuse : Answer Unit → S → Outcome A S → Outcome A S
  or_refuse (given u) s o = o
  or_refuse (refused n) s o = refuse n s
