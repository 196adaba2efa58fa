-- `steplist::read_steps`: what is left to read, behind the steps that were read, reads as all of them do.
use mathlib.Core.Path.{◌≡◌}
use lib.ListN.{length, drop}
use Rattle.text.specs.Read.{many}
use Rattle.steplist.specs.Listing.{step}
use Rattle.steplist.proofs.Parts.{left}
use Rattle.steplist.proofs.read_steps.Given as goal

abbrev pub invariant-loop-k : goal.invariant-loop-k
invariant-loop-k l =
    (length l.steps ≡ 256) × (many step l.n (drop l.at l.s) ≡ left step (λ xs. xs) l.steps l.n l.k (drop l.next l.s))
