-- `steplist::read_inputs`: what is left to read, behind the inputs that were read, reads as all of them do.
use mathlib.Core.Path.{◌≡◌}
use mathlib.Core.List.{map}
use lib.ListN.{length, drop}
use Rattle.text.specs.Read.{many}
use Rattle.steplist.specs.Listing.{input}
use Rattle.steplist.specs.Answers.{input_in}
use Rattle.steplist.proofs.Parts.{left}
use Rattle.steplist.proofs.read_inputs.Given as goal

abbrev pub invariant-loop-k : goal.invariant-loop-k
invariant-loop-k l =
    (length l.inputs ≡ 64) × (many input l.n (drop l.at l.s) ≡ left input (map (input_in l.s)) l.inputs l.n l.k (drop l.next l.s))
