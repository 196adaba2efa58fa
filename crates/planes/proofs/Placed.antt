-- A bit that is set is a word of one bit put in, as a name for a tactic's list.
use Rattle.bits.proofs.Splice.{set-spliced}

pub ruleset placed = (set-spliced)
