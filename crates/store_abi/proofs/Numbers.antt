-- The numbers that a call on a store answers.
use Prim.Native.Nat.{◌<◌}
use lib.Dec.{lit<}
use Rattle.refusal.specs.declared.Refusal.{Refusal}
use Rattle.refusal.specs.declared.Refusal.TheVariants.{TooWide, PlaneLength, BitAboveWidth, EmptyFill, OutputLength, BadFormat, BadArms, NoSuchCell, StoreFull, NoRoom, BadStore, BadLiteral}
use Rattle.refusal.specs.Refusals.{refusal_number}
use Rattle.store_abi.specs.Settled.{no_such_op}

-- no refusal has the number of a code that is no op's: each one's number is below it
pub below-no-such-op : (r : Refusal) → refusal_number r < no_such_op
below-no-such-op TooWide = lit< tt
below-no-such-op PlaneLength = lit< tt
below-no-such-op BitAboveWidth = lit< tt
below-no-such-op EmptyFill = lit< tt
below-no-such-op OutputLength = lit< tt
below-no-such-op BadFormat = lit< tt
below-no-such-op BadArms = lit< tt
below-no-such-op NoSuchCell = lit< tt
below-no-such-op StoreFull = lit< tt
below-no-such-op NoRoom = lit< tt
below-no-such-op BadStore = lit< tt
below-no-such-op BadLiteral = lit< tt
