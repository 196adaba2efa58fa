-- The number that document 01, "Numbers for what is not done", and document 02 give each refusal.
use Rattle.std.specs.Prelude.{ℕ}
use Rattle.refusal.specs.declared.Refusal.{Refusal}
use Rattle.refusal.specs.declared.Refusal.TheVariants.{TooWide, PlaneLength, BitAboveWidth, EmptyFill, OutputLength, BadFormat, BadArms, NoSuchCell, StoreFull, NoRoom, BadStore, BadLiteral}

abbrev pub refusal_number : Refusal → ℕ
refusal_number TooWide = 1
refusal_number PlaneLength = 2
refusal_number BitAboveWidth = 3
refusal_number EmptyFill = 4
refusal_number OutputLength = 5
refusal_number BadFormat = 6
refusal_number BadArms = 7
refusal_number NoSuchCell = 11
refusal_number StoreFull = 12
refusal_number NoRoom = 13
refusal_number BadStore = 14
refusal_number BadLiteral = 15
