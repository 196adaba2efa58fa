-- What a call on a store gives as it crosses to C: an answer as numbers, and the store's cells (document 01, "Cell store") as four lists, one for the
-- start words and one for each part of a header.
use Rattle.std.specs.Prelude.{ℕ}
use Rattle.refusal.specs.Outcome.{Answer}
use Rattle.refusal.specs.Outcome.Answer.{given, refused}
use Rattle.cells.specs.declared.Fields.{Fields}
use Rattle.cells.specs.Places.{fields_of}
use Rattle.store.specs.declared.Store.{Store}
use Rattle.store_abi.specs.declared.CellResult.{CellResult}

-- what a call answers whose code is no op's: it is no refusal's number
abbrev pub no_such_op : ℕ
no_such_op = 255

-- the answer of a call that adds a cell: 0 and the new cell's number; or the refusal's number and 0
abbrev pub coded_cell : Answer ℕ → CellResult
coded_cell (given n) = record { refusal = 0; cell = n }
coded_cell (refused n) = record { refusal = n; cell = 0 }

-- a result in numbers, and the fields as the call leaves them
pub record Settled (R : Type 0) : Type 0 where
  pub result : R
  pub fields : Fields

module _ {R : Type 0} where
  abbrev pub settled : R → Fields → Settled R
  settled r f = record { result = r; fields = f }

-- the answer with the fields of the store; or the refusal with the fields as they were
abbrev pub settled_by : Answer ℕ → Store → Fields → Settled CellResult
settled_by (given n) s f = settled (coded_cell (given n)) (fields_of s.cells)
settled_by (refused n) s f = settled (coded_cell (refused n)) f

-- the result and the fields, and all else that is lent as the call leaves it
pub record Crossed (R L : Type 0) : Type 0 where
  pub settled : Settled R
  pub left : L

module _ {R L : Type 0} where
  abbrev pub crossed : Settled R → L → Crossed R L
  crossed s p = record { settled = s; left = p }
