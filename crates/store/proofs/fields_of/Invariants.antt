-- `store::fields_of`: the first i places of each array are written.
use Prim.Native.Nat.{ℕ}
use mathlib.Core.Bool.{false}
use lib.ListN.{get_or}
use Rattle.words.specs.Vector.{FilledTo}
use Rattle.store.specs.declared.Store.{Store}
use Rattle.cells.specs.declared.Cell.{Cell}
use Rattle.cells.specs.declared.Fields.{Fields}
use Rattle.cells.specs.Places.{no_cell}
use Rattle.store.proofs.fields_of.Given as goal

abbrev cell : Store → ℕ → Cell
cell s i = get_or s.cells i no_cell

-- the first k places of f are those of the store's cells
pub record Copied (s : Store) (k : ℕ) (f : Fields) : Type 0 where
  pub starts : FilledTo 0 (λ i. (cell s i).start) 320 k f.starts
  pub widths : FilledTo 0 (λ i. (cell s i).header.width) 320 k f.widths
  pub signs : FilledTo false (λ i. (cell s i).header.is_signed) 320 k f.signs
  pub fills : FilledTo false (λ i. (cell s i).header.is_fill) 320 k f.fills

abbrev pub invariant-loop-i : goal.invariant-loop-i
invariant-loop-i l = Copied l.fn.s l.i l.f
