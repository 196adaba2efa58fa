-- `store::fields_of`: all places of each array are written.
use mathlib.Core.Path.{◌≡◌}
use Prim.Native.Nat.{ℕ, ◌≤◌}
use native.Mathlib.Omega.{arith}
use lib.ListN.{length}
use Rattle.words.proofs.Fill.{map-done}
use Rattle.store.specs.declared.Store.{Store}
use Rattle.cells.specs.declared.Cell.{Cell}
use Rattle.cells.specs.declared.Fields.{Fields}
use Rattle.cells.specs.Places.{fields, fields_of, no_cell}
use Rattle.store.proofs.fields_of.Invariants.{Copied}
use Rattle.store.proofs.fields_of.Goals as goal

copied : (s : Store) (k : ℕ) (f : Fields) → length s.cells ≡ 320 → Copied s k f → 320 ≤ k → f ≡ fields_of s.cells
copied s k f e h m =
    let a = map-done (λ (c : Cell). c.start) 320 s.cells no_cell e h.starts m in
    let b = map-done (λ (c : Cell). c.header.width) 320 s.cells no_cell e h.widths m in
    let g = map-done (λ (c : Cell). c.header.is_signed) 320 s.cells no_cell e h.signs m in
    let d = map-done (λ (c : Cell). c.header.is_fill) 320 s.cells no_cell e h.fills m in
    λ i. fields (a i) (b i) (g i) (d i)

pub returns : goal.returns
returns c =
    copied c.args.s c.loop-i.i c.loop-i.f (omega (arith, c.well_formed)) c.loop-i.invariant c.loop-i-test.false
