-- `store::input_cell`: 14, then what is taken.
use mathlib.Core.Path.{sym, ap, ◌∙◌}
use native.Mathlib.Omega.{arith}
use Rattle.refusal.specs.Outcome.{answer}
use Rattle.cells.proofs.Agreed.{next-within}
use Rattle.store.specs.Store.{state_by}
use Rattle.store.proofs.Held.{state-agrees}
use Rattle.store.proofs.Taken.{told-accepted}
use Rattle.store.proofs.input_cell.Goals as goal

pub take_input-requires : goal.take_input-requires
take_input-requires c =
    let s = state_by c.args.s.now c.args.av.now c.args.au.now in
    let found = told-accepted s c.in_ok-next.next (sym c.check_cells.ensures ∙ ap answer c.in_ok-next.was) in
    let within = next-within s.arenas s.store.cells s.store.count found.0 in
    (omega (arith, within, found.1), (state-agrees s found.0).level)
