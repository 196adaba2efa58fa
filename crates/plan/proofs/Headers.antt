-- What the machine reads of a step's operands are the headers of the cells that it names.
--     arms-named, header-named     an operand that the op does not use does not matter
--     header_read                  the header at a place below n, among the first n
use mathlib.Core.Path.{◌≡◌, ap}
use mathlib.Core.Bool.{Bool}
use mathlib.Core.List.{List, []}
use Prim.Native.Nat.{ℕ, ◌<◌}
use Rattle.words.specs.Vector.{tabulate}
use Rattle.words.proofs.Planes.{get_d_tabulate}
use Rattle.value.specs.declared.Header.{Header}
use Rattle.value.specs.Checks.{plain, Vector}
use Rattle.ops.specs.declared.Step.{Step}
use Rattle.ops.specs.Ops.{family_of, arms_refused, op_header}
use Rattle.machine.specs.Machine.{header_at, step_header}
use Rattle.cells.specs.Places.{header_of}
use Rattle.plan.specs.Planned.{named}
use Rattle.plan.proofs.Named.{unread}

module _ (hs : List Header) where
  -- a header as a vector of no bits
  abbrev bare : ℕ → Vector
  bare i = record { header = header_at hs i; bits = [] }

  pub arms-named : (step : Step) → arms_refused step.op (header_at hs step.b) (header_at hs step.c)
      ≡ arms_refused step.op (header_at hs (named step).b) (header_at hs (named step).c)
  arms-named step = (unread bare step.a step.b step.c 0 (family_of step.op)).0

  pub header-named : (step : Step) → step_header hs step
      ≡ op_header step.op (header_at hs (named step).a) (header_at hs (named step).b) (header_at hs (named step).c)
  header-named step = ap (λ (v : Vector). v.header) (unread bare step.a step.b step.c 0 (family_of step.op)).1

pub header_read : (w : List ℕ) (s f : List Bool) (n i : ℕ) → i < n → header_at (tabulate n (header_of w s f)) i ≡ header_of w s f i
header_read w s f n i h = get_d_tabulate n (header_of w s f) i (plain 0) h
