-- `execute::unchecked::copy_words`: the front that is copied is all of the plane.
use mathlib.Core.Path.{ap₂, ◌∙◌}
use mathlib.Core.List.{◌++◌, append-nil}
use native.Mathlib.Omega.{arith}
use lib.ListN.{length}
use lib.Seq.{take_all, drop-length}
use Rattle.execute.proofs.unchecked.copy_words.Goals as goal

pub returns : goal.returns
returns c =
    c.copy_front.ensures
    ∙ ap₂ ◌++◌ (take_all (length c.args.to.now) c.args.from.now (omega (arith, c.requires))) (drop-length c.args.to.now)
    ∙ append-nil c.args.from.now
