-- By the place of the first such byte.
use Rattle.std.proofs.Common.{◌∙◌}
use Rattle.replay.proofs.Texts.{has_any}
use Rattle.replay.proofs.parse.has.Goals as goal

pub returns : goal.returns
returns c = c.contains.ensures.value ∙ has_any c.args.byte c.args.s.now
