-- `lanes::or_lanes`: its formulas, read off the code, pass the test over the sixteen pairs of bits.
use borrow.Author.Rules.{rules}
use Rattle.bit.specs.Rules.{or_bit}
use Rattle.lanes.proofs.Places.{formula, both}
use Rattle.lanes.proofs.or_lanes.Goals as goal

pub returns : goal.returns
returns c =
    both or_bit c.args.a c.args.b (search formula depth 9) (search formula depth 9) tt tt (search rules) (search rules) (search rules) (search rules)
