-- `literal_read::only_digits`: what the library says of the test of each character.
use mathlib.Core.Path.{◌∙◌, sym}
use borrow.Author.Rules.{rules}
use borrow.Author.Tests.{tests}
use lib.ListN.{drop}
use Rattle.std.proofs.lemmas.Iterator.{YieldsList-from_slice}
use Rattle.std.proofs.lemmas.Iterator.Adapters.{YieldsList-from_skip}
use Rattle.std.proofs.lemmas.Iterator.Search.{all_from_yields_List}
use Rattle.literal_read.specs.Answers.{follows}
use Rattle.literal_read.proofs.Runs.{each-list}
use Rattle.literal_read.proofs.only_digits.Goals as goal

pub returns : goal.returns
returns c =
    let a = c.args in
    let p = follows a.below a.unknown in
    all_from_yields_List p _ _ c.all.result c.all.ensures.ran (YieldsList-from_skip a.from (YieldsList-from_slice a.s.now cc) cc) (λ x b q k. search (rules, tests))
    ∙ sym (each-list p (drop a.from a.s.now))
