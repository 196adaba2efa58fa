-- `compare_words::unchecked::lane_marks`: by the comparison; each formula passes the test over the sixteen pairs of bits.
use Rattle.words.proofs.Lanes.{Lane}
use Rattle.words.proofs.Lanes.Lane.{av, au, bv, bu, none, neg, and, or, xor}
use Rattle.compare_words.specs.declared.Comparison.TheVariants.{Equal, CaseEqual, CasezEqual, CasexEqual, WildcardEqual}
use Rattle.compare_words.proofs.Words.{both}
use borrow.Author.Rules.{rules}
use Rattle.compare_words.proofs.unchecked.lane_marks.Goals as goal

abbrev differ : Lane
differ = and (xor av bv) (neg (or au bu))

abbrev codes : Lane
codes = or (xor av bv) (xor au bu)

pub returns-in-Equal : goal.returns-in-Equal
returns-in-Equal c =
    let a = c.args in
    rw c.in-Equal.is (both Equal differ (or au bu) tt tt a.a a.b (search rules) (search rules) (search rules) (search rules))

pub returns-in-CaseEqual : goal.returns-in-CaseEqual
returns-in-CaseEqual c =
    let a = c.args in
    rw c.in-CaseEqual.is (both CaseEqual codes none tt tt a.a a.b (search rules) (search rules) (search rules) (search rules))

pub returns-in-CasezEqual : goal.returns-in-CasezEqual
returns-in-CasezEqual c =
    let a = c.args in
    rw c.in-CasezEqual.is (both CasezEqual (and codes (neg (or (and av au) (and bv bu)))) none tt tt a.a a.b (search rules) (search rules) (search rules) (search rules))

pub returns-in-CasexEqual : goal.returns-in-CasexEqual
returns-in-CasexEqual c =
    let a = c.args in
    rw c.in-CasexEqual.is (both CasexEqual differ none tt tt a.a a.b (search rules) (search rules) (search rules) (search rules))

pub returns-in-WildcardEqual : goal.returns-in-WildcardEqual
returns-in-WildcardEqual c =
    let a = c.args in
    rw c.in-WildcardEqual.is (both WildcardEqual differ (and au (neg bu)) tt tt a.a a.b (search rules) (search rules) (search rules) (search rules))
