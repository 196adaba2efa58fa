-- `lines::unchecked::put_number`: the number has one digit less in each call.
use Rattle.lines.proofs.unchecked.+put_number.Given as goal

abbrev pub decreases-put_number : goal.decreases-put_number
decreases-put_number l = l.n
