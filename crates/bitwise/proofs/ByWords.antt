-- `bitwise_not` by words.
use mathlib.Core.Path.{sym, ap}
use Rattle.refusal.specs.Outcome.{outcome, or_refuse}
use Rattle.refusal.specs.Outcome.Answer.{given}
use Rattle.words.specs.Planes.{Planes}
use Rattle.value.specs.Checks.{check_vector, check_output}
use Rattle.bitwise_words.specs.Joined.{not_header}
use Rattle.bitwise_words.proofs.Inverted.{by-words}
use Rattle.bitwise.specs.Bitwise.{NotByWords}

pub not-by-words : NotByWords
not-by-words a p out f =
    ap (λ (q : Planes). or_refuse (check_vector a p) out (or_refuse (check_output a.width out) out (outcome (given (not_header a)) q)))
    (sym (by-words a.width p.value p.unknown f))
