-- Document 01, "Result vector", and document 02, points 2 and 4: and, or, xor and merge of two vectors, not of one (IEEE 1800-2017, 11.4.8 and
-- 11.4.11).
use Rattle.std.specs.Prelude.{◌≡◌}
use Rattle.refusal.specs.Outcome.{Outcome, outcome, or_refuse}
use Rattle.refusal.specs.Outcome.Answer.{given}
use Rattle.words.specs.Planes.{Planes, Words64}
use Rattle.value.specs.declared.Header.{Header}
use Rattle.value.specs.Checks.{vector, check_vector, check_pair, check_output, written}
use Rattle.lanes.specs.declared.Bitwise.{Bitwise}
use Rattle.bitwise_words.specs.Joined.{joined, inverted, inverted_planes, result_header, not_header}

-- `bitwise_and`, `bitwise_or`, `bitwise_xor`, `merge_unknown`: 1 to 4 for the left operand, then for the right, then 5
abbrev pub join_vectors : Bitwise → Header → Planes → Header → Planes → Planes → Outcome Header Planes
join_vectors op a p b q out =
    or_refuse (check_pair a p b q) out
    (written (record { header = result_header op a b; bits = joined op (vector a p) (vector b q) }) out)

-- `bitwise_not`
abbrev pub bitwise_not : Header → Planes → Planes → Outcome Header Planes
bitwise_not a p out =
    or_refuse (check_vector a p) out (written (record { header = not_header a; bits = inverted (vector a p).bits }) out)

-- the same by words (document 02, point 4): each word that is written is made of the operand's same word and the width
abbrev pub not_by_words : Header → Planes → Planes → Outcome Header Planes
not_by_words a p out =
    or_refuse (check_vector a p) out
    (or_refuse (check_output a.width out) out (outcome (given (not_header a)) (inverted_planes a.width p)))

-- stated of every call, since the words of what is lent have 64 bits
abbrev pub NotByWords : Type 0
NotByWords = (a : Header) (p out : Planes) → Words64 p → bitwise_not a p out ≡ not_by_words a p out
