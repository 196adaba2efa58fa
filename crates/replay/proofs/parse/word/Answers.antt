-- The characters at the end.
use Rattle.std.proofs.Common.{◌≡◌, ℕ, ◌+◌, ◌-◌, ◌*◌, min, List, length, ◌∙◌, arith}
use Rattle.replay.proofs.Words.{both_words}
use Rattle.replay.proofs.parse.word.Goals as goal

pub returns : goal.returns
returns c =
    let t : List ℕ = c.args.bits.now in
    let n : ℕ = c.min-n.result in
    let e : n ≡ min 64 (length t - 0 * 64) = omega arith in
    let f : length t - n + n ≡ length t - 0 * 64 = omega arith in
    c.read_word.ensures ∙ both_words t 0 n (length t - n) e f
