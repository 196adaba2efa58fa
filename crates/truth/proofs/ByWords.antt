-- `is_nonzero` of a vector by words.
use mathlib.Core.Path.{◌≡◌, refl, sym, ap}
use Rattle.refusal.specs.Outcome.{Answer, after}
use Rattle.refusal.specs.Outcome.Answer.{given, refused}
use Rattle.words.specs.Planes.{vector_of}
use Rattle.value.specs.Checks.{check_vector, check_operand}
use Rattle.value.proofs.Checks.{vector_accepted}
use Rattle.reduce_words.specs.Fold.{truth_of, truth_by_words}
use Rattle.reduce_words.proofs.ByWords as words
use Rattle.truth.specs.Truth.{TruthByWords}

pub truth-by-words : TruthByWords
unfolding check_operand
truth-by-words h p f = go (check_vector h p) refl
  where
    go : (c : Answer Unit) → check_vector h p ≡ c → after c (given (truth_of (vector_of h.width p))) ≡ after c (given (truth_by_words p))
    go (refused n) e = refl
    go (given t) e =
        let s = vector_accepted h p e in
        ap given
        (sym (words.truth-by-words h.width p.value p.unknown
        (record { value-plane = s.planes.value-plane; unknown-plane = s.planes.unknown-plane; words = f })))
