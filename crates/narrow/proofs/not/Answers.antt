-- `narrow::not`: the lanes of one word, cut off at the width, by the law of all words.
use mathlib.Core.Path.{◌≡◌, ap, ◌∙◌}
use mathlib.Core.List.{[], ◌∷◌}
use Prim.Native.Nat.{ℕ, ◌-◌, ◌*◌, ◌^◌, min}
use native.Mathlib.Omega.{arith}
use Rattle.words.specs.Planes.{width_mask}
use Rattle.lanes.specs.Lanes.{not_word}
use Rattle.bitwise_words.proofs.Inverted.{by-words}
use Rattle.narrow.specs.Narrow.{single}
use Rattle.narrow.proofs.Singles.{words64}
use Rattle.narrow.proofs.Operators.{inverted-word}
use borrow.Author.Rules.{rules}
use Rattle.narrow.proofs.not.Goals as goal

pub returns : goal.returns
returns c =
    let a = c.args in
    let n : min 64 a.width ≡ min 64 (a.width - 0 * 64) = omega arith in
    let e : c.not_lanes.result ≡ not_word a.a (width_mask a.width 0) =
    c.not_lanes.ensures ∙ ap (not_word a.a) (c.ones.ensures ∙ ap (λ (n : ℕ). 2 ^ n - 1) (c.least.ensures ∙ n)) in
    let f = words64 a.a (search rules) (search rules) in
    record { value = e; result_value = ap single e ∙ inverted-word a.width a.a ∙ by-words (min 64 a.width) (a.a.value ∷ []) (a.a.unknown ∷ []) f }
