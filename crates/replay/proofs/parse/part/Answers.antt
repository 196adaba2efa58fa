-- The parts are those of the split.
use Rattle.std.proofs.Common.{◌≡◌, ℕ, List, [], Option, Some, None, refl, sym, ap, ◌∙◌, rules, tests}
use Rattle.std.proofs.lemmas.Iterator.Consumers.{nth_from_yields_List}
use Rattle.std.proofs.lemmas.Iterator.Splits.{YieldsList-from_slice_split}
use Rattle.std.specs.Option.{option_map, unwrap_or}
use denote.Bor.{Bor}
use Rattle.replay.proofs.Texts.{is, part_split}
use Rattle.replay.proofs.parse.part.Goals as goal

now_of : (o : Option (Bor (List ℕ))) (d : Bor (List ℕ)) → (unwrap_or o d).now ≡ unwrap_or (option_map (λ x. x.now) o) d.now
now_of None d = refl
now_of (Some x) d = refl

pub returns : goal.returns
returns c =
    let a = c.args in
    let e = nth_from_yields_List c.nth.result c.nth.new.self a.k c.nth.ensures.ran (YieldsList-from_slice_split _ (is a.byte) a.s.now c.split.ensures.rest c.split.ensures.done c.split.ensures.closure (λ x r q k. search (rules, tests))) in
    ap (λ (x : Bor (List ℕ)). x.now) c.unwrap_or.ensures ∙ now_of c.nth.result _ ∙ ap (λ (o : Option (List ℕ)). unwrap_or o []) e ∙ sym (part_split a.byte a.k a.s.now)
