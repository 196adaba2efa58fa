-- By the first such byte.
use Rattle.std.proofs.Common.{◌≡◌, ℕ, ◌-◌, min, List, length, take, drop, sym, ap, ◌∙◌, arith, rules, tests}
use Rattle.std.proofs.lemmas.Iterator.{YieldsList-from_slice}
use Rattle.std.proofs.lemmas.Iterator.Search.{position_from_yields_List}
use Rattle.std.proofs.lemmas.List.{drop_min, take_rest}
use Rattle.replay.proofs.Texts.{is, place_some, place_none}
use Rattle.replay.proofs.unchecked.line_end.Goals as goal

-- the text from the place on, or from the end
from-place : (s : List ℕ) (at m : ℕ) → m ≡ min at (length s) → take (length s - m) (drop m s) ≡ drop at s
from-place s at m e = take_rest s m ∙ ap (λ (i : ℕ). drop i s) e ∙ drop_min at s

pub returns-in-Some : goal.returns-in-Some
returns-in-Some c =
    let a = c.args in
    let y = YieldsList-from_slice {s = c.iter.result} (drop a.at a.s.now) (c.iter.ensures.rest ∙ from-place a.s.now a.at c.min.result (omega arith)) in
    let e = position_from_yields_List (is 10) c.position.new.self _ c.position.result c.position.ensures.ran y (λ x b q k. search (rules, tests)) in
    place_some 10 a.s.now a.at c.in-Some.n (sym c.in-Some.is ∙ e)

pub returns-in-None : goal.returns-in-None
returns-in-None c =
    let a = c.args in
    let y = YieldsList-from_slice {s = c.iter.result} (drop a.at a.s.now) (c.iter.ensures.rest ∙ from-place a.s.now a.at c.min.result (omega arith)) in
    let e = position_from_yields_List (is 10) c.position.new.self _ c.position.result c.position.ensures.ran y (λ x b q k. search (rules, tests)) in
    let p = place_none 10 a.s.now a.at (sym c.in-None.is ∙ e) in
    (omega arith, omega arith)
