-- `load::load_list`: the text is read, and its inputs are put into cells if it says a list.
use Rattle.std.specs.Prelude.{Result, Ok, Err, IfOk}
use Rattle.refusal.specs.declared.Refusal.{Refusal}
use mathlib.Core.Path.{◌≡◌, sym, ap, ◌∙◌, subst}
use mathlib.Core.List.{List}
use Prim.Native.Nat.{ℕ}
use Rattle.refusal.specs.Refusals.{refusal_number}
use Rattle.refusal.specs.Outcome.{outcome}
use Rattle.refusal.specs.Outcome.Answer.{given, refused}
use Rattle.words.specs.Planes.{lent_by}
use Rattle.cells.specs.declared.Fields.{Fields}
use Rattle.store.specs.declared.Store.{Store}
use Rattle.store.specs.Store.{state, state_by, store_of, empty_store}
use Rattle.store.proofs.Placed.{store-empty}
use Rattle.steplist.specs.declared.StepList.{StepList}
use Rattle.steplist.specs.Listing.{whole}
use Rattle.steplist.specs.Answers.{list_in}
use Rattle.steplist.proofs.Listed.{listed-counts, listed-places}
use Rattle.load.specs.Inputs.{load_list}
use Rattle.load.specs.Limits.{Fitted, InputsReadable}
use Rattle.load.proofs.Fitted.{fitted_none}
use Rattle.load.proofs.load_list.Goals as goal

readable : (t : List ℕ) (l : StepList) → given (list_in t l) ≡ whole t → InputsReadable t l
readable t l e = record {
  few-inputs = (listed-counts t l e).0;
  inputs = λ i h. let p = listed-places t l e i h in (p.1, p.0);
}

same-list : (t : List ℕ) (l : StepList) → given (list_in t l) ≡ whole t → (x : Result StepList Refusal) → IfOk x (λ y. y ≡ l)
    → IfOk x (λ y. given (list_in t y) ≡ whole t)
same-list t l e (Ok y) q = ap (λ (z : StepList). given (list_in t z)) q ∙ e
same-list t l e (Err r) q = tt

pub load_inputs-requires : goal.load_inputs-requires
load_inputs-requires c = readable c.args.text.now c.in-Ok.list c.in-Ok.ensures

pub returns-in-Err-clause-au_value : goal.returns-in-Err-clause-au_value
returns-in-Err-clause-au_value c =
    let a = c.args in
    ap (λ (s : Store). outcome (refused (refusal_number c.in-Err.r)) (state s (lent_by a.av.now a.au.now)))
    (ap (store_of 0) c.no_fields.ensures ∙ sym store-empty)
    ∙ ap (load_list (state_by empty_store a.av.now a.au.now)) c.in-Err.ensures

pub returns-in-Err-clause-fitted : goal.returns-in-Err-clause-fitted
returns-in-Err-clause-fitted c =
    let a = lent_by c.args.av.now c.args.au.now in
    subst (λ (f : Fields). Fitted f 0 0 a) (sym c.no_fields.ensures) (fitted_none a)

pub returns-in-Ok-clause-au_value : goal.returns-in-Ok-clause-au_value
returns-in-Ok-clause-au_value c =
    c.load_inputs.ensures.au_value ∙ ap (load_list (state_by empty_store c.args.av.now c.args.au.now)) c.in-Ok.ensures

pub returns-in-Ok-clause-text_value : goal.returns-in-Ok-clause-text_value
returns-in-Ok-clause-text_value c =
    same-list c.args.text.now c.in-Ok.list c.in-Ok.ensures c.load_inputs.result.list c.load_inputs.ensures.same_list
