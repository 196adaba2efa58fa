-- `steplist::read_inputs`: what is left to read, behind the inputs that were read, reads as all of them do.
use mathlib.Core.Path.{sym, ap, ◌∙◌}
use mathlib.Core.List.{List, map}
use Prim.Native.Nat.{ℕ}
use native.Mathlib.Omega.{arith}
use lib.ListN.{length-set, drop}
use Rattle.text.specs.Read.Got.{found}
use Rattle.value.specs.Checks.{Vector}
use Rattle.steplist.specs.Listing.{input}
use Rattle.steplist.specs.Answers.{input_in}
use Rattle.steplist.proofs.Parts.{left-broken, left-turn, left-all, first-inputs, map_last}
use Rattle.steplist.proofs.read_inputs.Goals as goal

pub returns-in_err-x : goal.returns-in_err-x
returns-in_err-x c =
    let s : List ℕ = c.args.s.now in
    let l = c.loop-k in
    rw (c.from_residual.ensures, l.invariant.1, left-broken input (map (input_in s)) (input_in s) (map_last (input_in s)) l.inputs c.args.n l.k (drop l.next s) c.loop-k-test.true (sym c.in_err-x.ensures))

pub loop-k-preserved : goal.loop-k-preserved
loop-k-preserved c =
    let s : List ℕ = c.args.s.now in
    let l = c.loop-k in
    let x = c.in_ok-x.x in (
      simp length-set l.invariant.0,
      l.invariant.1
          ∙ left-turn input (map (input_in s)) (input_in s) (map_last (input_in s)) l.inputs c.args.n l.k (drop l.next s) (drop x.next s) x.value c.loop-k-test.true (omega arith) (sym c.in_ok-x.ensures),
    )

pub returns : goal.returns
returns c =
    let s : List ℕ = c.args.s.now in
    let n : ℕ = c.args.n in
    let l = c.loop-k in
    sym (l.invariant.1
    ∙ left-all input (map (input_in s)) (input_in s) (map_last (input_in s)) l.inputs n l.k (drop l.next s) (omega arith)
    ∙ ap (λ (z : List Vector). found z (drop l.next s)) (first-inputs s l.inputs n (omega arith)))
