-- What the equation of `read_list` says of an accepted list to those who use its arrays and the text.
--     listed-counts   the counts fit the arrays
--     listed-places   an input is at most 4,096 wide, no signed fill, and its characters stand in the text
use mathlib.Core.Path.{◌≡◌, sym, ◌∙◌, subst}
use mathlib.Core.Bool.{false, ◌&&◌}
use mathlib.Core.List.{List, [], ◌∷◌}
use Prim.Native.Nat.{ℕ, zero, suc, ◌-◌, ◌≤◌, ◌<◌}
use native.Mathlib.Omega.{arith}
use lib.ListN.{length, get_or}
use Rattle.refusal.specs.Outcome.Answer.{given}
use Rattle.words.proofs.Planes.{length-tabulate, get_d_tabulate}
use Rattle.text.specs.Exact.{All}
use Rattle.text.proofs.Vectors.{bits-length}
use Rattle.value.specs.Checks.{Vector}
use Rattle.steplist.specs.Listing.{InputWithin, InLimits, whole}
use Rattle.steplist.specs.Answers.{input_in, no_input, list_in}
use Rattle.steplist.specs.declared.Input.{Input}
use Rattle.steplist.specs.declared.StepList.{StepList}
use Rattle.steplist.proofs.Exactly.{whole-exactly}

all-at : {A : Type 0} (P : A → Type 0) (l : List A) (d : A) (i : ℕ) → All P l → i < length l → P (get_or l i d)
all-at P [] d i p h = absurd (omega arith)
all-at P (a ∷ l) d zero p h = p.0
all-at P (a ∷ l) d (suc i) p h = all-at P l d i p.1 (omega arith)

module _ (s : List ℕ) (l : StepList) (e : given (list_in s l) ≡ whole s) where
  within : InLimits (list_in s l)
  within = ((whole-exactly s (list_in s l)).0 (sym e)).1

  pub listed-counts : (l.input_count ≤ 64) × (l.step_count ≤ 256)
  unfolding InLimits
  listed-counts = (
    subst (λ (n : ℕ). n ≤ 64) (length-tabulate l.input_count _) within.0,
    subst (λ (n : ℕ). n ≤ 256) (length-tabulate l.step_count _) within.1,
  )

  pub listed-places : (i : ℕ) → i < l.input_count → let x = get_or l.inputs i no_input in
      (x.header.width ≤ 4096) × (x.header.width ≤ length s - x.place) × ((x.header.is_signed && x.header.is_fill) ≡ false)
  unfolding InLimits InputWithin
  listed-places i h =
      let n = l.input_count in
      let f : ℕ → Vector = λ j. input_in s (get_or l.inputs j no_input) in
      let x : Input = get_or l.inputs i no_input in
      let p : InputWithin (input_in s x) =
      subst InputWithin (get_d_tabulate n f i (input_in s no_input) h)
      (all-at InputWithin (list_in s l).inputs (input_in s no_input) i within.2
      (subst (λ (m : ℕ). i < m) (sym (length-tabulate n f)) h))
      in
      (p.0, omega (arith, sym p.1 ∙ bits-length s x.place x.header.width), p.2)
