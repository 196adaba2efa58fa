-- `cones::answer`: the list that is run is the input, or the front of an input that is longer than any list; either is refused as the
-- other is.
use Rattle.std.proofs.Common.{◌≡◌, ℕ, ◌≤◌, ◌<◌, ◌⊎◌, List, length, take, Bool, true, false, cond, nat_le, Option, IfSome, None, Some, refl, sym, ap, ◌∙◌, subst, arith, ⊎_elim, take_all, length-take-le}
use Rattle.std.proofs.lemmas.Bool.{lt-leb, cases_lt}
use Rattle.std.specs.Io.KnownBytes.{Appends}
use Rattle.refusal.specs.Outcome.{Answer}
use Rattle.steplist.specs.Listing.{StepList, whole}
use Rattle.steps.specs.Run.{emptied, run_whole}
use Rattle.cones.specs.Program.{zeros, written}
use Rattle.cones.proofs.answer.Goals as goal

-- no list is longer than 65,536 bytes
too_long : (t : List ℕ) → 65536 < length t → whole (take 65537 t) ≡ whole t
unfolding whole
too_long t h =
    let l : length (take 65537 t) ≡ 65537 = length-take-le 65537 t (omega arith) in
    let a = lt-leb (length (take 65537 t)) 65536 (omega arith) in
    let b = lt-leb (length t) 65536 h in
    rw (a, b) refl

same_list : (t : List ℕ) → whole (take 65537 t) ≡ whole t
same_list t = ⊎_elim (λ w. too_long t w) (λ w. ap whole (take_all 65537 t (omega arith))) (cases_lt 65536 (length t))

same_run : (t : List ℕ) → written (take 65537 t) ≡ written t
same_run t = ap (λ (w : Answer StepList). (run_whole (emptied zeros zeros) w).text) (same_list t)

wrote_of : (o a b : Option (List ℕ)) (s : List ℕ) → Appends a b (written s) → IfSome o (λ t. s ≡ take 65537 t) → IfSome o (λ t. Appends a b (written t))
wrote_of None a b s h e = tt
wrote_of (Some t) a b s h e = subst (Appends a b) (ap written e ∙ same_run t) h

pub returns-clause-wrote : goal.returns-clause-wrote
returns-clause-wrote g c =
    let told = c.told-length.ensures.text in
    let front = subst (λ (m : ℕ). IfSome (g.R.Read.remaining c.args.input.now) (λ t. take c.in-Ok.n c.read_all.new.buf ≡ take m t)) (sym c.room-text.ensures) c.in-Ok.ensures.front in
    wrote_of _ _ _ _ (subst (Appends _ _) told c.in-Ok-write_all.ensures.bytes) front
