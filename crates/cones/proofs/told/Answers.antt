-- `cones::told`: the run's text stands at the front of the buffer.
use Rattle.std.proofs.Common.{◌≡◌, ℕ, ◌+◌, ◌≤◌, List, ◌++◌, length, take, drop, arith, ap, ◌∙◌, le_refl, take_all, length-append, zero-add}
use Rattle.std.proofs.lemmas.List.{take-append-le}
use Rattle.lines.specs.Buffer.{Buffer, buffer, put}
use Rattle.steps.specs.Run.{Final}
use Rattle.cones.proofs.told.Goals as goal

-- a text that was put at the front of d
record Fronted (t e : List ℕ) (n : ℕ) : Type 0 where
  within : n ≤ length e
  text : take n e ≡ t

fronted : (t d e : List ℕ) (n : ℕ) → buffer e n ≡ put (buffer d 0) t → Fronted t e n
unfolding put
fronted t d e n h =
    let rest = drop (0 + length t) d in
    let bytes : e ≡ t ++ rest = ap (λ (b : Buffer). b.bytes) h in
    let place : n ≡ length t = ap (λ (b : Buffer). b.place) h ∙ zero-add (length t) in
    let long : length e ≡ length t + length rest = ap length bytes ∙ length-append t rest in
    record {
      within = omega arith;
      text = ap (take n) bytes
          ∙ ap (λ (k : ℕ). take k (t ++ rest)) place
          ∙ take-append-le (length t) t rest (le_refl (length t))
          ∙ take_all (length t) t (le_refl (length t));
    }

pub returns-clause-within : goal.returns-clause-within
returns-clause-within c = (fronted _ _ _ _ (ap (λ (w : Final). w.out) c.run-r.ensures)).within

pub returns-clause-text : goal.returns-clause-text
returns-clause-text c = (fronted _ _ _ _ (ap (λ (w : Final). w.out) c.run-r.ensures)).text
