-- `text::skip`: the bytes of the key are compared all at once with those from the place on.
use mathlib.Core.Path.{◌≡◌, ap, ◌∙◌}
use mathlib.Core.Bool.{true, false}
use mathlib.Core.List.{List}
use Prim.Native.Nat.{ℕ, ◌-◌, min}
use native.Mathlib.Omega.{arith}
use lib.Dec.{eqb}
use lib.ListN.{length, take, drop}
use lib.Pointwise.{pointwise}
use Rattle.std.proofs.Common.{Some, None}
use Rattle.std.proofs.lemmas.List.{drop_min, take_rest, take_all}
use Rattle.text.specs.Read.{key as key_of}
use Rattle.text.specs.Answers.{place_in}
use Rattle.text.proofs.Turns.{key-stands}
use Rattle.text.proofs.skip.Goals as goal

-- the text from the place on, or from the end
module _ (s k : List ℕ) (at m : ℕ) (e : m ≡ min at (length s)) where
  abbrev text : List ℕ
  text = take (length s - m) (drop m s)

  from-place : text ≡ drop at s
  from-place = take_rest s m ∙ ap (λ (i : ℕ). drop i s) e ∙ drop_min at s

  missing : pointwise eqb (take (length k) text) k ≡ false → None ≡ place_in s (key_of k (drop at s))
  missing h = rw (← from-place, key-stands k text, h)

  stands : (rest : List ℕ) (place : ℕ) → pointwise eqb (take (length k) text) k ≡ true → rest ≡ drop (length k) text → place ≡ length s - length rest
      → Some place ≡ place_in s (key_of k (drop at s))
  stands rest place h q p = rw (← from-place, key-stands k text, h, p, q)

-- what was compared is the whole key and all of the text from the place on: the searches find that out, with what h says of it
pub returns-in_err-rest : goal.returns-in_err-rest
returns-in_err-rest c =
    let a = c.args in
    let h = c.in_err-rest.ensures.cases in
    c.from_residual.ensures ∙ missing a.s.now a.key.now a.at c.min.result (omega arith) (grind (arith, take_all))

pub returns : goal.returns
returns c =
    let a = c.args in
    let h = c.in_ok-rest.ensures.cases in
    stands a.s.now a.key.now a.at c.min.result (omega arith) c.in_ok-rest.rest.now _ (grind (arith, take_all)) (grind (arith, take_all)) (omega arith)
