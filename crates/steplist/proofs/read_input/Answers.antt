-- `steplist::read_input`: the three lines one behind the other; the bits stand behind the key of the last.
use mathlib.Core.Path.{◌≡◌, refl}
use mathlib.Core.List.{List, map, ◌++◌}
use Prim.Native.Nat.{ℕ, ◌+◌}
use lib.Dec.{eqb}
use lib.ListN.{drop}
use Rattle.std.proofs.Common.{Some, None}
use Rattle.text.specs.Read.{one_of, number_line, bits_key, bits_line}
use Rattle.text.specs.Read.Got.{found, broken}
use Rattle.text.specs.Answers.{place_in, line_in}
use Rattle.text.specs.declared.Line.{Line}
use Rattle.text.proofs.Decimal.{line-exact}
use Rattle.text.proofs.Places.{place-none, line-none, line-some}
use Rattle.steplist.specs.Answers.{input_in}
use Rattle.steplist.specs.Listing.{unsigned, all_kinds, kind_name, width_key, kind_key, input}
use Rattle.steplist.proofs.Names.{choice-none, choice-found}
use Rattle.steplist.proofs.Parts.{header-at, bits-found}
use Rattle.steplist.proofs.read_input.Goals as goal

abbrev kinds : List (List ℕ)
kinds = map (λ n. kind_key ++ n) (map kind_name all_kinds)

module _ (s : List ℕ) (at : ℕ) where
  no-width : None ≡ line_in s (number_line width_key 4096 (drop at s)) → broken ≡ input (drop at s)
  unfolding input
  no-width e = rw (line-none s (number_line width_key 4096 (drop at s)) e)

  module _ (w : Line) (e₁ : Some w ≡ line_in s (number_line width_key 4096 (drop at s))) where
    no-kind : None ≡ line_in s (one_of kinds 0 (drop w.next s)) → broken ≡ input (drop at s)
    unfolding input
    no-kind e = rw (line-some (line-exact width_key 4096) s at w e₁, choice-none kind_key kind_name all_kinds unsigned refl s w.next e)

    module _ (k : Line) (e₂ : Some k ≡ line_in s (one_of kinds 0 (drop w.next s))) where
      no-bits : None ≡ place_in s (bits_line bits_key w.number (drop k.next s)) → broken ≡ input (drop at s)
      unfolding input
      no-bits e =
          rw (
            line-some (line-exact width_key 4096) s at w e₁,
            choice-found kind_key kind_name all_kinds unsigned refl s w.next k e₂,
            place-none s (bits_line bits_key w.number (drop k.next s)) e,
          )

      read : (p : ℕ) → Some p ≡ place_in s (bits_line bits_key w.number (drop k.next s))
          → found (input_in s (record { header = record { width = w.number; is_signed = eqb k.number 1; is_fill = eqb k.number 2 }; place = k.next + 5 })) (drop p s)
          ≡ input (drop at s)
      unfolding input
      read p e =
          rw (
            line-some (line-exact width_key 4096) s at w e₁,
            choice-found kind_key kind_name all_kinds unsigned refl s w.next k e₂,
            bits-found s k.next w.number p e,
            header-at w.number k.number,
          )

pub returns-in_err-width : goal.returns-in_err-width
returns-in_err-width c = let a = c.args in rw c.from_residual.ensures (no-width a.s.now a.at c.in_err-width.ensures)

pub returns-in_err-kind : goal.returns-in_err-kind
returns-in_err-kind c =
    let a = c.args in
    rw c.from_residual-in_err-kind.ensures (no-kind a.s.now a.at c.in_ok-width.width c.in_ok-width.ensures c.in_err-kind.ensures)

pub returns-in_err-next : goal.returns-in_err-next
returns-in_err-next c =
    let a = c.args in
    rw c.from_residual-in_err-next.ensures
    (no-bits a.s.now a.at c.in_ok-width.width c.in_ok-width.ensures c.in_ok-kind.kind c.in_ok-kind.ensures c.in_err-next.ensures)

pub returns : goal.returns
returns c =
    let a = c.args in
    read a.s.now a.at c.in_ok-width.width c.in_ok-width.ensures c.in_ok-kind.kind c.in_ok-kind.ensures c.in_ok-next.next c.in_ok-next.ensures
