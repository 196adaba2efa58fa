-- `text::bits_line`: as many bytes as there are bits stand behind the key, all of them bits, and LF behind them.
use mathlib.Core.Path.{◌≡◌, sym, ◌∙◌}
use mathlib.Core.Logic.{⊎_elim}
use mathlib.Core.Bool.{true, false}
use mathlib.Core.List.{List, map, reverse}
use Prim.Native.Nat.{ℕ, ◌+◌, ◌-◌, ◌≤◌, ◌<◌}
use native.Mathlib.Omega.{arith}
use lib.ListN.{length, take, drop, length-drop}
use lib.Seq.{drop-drop}
use Rattle.std.proofs.Common.{Some, None}
use Rattle.std.specs.List.{list_all, slice_range}
use Rattle.text.specs.Read.{line_end, key, is_bit, of_byte, bits, bits_line}
use Rattle.text.specs.Answers.{place_in}
use Rattle.text.proofs.Exact.{key-exact}
use Rattle.text.proofs.Places.{within, place-some, place-none, place-made}
use Rattle.text.proofs.Turns.{many-short, many-bits}
use Rattle.text.proofs.bits_line.Goals as goal

module _ (s k : List ℕ) (at from n : ℕ) (e : Some from ≡ place_in s (key k (drop at s))) where
  behind-key : bits_line k n (drop at s) ≡ bits n (drop from s)
  unfolding bits_line
  behind-key = rw (place-some (key-exact k) s at from e).1

  short : length s < from + n → None ≡ place_in s (bits_line k n (drop at s))
  unfolding bits
  short h =
      let i = within s (key k (drop at s)) from e in
      let l : length (drop from s) < n = omega (arith, length-drop from s) in
      rw (behind-key, many-short n (drop from s) l)

  module _ (end : ℕ) (h : end ≤ length s) (bytes : List ℕ) (r : bytes ≡ slice_range s from end) (m : end ≡ from + n) where
    enough : n ≤ length (drop from s)
    enough = omega (arith, length-drop from s)

    those : take n (drop from s) ≡ bytes
    those = let l : end - from ≡ n = omega arith in sym (r ∙ rw l)

    other : false ≡ list_all is_bit bytes → None ≡ place_in s (bits_line k n (drop at s))
    unfolding bits
    other q = rw (behind-key, many-bits n (drop from s) enough, those, ← q)

    ended : true ≡ list_all is_bit bytes → place_in s (key line_end (drop end s)) ≡ place_in s (bits_line k n (drop at s))
    unfolding bits
    ended q =
        let t : List ℕ = drop (from + n) s in
        rw (m, behind-key, many-bits n (drop from s) enough, those, ← q, drop-drop n from s) (sym (place-made s (key line_end t) (reverse (map of_byte bytes))))

pub returns-in_err-from : goal.returns-in_err-from
unfolding bits_line
returns-in_err-from c = rw (c.from_residual.ensures, place-none c.args.s.now _ c.in_err-from.ensures)

pub returns-in_err-bits : goal.returns-in_err-bits
returns-in_err-bits c =
    let a = c.args in
    let h = ⊎_elim (λ l. absurd (omega arith)) (λ l. l) c.in_err-bits.ensures.lookup.0 in
    c.from_residual-in_err-bits.ensures ∙ short a.s.now a.key.now a.at c.in_ok-from.from a.n c.in_ok-from.ensures (omega arith)

pub returns-then-not-are_bits : goal.returns-then-not-are_bits
returns-then-not-are_bits c =
    let a = c.args in
    let h = c.in_ok-bits.ensures.lookup.0 in
    other a.s.now a.key.now a.at c.in_ok-from.from a.n c.in_ok-from.ensures _ h.1 c.in_ok-bits.bits.now h.2 (omega arith) c.if-not-are_bits.ensures

pub returns : goal.returns
returns c =
    let a = c.args in
    let h = c.in_ok-bits.ensures.lookup.0 in
    c.skip-2.ensures
    ∙ ended a.s.now a.key.now a.at c.in_ok-from.from a.n c.in_ok-from.ensures _ h.1 c.in_ok-bits.bits.now h.2 (omega arith) c.if-not-are_bits.ensures
