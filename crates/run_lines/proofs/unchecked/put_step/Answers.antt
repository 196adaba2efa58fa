-- `run_lines::unchecked::put_step`: the line of the number, and the line of the bits behind it, from the front of the planes.
use mathlib.Core.Path.{ap, ◌∙◌}
use mathlib.Core.List.{List, ◌++◌}
use Prim.Native.Nat.{ℕ}
use native.Mathlib.Omega.{arith}
use lib.ListN.{take}
use Rattle.text.specs.Read.{bits_key}
use Rattle.text.specs.Write.{number_text, bits_text}
use Rattle.words.specs.Planes.{word_count, from_planes}
use Rattle.lines.specs.Buffer.{buffer, put}
use Rattle.lines.proofs.Put.{length-line, place_of, after}
use Rattle.run_lines.specs.Output.{cell_key, cell_text}
use Rattle.run_lines.proofs.Room.{decimal-three}
use Rattle.run_lines.proofs.unchecked.put_step.Goals as goal

pub put_number_line-i-requires : goal.put_number_line-i-requires
put_number_line-i-requires c =
    omega (arith, length-line cell_key c.args.n, decimal-three c.args.n c.requires.n_bound.0, c.requires.n_bound.1)

pub put_bits_line-requires-clause-width_in_bounds : goal.put_bits_line-requires-clause-width_in_bounds
put_bits_line-requires-clause-width_in_bounds c =
    let a = c.args in
    omega (
      arith,
      length-line cell_key a.n,
      decimal-three a.n c.requires.n_bound.0,
      c.requires.n_bound.1,
      place_of a.out.now a.at (cell_key ++ number_text a.n) c.put_number_line-i.ensures,
      c.put_number_line-i.auto.out,
    )

pub returns : goal.returns
unfolding cell_text
returns c =
    let a = c.args in
    let p = c.put_number_line-i in
    let line : ℕ → List ℕ = λ m. bits_key ++ bits_text (from_planes a.h.width (take m a.value.now) (take m a.unknown.now)) in
    after a.out.now a.at (cell_key ++ number_text a.n) (line (word_count a.h.width)) p.ensures
    (c.put_bits_line.ensures ∙ ap (λ m. put (buffer p.new.out p.result) (line m)) c.word_count-k.ensures)
    (omega (arith, c.requires.n_bound.1))
