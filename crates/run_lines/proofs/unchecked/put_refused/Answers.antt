-- `run_lines::unchecked::put_refused`: one line behind the other.
use mathlib.Core.List.{◌++◌}
use native.Mathlib.Omega.{arith}
use Rattle.text.specs.Write.{number_text}
use Rattle.lines.proofs.Put.{length-line, place_of, after}
use Rattle.run_lines.specs.Output.{refused_key, step_key, refused_text}
use Rattle.run_lines.proofs.Room.{decimal-two, decimal-three}
use Rattle.run_lines.proofs.unchecked.put_refused.Goals as goal

pub put_number_line-i-requires : goal.put_number_line-i-requires
put_number_line-i-requires c =
    omega (arith, length-line refused_key c.args.n, decimal-two c.args.n c.requires.0, c.requires.2)

pub put_number_line-requires : goal.put_number_line-requires
put_number_line-requires c =
    let a = c.args in
    omega (
      arith,
      length-line refused_key a.n,
      decimal-two a.n c.requires.0,
      length-line step_key a.k,
      decimal-three a.k c.requires.1,
      c.requires.2,
      place_of a.out.now a.at (refused_key ++ number_text a.n) c.put_number_line-i.ensures,
      c.put_number_line-i.auto.out,
    )

pub returns : goal.returns
unfolding refused_text
returns c =
    let a = c.args in
    after a.out.now a.at (refused_key ++ number_text a.n) (step_key ++ number_text a.k) c.put_number_line-i.ensures c.put_number_line.ensures
    (omega (arith, c.requires.2))
