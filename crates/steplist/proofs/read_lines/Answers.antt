-- `steplist::read_lines`: the parts of a list one behind the other.
use Rattle.text.specs.Read.{number_line}
use Rattle.text.proofs.Decimal.{line-exact}
use Rattle.text.proofs.Places.{line-none, line-some, line-within}
use Rattle.steplist.specs.Listing.{inputs_key, steps_key, list}
use Rattle.steplist.proofs.read_lines.Goals as goal

pub returns-in_err-n : goal.returns-in_err-n
unfolding list
returns-in_err-n c =
    let s = c.args.s.now in
    rw (c.from_residual.ensures, line-none s (number_line inputs_key 64 s) c.in_err-n.ensures)

pub returns-in_err-m : goal.returns-in_err-m
unfolding list
returns-in_err-m c =
    let s = c.args.s.now in
    let n = c.in_ok-n.n in
    rw (c.from_residual-in_err-m.ensures, line-some (line-exact inputs_key 64) s 0 n c.in_ok-n.ensures, line-none s _ c.in_err-m.ensures)

pub read_inputs-requires : goal.read_inputs-requires
read_inputs-requires c = (line-within (line-exact inputs_key 64) c.args.s.now 0 c.in_ok-n.n c.in_ok-n.ensures).0

pub returns-in_err-value : goal.returns-in_err-value
unfolding list
returns-in_err-value c =
    let s = c.args.s.now in
    let n = c.in_ok-n.n in
    let m = c.in_ok-m.m in
    rw (
      c.from_residual-in_err-value.ensures,
      line-some (line-exact inputs_key 64) s 0 n c.in_ok-n.ensures,
      line-some (line-exact steps_key 256) s n.next m c.in_ok-m.ensures,
      ← c.in_err-value.ensures,
    )

pub read_steps-requires : goal.read_steps-requires
read_steps-requires c = (line-within (line-exact steps_key 256) c.args.s.now c.in_ok-n.n.next c.in_ok-m.m c.in_ok-m.ensures).0

pub returns-in_err-value-2 : goal.returns-in_err-value-2
unfolding list
returns-in_err-value-2 c =
    let s = c.args.s.now in
    let n = c.in_ok-n.n in
    let m = c.in_ok-m.m in
    rw (
      c.from_residual-in_err-value-2.ensures,
      line-some (line-exact inputs_key 64) s 0 n c.in_ok-n.ensures,
      line-some (line-exact steps_key 256) s n.next m c.in_ok-m.ensures,
      ← c.in_ok-value.ensures,
      ← c.in_err-value-2.ensures,
    )

pub returns : goal.returns
unfolding list
returns c =
    let s = c.args.s.now in
    let n = c.in_ok-n.n in
    let m = c.in_ok-m.m in
    rw (
      line-some (line-exact inputs_key 64) s 0 n c.in_ok-n.ensures,
      line-some (line-exact steps_key 256) s n.next m c.in_ok-m.ensures,
      ← c.in_ok-value.ensures,
      ← c.in_ok-value-2.ensures,
    )
