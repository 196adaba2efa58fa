-- `lines::unchecked::put_number`: the digits in front are written first, then the last one.
use mathlib.Core.Path.{ap}
use Prim.Native.Nat.{◌/◌}
use native.Mathlib.Omega.{arith}
use lib.ListN.{length}
use Rattle.text.specs.Write.{decimal}
use Rattle.text.proofs.Decimal.{decimal_digit}
use Rattle.lines.proofs.Put.{place_of, length-decimal, number-one, number_more}
use Rattle.lines.proofs.unchecked.+put_number.Goals as goal

pub bounds-out-at : goal.bounds-out-at
bounds-out-at t c = omega (arith, ap length (decimal_digit c.args.n (omega arith)))

pub returns-then-n-lt10 : goal.returns-then-n-lt10
returns-then-n-lt10 t c =
    let a = c.args in
    number-one a.out.now a.at a.n (omega arith) (omega (arith, ap length (decimal_digit a.n (omega arith))))

pub put_number-i-requires : goal.put_number-i-requires
put_number-i-requires t c = let d = length-decimal c.args.n (omega arith) in (omega arith, omega arith)

pub bounds-out-i : goal.bounds-out-i
bounds-out-i t c =
    let a = c.args in
    let d = length-decimal a.n (omega arith) in
    omega (arith, place_of a.out.now a.at (decimal (a.n / 10)) c.put_number-i.ensures, c.put_number-i.auto.out)

pub overflow_add-result-2 : goal.overflow_add-result-2
overflow_add-result-2 t c =
    let a = c.args in
    let d = length-decimal a.n (omega arith) in
    omega (arith, place_of a.out.now a.at (decimal (a.n / 10)) c.put_number-i.ensures)

pub returns : goal.returns
returns t c =
    let a = c.args in
    number_more a.out.now c.put_number-i.new.out a.at c.put_number-i.result a.n (omega arith) c.requires
    c.put_number-i.auto.out c.put_number-i.ensures
