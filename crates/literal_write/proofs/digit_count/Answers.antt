-- `literal_write::digit_count`: a number of one digit more is ten times as large.
use mathlib.Core.Path.{◌≡◌, ap}
use Prim.Native.Nat.{ℕ, ◌/◌, ◌≤◌, ◌<◌}
use native.Mathlib.Omega.{arith}
use lib.ListN.{length}
use Rattle.text.specs.Write.{decimal}
use Rattle.text.proofs.Decimal.{decimal_digit}
use Rattle.lines.proofs.Put.{length-decimal}
use Rattle.literal_write.proofs.digit_count.Goals as goal

one : (n : ℕ) → n < 10 → length (decimal n) ≡ 1
one n h = ap length (decimal_digit n h)

two : (n : ℕ) → 10 ≤ n → n < 100 → length (decimal n) ≡ 2
two n l h = omega (arith, length-decimal n l, one (n / 10) (omega arith))

three : (n : ℕ) → 100 ≤ n → n < 1000 → length (decimal n) ≡ 3
three n l h = omega (arith, length-decimal n (omega arith), two (n / 10) (omega arith) (omega arith))

four : (n : ℕ) → 1000 ≤ n → n < 10000 → length (decimal n) ≡ 4
four n l h = omega (arith, length-decimal n (omega arith), three (n / 10) (omega arith) (omega arith))

pub returns-then-n-lt10 : goal.returns-then-n-lt10
returns-then-n-lt10 c = omega (arith, one c.args.n (omega arith))

pub returns-then-n-lt100 : goal.returns-then-n-lt100
returns-then-n-lt100 c = omega (arith, two c.args.n (omega arith) (omega arith))

pub returns-then-n-lt1000 : goal.returns-then-n-lt1000
returns-then-n-lt1000 c = omega (arith, three c.args.n (omega arith) (omega arith))

pub returns-else-n-lt1000 : goal.returns-else-n-lt1000
returns-else-n-lt1000 c = omega (arith, four c.args.n (omega arith) (omega arith))
