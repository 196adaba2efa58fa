-- Real to vector (document 01, "Result vector", `from_real_wrapped`): the nearest whole number, modulo 2 to the width.
use Rattle.std.specs.Prelude.{ℕ, suc, ◌-◌, ◌*◌, ◌/◌, ◌%◌, ◌^◌, max, Bool, cond, List, ℤ, pos, negsuc, neg_ℤ, nat_lt, Float}
use Prim.Native.Nat.{compare, Ordering}
use Rattle.std.specs.Float.{nan, inf, fin}
use Rattle.std.specs.Float.Ieee.{up, down}
use Rattle.bit.specs.declared.LogicBit.{LogicBit}
use Rattle.refusal.specs.Outcome.{Outcome, refuse}
use Rattle.words.specs.Vector.{tabulate, bit_at}
use Rattle.words.specs.Planes.{Planes, stored}
use Rattle.value.specs.Checks.{max_width, plain, written}
use Rattle.value.specs.declared.Header.{Header}
use Rattle.real.specs.declared.Scaled.{Scaled}

-- ---- the nearest whole number (IEEE 1800-2017, 6.12.2)

-- what a size halfway between q and q + 1 becomes: the one away from zero
abbrev pub at_half : ℕ → ℕ
at_half q = suc q

-- q or q + 1, by how the rest compares with a half
abbrev pub whole_by : ℕ → Ordering → ℕ
whole_by q Ordering.lt = q
whole_by q Ordering.eq = at_half q
whole_by q Ordering.gt = suc q

-- the whole number nearest to a / b
abbrev pub whole_near : ℕ → ℕ → ℕ
whole_near a b = whole_by (a / b) (compare (a % b * 2) b)

-- the integer of a sign and a size
abbrev pub signed_by : Bool → ℕ → ℤ
signed_by s n = cond s (neg_ℤ (pos n)) (pos n)

-- a real, rounded to a whole number: `fin s m e` is m * 2 ^ e, the fraction m * up e / down e; infinite and NaN give 0
unfoldable pub rounded : Float → ℤ
rounded nan = pos 0
rounded (inf s) = pos 0
rounded (fin s m e) = signed_by s (whole_near (m * up e) (down e))

-- the integer that digits * 2 ^ shift stands for, with its sign
abbrev pub scaled : Scaled → ℤ
scaled r = signed_by r.negative (r.digits * 2 ^ r.shift)

-- ---- its bits

-- z modulo 2 ^ w
unfoldable pub wrapped : ℕ → ℤ → ℕ
wrapped w (pos n) = n % 2 ^ w
wrapped w (negsuc n) = 2 ^ w - 1 - n % 2 ^ w

-- a real as a vector of width w; all its bits are known
unfoldable pub real_vector : ℕ → Float → List LogicBit
real_vector w x = tabulate w (λ i. stored (bit_at (wrapped w (rounded x)) i) 0)

-- `from_real_wrapped`: 1 the width is above 1,048,576; width 0 is taken as 1; 5; the result is unsigned and no fill
abbrev pub from_real : Float → ℕ → Planes → Outcome Header Planes
from_real x w out =
    cond (nat_lt max_width w) (refuse 1 out) (written (record { header = plain (max 1 w); bits = real_vector (max 1 w) x }) out)
