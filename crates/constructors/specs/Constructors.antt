-- Document 01, "Header and operand": the constructors. Each writes its planes whole and gives the header, or refuses by 5.
use Rattle.std.specs.Prelude.{ℕ, min}
use Rattle.bit.specs.declared.LogicBit.{LogicBit}
use Rattle.bit.specs.declared.LogicBit.TheVariants.{Zero, X}
use Rattle.refusal.specs.Outcome.{Outcome}
use Rattle.words.specs.Vector.{tabulate, bit_at}
use Rattle.words.specs.Planes.{Planes, stored}
use Rattle.value.specs.Checks.{max_width, plain, written}
use Rattle.value.specs.declared.Header.{Header}

-- constructors clamp larger widths
abbrev pub clamped : ℕ → ℕ
clamped w = min w max_width

-- the vector f 0, f 1, .. of the clamped width
abbrev pub constructed : ℕ → (ℕ → LogicBit) → Planes → Outcome Header Planes
constructed w f p = written (record { header = plain (clamped w); bits = tabulate (clamped w) f }) p

-- `new`: every bit is x
abbrev pub new_vector : ℕ → Planes → Outcome Header Planes
new_vector w = constructed w (λ i. X)

-- `zero`: every bit is 0
abbrev pub zero_vector : ℕ → Planes → Outcome Header Planes
zero_vector w = constructed w (λ i. Zero)

-- `from_u64`: the digits of the number
abbrev pub from_u64 : ℕ → ℕ → Planes → Outcome Header Planes
from_u64 x w = constructed w (λ i. stored (bit_at x i) 0)
