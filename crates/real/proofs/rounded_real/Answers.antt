-- `real::rounded_real`: only a NaN differs from itself, and any other real is the value of its own bit pattern.
use Rattle.std.proofs.Common.{◌≡◌, true, false, not, T, pos, sym, ap, ◌∙◌}
use mathlib.Core.Bool.{false≢true}
use denote.Floats.{passes}
use lib.Ieee.{Float, nan, inf, fin, binary64, ne, is_nan, fits}
use lib.Ieee.Bits.{of_bits-to_bits}
use lib.Ieee.Compare.{differs_from_itself, nan_differs}
use Rattle.real.specs.Round.{rounded}
use Rattle.real.proofs.rounded_real.Goals as goal

nan-gives-0 : (x : Float) → ne x x ≡ true → pos 0 ≡ rounded x
unfolding rounded
nan-gives-0 x h = sym (ap rounded (differs_from_itself x (passes (ne x x) h)))

no_nan : (x : Float) → ne x x ≡ false → T (not (is_nan x))
unfolding is_nan
no_nan nan h = absurd (false≢true (sym h ∙ nan_differs))
no_nan (inf s) h = tt
no_nan (fin s m e) h = tt

pub returns-then-f : goal.returns-then-f
returns-then-f c = nan-gives-0 c.args.f c.if-f.true

pub float_to_bits-f : goal.float_to_bits-f
float_to_bits-f c = no_nan c.args.f c.if-f.false

pub returns : goal.returns
returns c =
    c.rounded_bits.ensures ∙ ap rounded (of_bits-to_bits binary64 c.args.f (passes (fits binary64 c.args.f) c.well_formed.0.1))
