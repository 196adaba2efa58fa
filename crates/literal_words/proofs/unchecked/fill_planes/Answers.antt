-- `literal_words::unchecked::fill_planes`: the leading bit throughout, then the digits, then cleared above the width.
use mathlib.Core.Path.{ap₂, ◌∙◌}
use mathlib.Core.List.{List}
use Prim.Native.Nat.{ℕ}
use lib.ListN.{drop}
use Rattle.words.specs.Vector.{tabulate}
use Rattle.words.specs.Planes.{lent}
use Rattle.literal_words.proofs.Characters.{radix-range, value-some, value-readable, leading_at}
use Rattle.literal_words.proofs.Values.{planes-filled}
use Rattle.literal_words.proofs.unchecked.fill_planes.Goals as goal

pub bounds-s-from : goal.bounds-s-from
bounds-s-from c =
    value-some c.args.base c.args.s.now c.args.from c.requires.s_value

pub take_digits-requires : goal.take_digits-requires
take_digits-requires c =
    rw c.radix-r.ensures
    (record {
      le_r = radix-range c.args.base;
      s_value = value-readable c.args.base _ c.requires.s_value;
    })

pub returns : goal.returns
unfolding tabulate
returns c =
    let s : List ℕ = c.args.s.now in
    ap₂ lent c.mask_plane.ensures c.mask_plane-2.ensures
    ∙ planes-filled c.args.base c.args.width (drop c.args.from s) c.leading-beyond.result _ _ c.requires.s_value c.requires.width_nonzero.0
    (c.leading-beyond.ensures ∙ leading_at s c.args.from (value-some c.args.base s c.args.from c.requires.s_value))
    c.extend_into.ensures
    (rw c.radix-r.ensures at c.take_digits.ensures.taken)
    (rw c.radix-r.ensures at c.take_digits.ensures.taken_2)
