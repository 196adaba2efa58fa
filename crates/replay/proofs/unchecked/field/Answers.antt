-- A field has as many words of each plane as were lent.
use Rattle.std.proofs.Common.{◌≡◌, ap, arith}
use Rattle.agreement.specs.declared.Field.{Field}
use Rattle.replay.specs.Fields.{field_of}
use Rattle.replay.proofs.unchecked.field.Goals as goal

pub returns-clause-value_in_bounds : goal.returns-clause-value_in_bounds
unfolding field_of
returns-clause-value_in_bounds c =
    let m : c.meant.result.value ≡ c.min-m.result = ap (λ (f : Field). f.value) c.meant.ensures in
    let n : c.meant.result.unknown ≡ c.min-n.result = ap (λ (f : Field). f.unknown) c.meant.ensures in
    (omega (arith, c.min-m.ensures, c.load), omega (arith, c.min-n.ensures, c.load-2))
