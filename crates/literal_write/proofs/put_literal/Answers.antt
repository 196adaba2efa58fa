-- `literal_write::put_literal`: the three pieces, one behind the other, fill the text.
use native.Mathlib.Omega.{arith}
use Rattle.words.specs.Planes.{from_planes}
use Rattle.text.specs.Write.{decimal, bit_digits}
use Rattle.lines.proofs.Put.{place_of, whole, three, length-planes}
use Rattle.literal_write.specs.Write.{base_text}
use Rattle.literal_write.proofs.Lengths.{length-literal}
use Rattle.literal_write.proofs.put_literal.Goals as goal

pub put_base-j-requires : goal.put_base-j-requires
put_base-j-requires c =
    let a = c.args in
    let r = length-literal a.width a.is_signed (from_planes a.width a.value.now a.unknown.now) (length-planes a.width a.value.now a.unknown.now) in
    omega (arith, r, c.requires.text_len, place_of _ _ _ c.put_number-i.ensures, c.put_number-i.auto.out)

pub put_bits-requires-clause-width_in_bounds : goal.put_bits-requires-clause-width_in_bounds
put_bits-requires-clause-width_in_bounds c =
    let a = c.args in
    let r = length-literal a.width a.is_signed (from_planes a.width a.value.now a.unknown.now) (length-planes a.width a.value.now a.unknown.now) in
    let i = place_of _ _ _ c.put_number-i.ensures in
    let j = place_of _ _ _ c.put_base-j.ensures in
    omega (arith, r, c.requires.text_len, i, j, c.put_number-i.auto.out, c.put_base-j.auto.text)

pub returns : goal.returns
returns c =
    let a = c.args in
    whole a.text.now _ c.requires.text_len
    (three a.text.now 0 (decimal a.width) (base_text a.is_signed) (bit_digits (from_planes a.width a.value.now a.unknown.now)) c.put_number-i.ensures c.put_base-j.ensures
    c.put_bits.ensures (omega arith))
