-- `lines::unchecked::put_bits_line`: the key, the bits behind it, LF.
use Prim.Native.Nat.{ℕ, ◌<◌, ◌+◌, ◌≤◌}
use mathlib.Core.Path.{◌≡◌}
use mathlib.Core.List.{List}
use native.Mathlib.Omega.{arith}
use lib.ListN.{length}
use Rattle.words.specs.Planes.{from_planes}
use Rattle.text.specs.Read.{line_end}
use Rattle.text.specs.Write.{bit_digits, bits_text}
use Rattle.lines.specs.Buffer.{buffer, put}
use Rattle.lines.proofs.Put.{put_byte, place_of, three, length-bits, length-planes}
use Rattle.lines.proofs.unchecked.put_bits_line.Goals as goal

pub put_bits-end-requires-clause-width_in_bounds : goal.put_bits-end-requires-clause-width_in_bounds
put_bits-end-requires-clause-width_in_bounds c = omega (arith, place_of _ _ _ c.put_bytes-i.ensures)

-- there is room for LF behind the key k and the bits
room : (d e f k v u : List ℕ) (at w i j : ℕ) → at + length k + w + 1 ≤ length d → length e ≡ length d → length f ≡ length e
    → buffer e i ≡ put (buffer d at) k → buffer f j ≡ put (buffer e i) (bit_digits (from_planes w v u)) → j < length f
room d e f k v u at w i j h m n p q =
    let bs = from_planes w v u in
    omega (arith, place_of d at k p, place_of e i (bit_digits bs) q, length-bits bs, length-planes w v u)

pub bounds-out-end : goal.bounds-out-end
bounds-out-end c =
    let a = c.args in
    room a.out.now c.put_bytes-i.new.out c.put_bits-end.new.out a.key.now a.value.now a.unknown.now a.at a.width c.put_bytes-i.result c.put_bits-end.result
    c.requires.width_in_bounds c.put_bytes-i.auto.out c.put_bits-end.auto.out c.put_bytes-i.ensures c.put_bits-end.ensures

pub overflow_add-result : goal.overflow_add-result
overflow_add-result c =
    let a = c.args in
    let r = room a.out.now c.put_bytes-i.new.out c.put_bits-end.new.out a.key.now a.value.now a.unknown.now a.at a.width c.put_bytes-i.result c.put_bits-end.result
    c.requires.width_in_bounds c.put_bytes-i.auto.out c.put_bits-end.auto.out c.put_bytes-i.ensures c.put_bits-end.ensures in
    omega arith

pub returns : goal.returns
unfolding bits_text
returns c =
    let a = c.args in
    let bs = from_planes a.width a.value.now a.unknown.now in
    let r = room a.out.now c.put_bytes-i.new.out c.put_bits-end.new.out a.key.now a.value.now a.unknown.now a.at a.width c.put_bytes-i.result c.put_bits-end.result
    c.requires.width_in_bounds c.put_bytes-i.auto.out c.put_bits-end.auto.out c.put_bytes-i.ensures c.put_bits-end.ensures in
    three a.out.now a.at a.key.now (bit_digits bs) line_end c.put_bytes-i.ensures c.put_bits-end.ensures
    (put_byte c.put_bits-end.new.out c.put_bits-end.result 10 r) (omega (arith, c.requires.width_in_bounds))
