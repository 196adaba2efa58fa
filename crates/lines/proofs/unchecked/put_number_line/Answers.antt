-- `lines::unchecked::put_number_line`: the key, the number behind it, LF.
use Prim.Native.Nat.{ℕ, ◌<◌, ◌+◌, ◌≤◌}
use mathlib.Core.Path.{◌≡◌}
use mathlib.Core.List.{List, ◌++◌}
use native.Mathlib.Omega.{arith}
use lib.ListN.{length}
use Rattle.text.specs.Read.{line_end}
use Rattle.text.specs.Write.{decimal, number_text}
use Rattle.lines.specs.Buffer.{buffer, put}
use Rattle.lines.proofs.Put.{put_byte, place_of, three, length-line}
use Rattle.lines.proofs.unchecked.put_number_line.Goals as goal

pub put_number-j-requires : goal.put_number-j-requires
put_number-j-requires c =
    let a = c.args in
    omega (arith, length-line a.key.now a.n, c.requires, place_of _ _ _ c.put_bytes-i.ensures)

-- there is room for LF behind the key k and the number
room : (d e f k : List ℕ) (at n i j : ℕ) → at + length (k ++ number_text n) ≤ length d → length e ≡ length d → length f ≡ length e
    → buffer e i ≡ put (buffer d at) k → buffer f j ≡ put (buffer e i) (decimal n) → j < length f
room d e f k at n i j h m o p q = omega (arith, length-line k n, place_of d at k p, place_of e i (decimal n) q)

pub bounds-out-j : goal.bounds-out-j
bounds-out-j c =
    let a = c.args in
    room a.out.now c.put_bytes-i.new.out c.put_number-j.new.out a.key.now a.at a.n c.put_bytes-i.result c.put_number-j.result
    c.requires c.put_bytes-i.auto.out c.put_number-j.auto.out c.put_bytes-i.ensures c.put_number-j.ensures

pub overflow_add-result : goal.overflow_add-result
overflow_add-result c =
    let a = c.args in
    let r = room a.out.now c.put_bytes-i.new.out c.put_number-j.new.out a.key.now a.at a.n c.put_bytes-i.result c.put_number-j.result
    c.requires c.put_bytes-i.auto.out c.put_number-j.auto.out c.put_bytes-i.ensures c.put_number-j.ensures in
    omega arith

pub returns : goal.returns
unfolding number_text
returns c =
    let a = c.args in
    let r = room a.out.now c.put_bytes-i.new.out c.put_number-j.new.out a.key.now a.at a.n c.put_bytes-i.result c.put_number-j.result
    c.requires c.put_bytes-i.auto.out c.put_number-j.auto.out c.put_bytes-i.ensures c.put_number-j.ensures in
    three a.out.now a.at a.key.now (decimal a.n) line_end c.put_bytes-i.ensures c.put_number-j.ensures
    (put_byte c.put_number-j.new.out c.put_number-j.result 10 r) (omega (arith, c.requires))
