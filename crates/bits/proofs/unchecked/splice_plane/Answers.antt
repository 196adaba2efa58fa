-- `bits::unchecked::splice_plane`: one word, or two where the bits cross a word edge.
use lib.Seq.{get_or-set_other}
use mathlib.Core.Bool.{cond}
use lib.Dec.{eqb}
use Rattle.words.specs.Vector.{bit_at, pack}
use mathlib.Core.Path.{◌≡◌, sym, ap, ◌∙◌}
use Prim.Native.Nat.{ℕ, ◌+◌, ◌-◌, ◌*◌, ◌/◌, ◌%◌, ◌^◌, ◌<◌}
use native.Mathlib.Nat.{div-add-mod'}
use native.Mathlib.Omega.{arith}
use lib.ListN.{get_or, length-set}
use Rattle.bits.proofs.Put.{low_word, spliced-one, high_word, spliced-two}
use Rattle.bits.proofs.unchecked.splice_plane.Goals as goal

pub returns-then-j-n-le64 : goal.returns-then-j-n-le64
returns-then-j-n-le64 c =
    let a = c.args in
    let p = a.plane.now in
    let q = a.pos / 64 in
    let j = a.pos % 64 in
    let e : a.pos ≡ q * 64 + j = sym (div-add-mod' a.pos 64) in
    let w : (i : ℕ) → get_or p i 0 < 2 ^ 64 = λ i. (c.slice_known-2-1.given i).fits in
    spliced-one p w a.pos a.n a.bits q j e (omega arith) (omega arith) c.blend.result (omega arith)
    (rw c.ones-m.ensures at c.blend.ensures ∙ low_word p w a.pos a.n a.bits q j e (omega arith) (omega arith))
    c.if-j-n-le64.true

pub bounds-plane-next : goal.bounds-plane-next
bounds-plane-next c = simp length-set (omega arith)

pub bounds-plane-next-2 : goal.bounds-plane-next-2
bounds-plane-next-2 c = simp length-set (omega arith)

pub returns : goal.returns
returns c =
    let a = c.args in
    let p = a.plane.now in
    let q = a.pos / 64 in
    let j = a.pos % 64 in
    let e : a.pos ≡ q * 64 + j = sym (div-add-mod' a.pos 64) in
    let w : (i : ℕ) → get_or p i 0 < 2 ^ 64 = λ i. (c.slice_known-2-1.given i).fits in
    let m = c.ones-m.ensures in
    spliced-two p w a.pos a.n a.bits q j e (omega arith) (omega arith) c.blend.result (omega arith)
    (rw m at c.blend.ensures ∙ low_word p w a.pos a.n a.bits q j e (omega arith) (omega arith))
    c.blend-2.result (omega arith)
    (rw m at c.blend-2.ensures
    ∙ ap (λ (x : ℕ). pack 64 (λ i. cond (eqb (bit_at ((2 ^ a.n - 1) / 2 ^ (64 - j)) i) 1) (bit_at (a.bits / 2 ^ (64 - j)) i) (bit_at x i)))
    (get_or-set_other p q (q + 1) c.blend.result 0 (λ z. absurd (omega arith)))
    ∙ high_word p w a.pos a.n a.bits q j e (omega arith) (omega arith))
