-- `bitwise_words::unchecked::not_planes`: the words below k are those of not, by words; at the end the last one is, and the law gives the bits.
use mathlib.Core.Path.{◌≡◌, refl, ap, ap₂, ◌∙◌}
use Prim.Native.Nat.{ℕ, ◌-◌, ◌^◌}
use native.Mathlib.Omega.{arith}
use lib.ListN.{length}
use Rattle.words.specs.declared.Word.{Word}
use Rattle.words.specs.Vector.{tabulate}
use Rattle.words.specs.Planes.{word_in, lent, Words64}
use Rattle.words.proofs.Extend.{whole-mask}
use Rattle.words.proofs.Fill.{start, more, done}
use Rattle.lanes.specs.Lanes.{not_word}
use Rattle.bitwise_words.specs.Joined.{inverted_word}
use Rattle.bitwise_words.proofs.Inverted.{by-words}
use Rattle.bitwise_words.proofs.unchecked.not_planes.Goals as goal

pub loop-k-init : goal.loop-k-init
loop-k-init c = (start refl, start refl)

pub loop-k-preserved : goal.loop-k-preserved
loop-k-preserved c =
    let a = c.args in
    let k = c.loop-k.k in
    let e = c.not_lanes-r.ensures ∙ ap (not_word (word_in (lent a.av.now a.au.now) k)) (whole-mask a.width k (omega (arith, c.requires.ov_len.0))) in (
      more c.loop-k.invariant.0 (omega arith) (ap (λ (x : Word). x.value) e),
      more c.loop-k.invariant.1 (omega (arith, c.requires.ov_len.0, c.requires.ov_len.1)) (ap (λ (x : Word). x.unknown) e),
    )

pub returns : goal.returns
returns c =
    let a = c.args in
    let v = a.av.now in
    let u = a.au.now in
    let p = c.requires.ov_len in
    let h = c.loop-k.invariant in
    let last = length a.ov.now - 1 in
    let z : c.loop-k.k ≡ last = omega arith in
    let e : c.not_lanes-r-2.result ≡ inverted_word a.width (lent v u) last =
    c.not_lanes-r-2.ensures
    ∙ ap (not_word (word_in (lent v u) last)) (c.ones.ensures ∙ ap (λ (n : ℕ). 2 ^ n - 1) c.kept.ensures) in
    let f : Words64 (lent v u) = record {
      value-words = λ k. (c.type_inv.av k).fits;
      unknown-words = λ k. (c.type_inv.au k).fits;
    } in
    let r =
    ap₂ lent
    (done (more (rw z at h.0) (omega (arith, p.0)) (ap (λ (x : Word). x.value) e)) (omega (arith, p.0))
    ∙ ap (λ (n : ℕ). tabulate n (λ k. (inverted_word a.width (lent v u) k).value)) p.0)
    (done (more (rw z at h.1) (omega (arith, p.0, p.1)) (ap (λ (x : Word). x.unknown) e)) (omega (arith, p.0, p.1))
    ∙ ap (λ (n : ℕ). tabulate n (λ k. (inverted_word a.width (lent v u) k).unknown)) p.1) in
    record { ou_value = r; ou_value_2 = r ∙ by-words a.width v u f }
