-- `literal_words::unchecked::times_plus`: a word and what is carried out of it, by the halves of the word.
use mathlib.Core.Path.{◌≡◌, sym, ap, ap₂, ◌∙◌}
use Prim.Native.Nat.{ℕ, ◌+◌, ◌*◌, ◌/◌, ◌%◌, ◌^◌}
use native.Mathlib.Omega.{arith}
use lib.ListN.{get_or}
use lib.Seq.{get_or-set_other}
use Rattle.words.proofs.Fill.{more, done}
use Rattle.literal_words.specs.Passes.{words_of}
use Rattle.literal_words.proofs.Passes.{word, carried, word-at, word-turn, carry-turn, half-small, halves}
use Rattle.literal_words.proofs.unchecked.times_plus.Goals as goal

pub loop-x-preserved : goal.loop-x-preserved
loop-x-preserved c =
    let l = c.loop-x in
    let a = c.args in
    let x : ℕ = get_or l.plane l.x-index 0 in
    let s = half-small x a.factor c.requires.0 (omega arith) in
    let h = halves x a.factor l.carry in
    record {
      small = omega (arith, s.0, s.1);
      kept = λ i m. get_or-set_other l.plane l.x-index i _ 0 (omega arith) ∙ l.invariant.kept i (omega arith);
      taken = λ n e. let t = l.invariant.taken n e in
          let here : x ≡ word n l.x-index = l.invariant.kept _ (omega arith) ∙ word-at a.plane.now n l.x-index e (omega arith) in
          let now : x * a.factor + l.carry ≡ word n l.x-index * a.factor + carried a.factor a.add n l.x-index =
          ap₂ (λ (y z : ℕ). y * a.factor + z) here t.0 in (
            h.1 ∙ ap (λ (y : ℕ). y / 2 ^ 64) now ∙ sym (carry-turn a.factor a.add n l.x-index),
            more t.1 (omega arith) (h.0 ∙ ap (λ (y : ℕ). y % 2 ^ 64) now ∙ sym (word-turn a.factor a.add n l.x-index)),
          );
    }

pub returns : goal.returns
unfolding words_of
returns c = λ n e. done (c.loop-x.invariant.taken n e).1 (omega arith)
