-- `words::unchecked::copy_front`: the first i words are copied (`paste`).
use mathlib.Core.Path.{◌≡◌, sym, ap, ◌∙◌}
use mathlib.Core.List.{List, ◌++◌}
use Prim.Native.Nat.{ℕ, ◌<◌, ◌+◌}
use native.Mathlib.Nat.{zero-add}
use native.Mathlib.Numerals.{add-one}
use native.Mathlib.Omega.{arith}
use lib.ListN.{length, set, get_or, take, drop}
use lib.Seq.{paste, paste-zero, paste-suc}
use Rattle.words.proofs.unchecked.copy_front.Goals as goal

pub loop-i-init : goal.loop-i-init
loop-i-init c = paste-zero c.args.plane.now 0 c.args.from.now

-- one word more, at a place that is the next one
more : (d s l : List ℕ) (j i : ℕ) → i ≡ j → l ≡ paste d 0 s j → j < length s → j < length d → set l i (get_or s i 0) ≡ paste d 0 s (j + 1)
more d s l j i q e h k =
    let f : 0 + j < length d = omega arith in
    ap (λ (m : ℕ). set l m (get_or s m 0)) q
    ∙ ap (λ (x : List ℕ). set x j (get_or s j 0)) e
    ∙ ap (λ (m : ℕ). set (paste d 0 s j) m (get_or s j 0)) (sym (zero-add j))
    ∙ paste-suc d 0 s j 0 f h
    ∙ ap (paste d 0 s) (sym (add-one j))

pub loop-i-preserved : goal.loop-i-preserved
loop-i-preserved c = more c.args.plane.now c.args.from.now c.loop-i.plane c.loop-i.i _ (omega arith) c.loop-i.invariant (omega arith) (omega arith)

done : (d s l : List ℕ) (j n : ℕ) → l ≡ paste d 0 s j → j ≡ n → l ≡ take n s ++ drop n d
done d s l j n e h = e ∙ ap (paste d 0 s) h ∙ ap (λ (k : ℕ). take n s ++ drop k d) (zero-add n)

pub returns : goal.returns
returns c = done c.args.plane.now c.args.from.now c.loop-i.plane c.loop-i.i c.args.n c.loop-i.invariant (omega arith)
