-- `cells::unchecked::copy_behind`: each arena's end part is written.
use mathlib.Core.Path.{◌≡◌, sym, ap, ap₂, ◌∙◌}
use mathlib.Core.List.{List, ◌++◌}
use Prim.Native.Nat.{ℕ, ◌-◌, ◌≤◌}
use lib.ListN.{length, take, drop}
use lib.Seq.{length-take-le}
use borrow.Rule.Slice.PartMut.{put_mid}
use Rattle.words.specs.Planes.{lent}
use Rattle.cells.specs.Cells.{put_words}
use Rattle.cells.proofs.Tail.{tail-back}
use Rattle.cells.proofs.unchecked.copy_behind.Goals as goal

-- words put in are the first of a plane
back : (k n : ℕ) (arena left p : List ℕ) → n ≤ length p → left ≡ take n p ++ drop n (take (length arena - k) (drop k arena))
    → put_mid k (length arena - k) arena left ≡ put_words k (take n p) arena
back k n arena left p h q =
    let size : length (take n p) ≡ n = length-take-le n p h in
    tail-back k arena left (take n p) (q ∙ ap (λ (i : ℕ). take n p ++ drop i (take (length arena - k) (drop k arena))) (sym size))

pub returns : goal.returns
returns c =
    let g = c.args in
    ap₂ lent
    (back g.at g.n g.av.now c.copy_front.new.plane g.value.now c.requires.n_in_bounds.0 c.copy_front.ensures)
    (back g.at g.n g.au.now c.copy_front-2.new.plane g.unknown.now c.requires.n_in_bounds.1 c.copy_front-2.ensures)
