-- Words put into an arena.
--     tail-back       what an arena holds after its end part was lent to a copying function
--     put-take, put-span, put-drop, put-length     the words before those put in, those themselves, those behind, and how many there are
--     front-is        the front of a plane is what was put there
--     front-back      what two planes hold after their first words were lent
use mathlib.Core.Path.{◌≡◌, refl, sym, ap, ap₂, ◌∙◌}
use mathlib.Core.List.{List, ◌++◌, append-nil}
use Prim.Native.Nat.{ℕ, ◌≤◌, ◌+◌, ◌-◌}
use native.Mathlib.Omega.{arith}
use lib.ListN.{length, take, drop, length-append, length-drop, drop_of_length-le}
use lib.Seq.{take_all, take_at, drop_at, drop-drop, length-take-le}
use borrow.Rule.Slice.PartMut.{put_mid}
use Rattle.words.specs.Planes.{Planes, lent}
use Rattle.cells.specs.Cells.{put_words, put_planes}

module _ (k : ℕ) (arena : List ℕ) where
  rest : length (drop k arena) ≤ length arena - k
  rest = simp length-drop (omega arith)

  pub tail-back : (left p : List ℕ) → left ≡ p ++ drop (length p) (take (length arena - k) (drop k arena))
      → put_mid k (length arena - k) arena left ≡ put_words k p arena
  tail-back left p e =
      let n = length arena - k in
      ap (λ (y : List ℕ). take k arena ++ (y ++ drop n (drop k arena))) e
      ∙ ap (λ (x : List ℕ). take k arena ++ ((p ++ drop (length p) (take n (drop k arena))) ++ x)) (drop_of_length-le (drop k arena) rest)
      ∙ ap (λ (x : List ℕ). take k arena ++ x) (append-nil (p ++ drop (length p) (take n (drop k arena))))
      ∙ ap (λ (x : List ℕ). take k arena ++ (p ++ drop (length p) x)) (take_all n (drop k arena) rest)
      ∙ ap (λ (x : List ℕ). take k arena ++ (p ++ x)) (drop-drop (length p) k arena)

module _ (k : ℕ) (p arena : List ℕ) (h : k + length p ≤ length arena) where
  before : length (take k arena) ≡ k
  before = length-take-le k arena (omega arith)

  pub put-take : take k (put_words k p arena) ≡ take k arena
  put-take = take_at (take k arena) (p ++ drop (k + length p) arena) k before

  pub put-span : take (length p) (drop k (put_words k p arena)) ≡ p
  put-span =
      ap (λ (x : List ℕ). take (length p) x) (drop_at (take k arena) (p ++ drop (k + length p) arena) k before)
      ∙ take_at p (drop (k + length p) arena) (length p) refl

  pub put-drop : drop (k + length p) (put_words k p arena) ≡ drop (k + length p) arena
  put-drop =
      sym (drop-drop (length p) k (put_words k p arena))
      ∙ ap (λ (x : List ℕ). drop (length p) x) (drop_at (take k arena) (p ++ drop (k + length p) arena) k before)
      ∙ drop_at p (drop (k + length p) arena) (length p) refl

  pub put-length : length (put_words k p arena) ≡ length arena
  put-length =
      let b = length-drop (k + length p) arena in
      let c = length-append (take k arena) (p ++ drop (k + length p) arena) in
      let d = length-append p (drop (k + length p) arena) in
      omega (arith, before)

-- the front of a plane is what was put there
pub front-is : (n : ℕ) (p plane : List ℕ) → length p ≡ n → n ≤ length plane → (take n (put_words 0 p plane) ≡ p) × (length (put_words 0 p plane) ≡ length plane)
front-is n p plane e h =
    let l : 0 + length p ≤ length plane = omega arith in
    (ap (λ (k : ℕ). take k (put_words 0 p plane)) (sym e) ∙ put-span 0 p plane l, put-length 0 p plane l)

-- the first n words of both planes were lent and hold the words of p
pub front-back : (n : ℕ) (left p scratch : Planes) → left ≡ p → n ≡ length p.value → n ≡ length p.unknown
    → lent (left.value ++ drop n scratch.value) (left.unknown ++ drop n scratch.unknown) ≡ put_planes 0 p scratch
front-back n left p scratch e v u =
    let x : n ≡ 0 + length p.value = omega arith in
    let y : n ≡ 0 + length p.unknown = omega arith in
    ap (λ (q : Planes). lent (q.value ++ drop n scratch.value) (q.unknown ++ drop n scratch.unknown)) e
    ∙ ap₂ (λ (i j : ℕ). lent (p.value ++ drop i scratch.value) (p.unknown ++ drop j scratch.unknown)) x y
