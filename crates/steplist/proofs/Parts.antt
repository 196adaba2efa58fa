-- From the code's answers for the parts of a list to what the readers find.
--     header-at     the header of an input, from the number of its kind
--     bits-found    the bits of an input stand in the text behind their key
--     left-broken, left-turn, left-all      several values, of which some are read into an array
--     first-inputs, first-steps      the first elements of an array, one by one
use mathlib.Core.Path.{◌≡◌, refl, sym, ap, ◌∙◌}
use mathlib.Core.List.{List, [], ◌∷◌, ◌++◌, map}
use Prim.Native.Nat.{ℕ, zero, suc, ◌+◌, ◌-◌, ◌≤◌, ◌<◌}
use native.Mathlib.Numerals.{add-one}
use native.Mathlib.Omega.{arith}
use lib.Dec.{eqb}
use lib.ListN.{length, take, drop, get_or, set, length-map, get_or-map}
use lib.Seq.{drop-drop, length-take-le, get_or-take, take-suc-set}
use borrow.Author.Tests.{ne_eqb}
use Rattle.std.proofs.Common.{Some}
use Rattle.bit.specs.declared.LogicBit.{LogicBit}
use Rattle.words.proofs.Planes.{eq-tabulate}
use Rattle.text.specs.Read.{Got, key, bits, bits_key, bits_line, many}
use Rattle.text.specs.Read.Got.{found, broken}
use Rattle.text.specs.Answers.{place_in, bits_in}
use Rattle.text.proofs.Exact.{next-found, key-only}
use Rattle.text.proofs.Vectors.{bits_at, bits_line-exact}
use Rattle.text.proofs.Places.{place-some}
use Rattle.text.proofs.Turns.{behind, many-done, many-next, many-broken}
use Rattle.ops.specs.declared.Step.{Step}
use Rattle.ops.specs.Ops.{no_step}
use Rattle.steplist.specs.Answers.{input_in, no_input, inputs_in, steps_in}
use Rattle.steplist.specs.Listing.{unsigned, all_kinds, kind_header}
use Rattle.steplist.specs.declared.Input.{Input}

-- ---- an input

pub header-at : (w n : ℕ) → kind_header w (get_or all_kinds n unsigned) ≡ record { width = w; is_signed = eqb n 1; is_fill = eqb n 2 }
header-at w zero = refl
header-at w (suc zero) = refl
header-at w (suc (suc zero)) = refl
header-at w (suc (suc (suc n))) =
    let one : suc (suc (suc n)) ≡ 1 → ⊥ = omega arith in
    let two : suc (suc (suc n)) ≡ 2 → ⊥ = omega arith in
    rw (ne_eqb _ _ one, ne_eqb _ _ two)

-- the bits of a line that begins at j stand behind its key
bits-stand : (s : List ℕ) (j w : ℕ) (bs : List LogicBit) (u : List ℕ) → bits_line bits_key w (drop j s) ≡ found bs u → bits_in s (j + 5) w ≡ bs
unfolding bits_line
bits-stand s j w bs u h =
    let n = next-found (key bits_key (drop j s)) (λ x. bits w) bs u h in
    let e : n.1 ≡ drop (j + 5) s = sym (ap (drop 5) (key-only bits_key (drop j s) n.1 n.0 n.2)) ∙ drop-drop 5 j s in
    sym (bits_at w s (j + 5) bs u (ap (bits w) (sym e) ∙ n.3))

pub bits-found : (s : List ℕ) (j w p : ℕ) → Some p ≡ place_in s (bits_line bits_key w (drop j s))
    → bits_line bits_key w (drop j s) ≡ found (bits_in s (j + 5) w) (drop p s)
bits-found s j w p e =
    let h = place-some (bits_line-exact bits_key w) s j p e in
    h.1 ∙ ap (λ (l : List LogicBit). found l (drop p s)) (sym (bits-stand s j w h.0 (drop p s) h.1))

-- ---- several values

-- n - k values at the front of the text t, behind the first k; `seen` is what the first elements of an array stand for
abbrev pub left : {A B : Type 0} → (List ℕ → Got B) → (List A → List B) → List A → ℕ → ℕ → List ℕ → Got (List B)
left r seen xs n k t = behind (seen (take k xs)) (many r (n - k) t)

-- each stands for `one` of it
module _ {A B : Type 0} (r : List ℕ → Got B) (seen : List A → List B) (one : A → B)
    (last : (xs : List A) (x : A) → seen xs ++ (one x ∷ []) ≡ seen (xs ++ (x ∷ []))) where
  pub left-broken : (xs : List A) (n k : ℕ) (t : List ℕ) → k < n → r t ≡ broken → left r seen xs n k t ≡ broken
  left-broken xs n k t h e =
      let m : n - k ≡ suc (n - (k + 1)) = omega arith in
      rw (m, many-broken r (seen (take k xs)) t (n - (k + 1)) e)

  pub left-turn : (xs : List A) (n k : ℕ) (t u : List ℕ) (x : A) → k < n → k < length xs → r t ≡ found (one x) u → left r seen xs n k t ≡ left r seen (set xs k x) n (k + 1) u
  left-turn xs n k t u x h l e =
      let m : n - k ≡ suc (n - (k + 1)) = omega arith in
      let q : take k xs ++ (x ∷ []) ≡ take (k + 1) (set xs k x) = sym (rw add-one (take-suc-set xs k x l)) in
      rw (m, many-next r (seen (take k xs)) t (n - (k + 1)) (one x) u e)
      (ap (λ (l : List B). behind l (many r (n - (k + 1)) u)) (last (take k xs) x ∙ ap seen q))

  pub left-all : (xs : List A) (n k : ℕ) (t : List ℕ) → k ≡ n → left r seen xs n k t ≡ found (seen (take n xs)) t
  left-all xs n k t e =
      let m : n - k ≡ 0 = omega arith in
      rw (m, many-done r (seen (take k xs)) t) (ap (λ (i : ℕ). found (seen (take i xs)) t) e)

pub first-inputs : (s : List ℕ) (xs : List Input) (n : ℕ) → n ≤ length xs → map (input_in s) (take n xs) ≡ inputs_in s n xs
first-inputs s xs n h =
    eq-tabulate n (λ i. input_in s (get_or xs i no_input)) (map (input_in s) (take n xs)) (input_in s no_input)
    (length-map (take n xs) (input_in s) ∙ length-take-le n xs h)
    (λ i m. get_or-map (input_in s) (take n xs) i no_input ∙ ap (input_in s) (get_or-take n xs i no_input m))

pub first-steps : (xs : List Step) (n : ℕ) → n ≤ length xs → take n xs ≡ steps_in n xs
first-steps xs n h = eq-tabulate n (λ i. get_or xs i no_step) (take n xs) no_step (length-take-le n xs h) (λ i m. get_or-take n xs i no_step m)

pub map_last : {A B : Type 0} (f : A → B) (xs : List A) (x : A) → map f xs ++ (f x ∷ []) ≡ map f (xs ++ (x ∷ []))
map_last f [] x = refl
map_last {B = B} f (y ∷ ys) x = ap (λ (l : List B). f y ∷ l) (map_last f ys x)
