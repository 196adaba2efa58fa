-- Texts read from the left.
--     has_any                  whether a byte stands in a text
--     place_some, place_none   the place of the first such byte, and where there is none
--     part_split               the parts that have such a byte between them
--     bare_empty, bare_marked, bare_other     a text without its mark
--     digit, no-digit          a decimal, digit by digit
use Rattle.std.proofs.Common.{◌≡◌, ℕ, zero, suc, ◌+◌, ◌*◌, ◌%◌, ◌^◌, ◌<◌, ◌≤◌, max, Bool, true, false, not, cond, ◌||◌, eqb, ltb, Option, Some, None, List, [], ◌∷◌, length, get_or, drop, refl, sym, ap, ◌∙◌, add-one, arith, length-drop, drop_of_length-le, drop-cons, lt-ltb, ltb-false}
use Rattle.std.proofs.Math.Dec.{leb-suc-suc}
use Rattle.std.specs.List.{list_any, position, position_or_len, slice_get, slice_split, onto_first}
use Rattle.std.proofs.lemmas.List.Sums.{prefix_len-le-length}
use Rattle.std.proofs.lemmas.Option.{cond_some}
use Rattle.std.specs.Option.{unwrap_or}
use Rattle.replay.specs.Text.{before, place_from, has, part_of, bare_of, digits_from}
use Rattle.text.specs.Read.{bytes}

module _ (b : ℕ) where
  abbrev pub is : ℕ → Bool
  is c = eqb c b

  pub has_any : (s : List ℕ) → list_any is s ≡ has b s
  unfolding before
  has_any [] = refl
  has_any (c ∷ t) = go (eqb c b) (has_any t)
    where
      go : (z : Bool) → list_any is t ≡ ltb (length (before b t)) (length t) → (z || list_any is t) ≡ ltb (length (cond z [] (c ∷ before b t))) (suc (length t))
      go true h = sym (lt-ltb 0 (suc (length t)) (omega arith))
      go false h = h ∙ sym (leb-suc-suc (suc (length (before b t))) (length t))

  before-position : (s : List ℕ) → length (before b s) ≡ position_or_len is s
  unfolding before
  before-position [] = refl
  before-position (c ∷ t) = go (eqb c b) (before-position t)
    where
      go : (z : Bool) → length (before b t) ≡ position_or_len is t → length (cond z [] (c ∷ before b t)) ≡ cond (not z) (1 + position_or_len is t) 0
      go true h = refl
      go false h = omega (arith, h)

  -- the place of the first one from i on, or the end
  at-most : (s : List ℕ) → length (before b s) ≤ length s
  at-most s = rw (before-position s) (prefix_len-le-length (λ c. not (is c)) s)

  pub place_some : (s : List ℕ) (i n : ℕ) → Some n ≡ position is (drop i s) → (i + n ≡ place_from b s i) × (i + n ≤ max i (length s))
  place_some s i n e =
      let f = cond_some (ltb (position_or_len is (drop i s)) (length (drop i s))) (position_or_len is (drop i s)) n (sym e) in
      let p = before-position (drop i s) in
      let l = at-most (drop i s) in
      (omega (arith, f.1), omega (arith, f.1, length-drop i s))

  pub place_none : (s : List ℕ) (i : ℕ) → None ≡ position is (drop i s) → place_from b s i ≡ max i (length s)
  place_none s i e = go (ltb (position_or_len is (drop i s)) (length (drop i s))) refl e
    where
      go : (z : Bool) → ltb (position_or_len is (drop i s)) (length (drop i s)) ≡ z → ◌≡◌ {A = Option ℕ} None (cond z (Some (position_or_len is (drop i s))) None)
          → place_from b s i ≡ max i (length s)
      go true q e = let z : ◌≡◌ {A = ℕ} 0 1 = cc in absurd (omega arith)
      go false q e =
          let p = before-position (drop i s) in
          let l = at-most (drop i s) in
          let m = ltb-false (position_or_len is (drop i s)) (length (drop i s)) q in
          omega (arith, length-drop i s)

  no_part : (k : ℕ) → part_of b k [] ≡ []
  unfolding part_of before
  no_part zero = refl
  no_part (suc k) = no_part k

  -- the first part, and the parts behind it
  abbrev rest : List ℕ → List ℕ
  rest s = drop (length (before b s) + 1) s

  abbrev behind : List ℕ → List (List ℕ)
  behind s = cond (has b s) (slice_split is (rest s)) []

  split-first : (s : List ℕ) → slice_split is s ≡ before b s ∷ behind s
  unfolding before
  split-first [] = refl
  split-first (c ∷ t) = go (eqb c b) (split-first t)
    where
      go : (z : Bool) → slice_split is t ≡ before b t ∷ behind t
          → cond z ([] ∷ slice_split is t) (onto_first c (slice_split is t))
          ≡ cond z [] (c ∷ before b t)
          ∷ cond (ltb (length (cond z [] (c ∷ before b t))) (suc (length t))) (slice_split is (drop (length (cond z [] (c ∷ before b t)) + 1) (c ∷ t))) []
      go true h = let l : ltb 0 (suc (length t)) ≡ true = lt-ltb 0 (suc (length t)) (omega arith) in rw l
      go false h =
          let n : suc (length (before b t)) + 1 ≡ suc (length (before b t) + 1) = omega arith in
          rw (h, leb-suc-suc (suc (length (before b t))) (length t), n)

  pub part_split : (k : ℕ) (s : List ℕ) → part_of b k s ≡ unwrap_or (slice_get (slice_split is s) k) []
  unfolding part_of
  part_split zero s = rw (split-first s)
  part_split (suc k) s = rw (split-first s) (go (has b s) refl (part_split k (rest s)))
    where
      go : (z : Bool) → has b s ≡ z → part_of b k (rest s) ≡ unwrap_or (slice_get (slice_split is (rest s)) k) []
          → part_of b k (rest s) ≡ unwrap_or (slice_get (cond z (slice_split is (rest s)) []) k) []
      go true e h = h
      go false e h =
          let l = ltb-false (length (before b s)) (length s) e in
          let m : length s ≤ length (before b s) + 1 = omega arith in
          ap (part_of b k) (drop_of_length-le s m) ∙ no_part k

pub bare_empty : (s : List ℕ) → length s ≡ 0 → bare_of s ≡ s
unfolding bare_of before
bare_empty [] h = refl
bare_empty (c ∷ t) h = absurd (omega arith)

module _ (c : ℕ) (t : List ℕ) where
  pub bare_marked : has c (bytes "usfgr-!") ≡ true → bare_of (c ∷ t) ≡ t
  unfolding bare_of
  bare_marked h = rw h

  pub bare_other : has c (bytes "usfgr-!") ≡ false → bare_of (c ∷ t) ≡ c ∷ t
  unfolding bare_of
  bare_other h = rw h

pub digit : (n : ℕ) (s : List ℕ) (i : ℕ) → i < length s → digits_from n (drop i s) ≡ digits_from ((n * 10 + get_or s i 0 % 16) % 2 ^ 64) (drop (i + 1) s)
unfolding digits_from
digit n s i h = rw (add-one i, drop-cons s i 0)

pub no-digit : (n : ℕ) (s : List ℕ) (i : ℕ) → length s ≤ i → digits_from n (drop i s) ≡ n
unfolding digits_from
no-digit n s i h = rw drop_of_length-le
