-- The line op= accepts the text of each op, and no other; and so does every line of a key and one of several names.
--     name-exact, choice-exact     a line of a key and one of several names
--     op-exact      the line op=
--     choice-none, choice-found, choice-within     what the code's answer says of such a line
use mathlib.Core.Path.{◌≡◌, refl, sym, ap, ◌∙◌}
use mathlib.Core.Bool.{true}
use mathlib.Core.List.{List, [], ◌∷◌, ◌++◌, map}
use Prim.Native.Nat.{ℕ, zero, suc, ◌≤◌, ◌<◌}
use native.Mathlib.Omega.{arith}
use lib.ListN.{length, drop, get_or, length-map}
use Rattle.std.proofs.Common.{Option, Some, None}
use Rattle.text.specs.Read.{next, line_end, one_of}
use Rattle.text.specs.Read.Got.{found, broken}
use Rattle.text.specs.Answers.{line_in}
use Rattle.text.specs.Exact.{Exact}
use Rattle.text.specs.declared.Line.{Line}
use Rattle.text.proofs.Exact.{next-found, after-key}
use Rattle.text.proofs.Places.{line-none, line-some, line-within}
use Rattle.text.proofs.Names.{distinct, name_text, one_of-exact, keyed-names}
use Rattle.ops.specs.declared.Op.{Op}
use Rattle.ops.specs.declared.Op.TheVariants.{And, Or, Xor, Not, Merge, ReduceAnd, ReduceOr, ReduceXor, Equal, CaseEqual, CasezEqual, CasexEqual, WildcardEqual, LogicAnd, LogicOr, Select, Insert}
use Rattle.steplist.specs.OpLine.{op_text, name_line, choice_line, op_key, op_line}
use Rattle.ops.specs.Names.{all_ops}

-- ---- one of several names

pub name-exact : (k : List ℕ) (names : List (List ℕ)) → distinct names ≡ true → Exact (name_line k names) (λ n. k ++ name_text names n) (λ n. n < length names)
unfolding name_line
name-exact k names d = after-key k (one_of-exact names d)

name-at : {A : Type 0} (name : A → List ℕ) (l : List A) (d : A) (n : ℕ) → n < length l → get_or (map name l) n [] ≡ name (get_or l n d)
name-at name [] d n h = absurd (omega arith)
name-at name (a ∷ l) d zero h = refl
name-at name (a ∷ l) d (suc n) h = name-at name l d n (omega arith)

-- every value stands in the list
pub choice-exact : {A : Type 0} (k : List ℕ) (name : A → List ℕ) (l : List A) (d : A) → distinct (map name l) ≡ true
    → ((a : A) → (n : ℕ) × (n < length l) × (get_or l n d ≡ a))
    → Exact (choice_line k name l d) (λ a. k ++ (name a ++ line_end)) (λ a. Unit {0})
unfolding choice_line name_text
choice-exact {A} k name l d e listed = record {
  accepts = λ a t p.
      let i = listed a in
      let n : ℕ = i.0 in
      let w : get_or (map name l) n [] ≡ name a = name-at name l d n i.1 ∙ ap name i.2 in
      ap (λ (z : List ℕ). next (name_line k (map name l) ((k ++ (z ++ line_end)) ++ t)) (λ n. found (get_or l n d))) (sym w)
      ∙ ap (λ z. next z (λ n. found (get_or l n d))) (x.accepts n t (rw (length-map l name) i.1))
      ∙ ap (λ (z : A). found z t) i.2;
  only = λ a t u h.
      let f = next-found (name_line k (map name l) t) (λ n. found (get_or l n d)) a u h in
      let n : ℕ = f.0 in
      let o = x.only n t f.1 f.2 in
      let v : get_or l n d ≡ a = cc f.3 in
      let q : f.1 ≡ u = cc f.3 in
      let w : get_or (map name l) n [] ≡ name a = name-at name l d n (rw (length-map l name) at o.0) ∙ ap name v in
      (tt, o.1 ∙ ap (λ (z : List ℕ). (k ++ (get_or (map name l) n [] ++ line_end)) ++ z) q ∙ ap (λ (z : List ℕ). (k ++ (z ++ line_end)) ++ u) w);
}
  where
    x : Exact (name_line k (map name l)) (λ n. k ++ name_text (map name l) n) (λ n. n < length (map name l))
    x = name-exact k (map name l) e

-- ---- the line op=

op-listed : (o : Op) → (n : ℕ) × (n < 17) × (get_or all_ops n And ≡ o)
op-listed And = (0, omega arith, refl)
op-listed Or = (1, omega arith, refl)
op-listed Xor = (2, omega arith, refl)
op-listed Not = (3, omega arith, refl)
op-listed Merge = (4, omega arith, refl)
op-listed ReduceAnd = (5, omega arith, refl)
op-listed ReduceOr = (6, omega arith, refl)
op-listed ReduceXor = (7, omega arith, refl)
op-listed Equal = (8, omega arith, refl)
op-listed CaseEqual = (9, omega arith, refl)
op-listed CasezEqual = (10, omega arith, refl)
op-listed CasexEqual = (11, omega arith, refl)
op-listed WildcardEqual = (12, omega arith, refl)
op-listed LogicAnd = (13, omega arith, refl)
op-listed LogicOr = (14, omega arith, refl)
op-listed Select = (15, omega arith, refl)
op-listed Insert = (16, omega arith, refl)

pub op-exact : Exact op_line (λ o. op_key ++ (op_text o ++ line_end)) (λ o. Unit {0})
unfolding op_line
op-exact = choice-exact op_key op_text all_ops And refl op-listed

-- ---- the code's answer for such a line, from the number of the name

module _ {A : Type 0} (k : List ℕ) (name : A → List ℕ) (l : List A) (d : A) (e : distinct (map name l) ≡ true) (s : List ℕ) (at : ℕ) where
  abbrev lines : List (List ℕ)
  lines = map (λ n. k ++ n) (map name l)

  -- the lines of the key and a name
  keyed : (a : Option Line) → a ≡ line_in s (one_of lines 0 (drop at s)) → a ≡ line_in s (name_line k (map name l) (drop at s))
  unfolding name_line
  keyed a h = h ∙ ap (line_in s) (keyed-names k (map name l) 0 (drop at s))

  pub choice-none : None ≡ line_in s (one_of lines 0 (drop at s)) → choice_line k name l d (drop at s) ≡ broken
  unfolding choice_line
  choice-none h = rw (line-none s (name_line k (map name l) (drop at s)) (keyed None h))

  module _ (x : Line) (h : Some x ≡ line_in s (one_of lines 0 (drop at s))) where
    pub choice-found : choice_line k name l d (drop at s) ≡ found (get_or l x.number d) (drop x.next s)
    unfolding choice_line
    choice-found = rw (line-some (name-exact k (map name l) e) s at x (keyed (Some x) h))

    pub choice-within : (x.number < length l) × (x.next ≤ length s)
    choice-within =
        let w = line-within (name-exact k (map name l) e) s at x (keyed (Some x) h) in
        (rw (length-map l name) at w.0, w.1)
