-- What the two tables of ops leave out, and what exactness rules out.
--     left_out       an op is left out exactly if it loses a known bit in some run, and if it is not exact in some step that is run, on
--                    comparable operands if it is an equality
--     signed-inexact, fill-inexact     equalities that are not exact since one unknown bit stands at several places
--     exact-fixes    two vectors that are both exact have the same known bits at the places that both have; with `step-exact`, a module that
--                    gives x where these definitions give 0 or 1 is not exact
use mathlib.Core.Path.{◌≡◌, refl, sym, ◌∙◌, subst, ap₂}
use mathlib.Core.Bool.{Bool, true, false, not, ◌&&◌}
use mathlib.Core.Logic.Iff
use mathlib.Core.Logic.{inl, inr, ◌↔◌, ◌≢◌}
use mathlib.Core.List.{List, [], ◌∷◌}
use Prim.Native.Nat.{ℕ, zero, suc, ◌<◌}
use native.Mathlib.Omega.{arith}
use lib.Dec.{T}
use lib.ListN.{length}
use Rattle.bit.specs.declared.LogicBit.{LogicBit}
use Rattle.bit.specs.declared.LogicBit.TheVariants.{Zero, One, X, Z}
use Rattle.bit.specs.Rules.{same, known}
use Rattle.bit.proofs.Tests.{and_left, and_right}
use Rattle.refusal.specs.Outcome.Answer.{given}
use Rattle.words.specs.Vector.{at, tabulate}
use Rattle.value.specs.Checks.{plain, Vector}
use Rattle.compare_words.specs.declared.Comparison.TheVariants as comparison
use Rattle.compare_words.specs.Compared.{compared}
use Rattle.ops.specs.declared.Op.{Op}
use Rattle.ops.specs.declared.Op.TheVariants.{And, Or, Xor, Not, Merge, ReduceAnd, ReduceOr, ReduceXor, Equal, CaseEqual, CasezEqual, CasexEqual, WildcardEqual, LogicAnd, LogicOr, Select, Insert}
use Rattle.ops.specs.declared.Step.{Step}
use Rattle.machine.specs.declared.Room.{Room}
use Rattle.machine.specs.Machine.{Cell, headers_of, vector_at, words_taken, check_step, step_cell, run_from, input_cells, machine_run}
use Rattle.knownness.specs.Knownness.{keeps_known, is_exact, AllKeep, Known, Refines, Completes, Pointwise, Cellwise, AllSound, gives, AllGive, ExactStep, Loses, Inexact, LeftOut}
use Rattle.knownness.proofs.Runs.{step-exact, alike}

-- ---- zx beside zx, and 00 beside 11, which refine and complete it

pair : LogicBit → LogicBit → Vector
pair a b = record { header = plain 2; bits = a ∷ b ∷ [] }

unknown : List Cell
unknown = input_cells (pair X Z ∷ pair X Z ∷ [])

apart : List Cell
apart = input_cells (pair Zero Zero ∷ pair One One ∷ [])

abbrev of : Op → Step
of op = record { op = op; a = 0; b = 1; c = 0 }

room : Room
room = record { arena = 3; scratch = 1 }

made : Op → List Cell → LogicBit
made op cs = at (vector_at (machine_run room cs (of op ∷ [])).cells 2).bits 0

-- what holds of x and b, of z and b and of 0 and 0 holds at each place of zx and bb
made-known : (R : LogicBit → LogicBit → Type 0) → R Zero Zero → (b : LogicBit) → R X b → R Z b → Pointwise R (pair X Z) (pair b b)
unfolding pair
made-known R n b x z = (refl, refl, go)
  where
    go : (i : ℕ) → R (at (X ∷ Z ∷ []) i) (at (b ∷ b ∷ []) i)
    go zero = x
    go (suc zero) = z
    go (suc (suc i)) = n

sound : AllSound unknown
unfolding unknown pair
sound zero = refl
sound (suc zero) = refl
sound (suc (suc j)) = refl

refines : Cellwise Refines unknown apart
unfolding unknown apart
refines = (refl, go)
  where
    go : (j : ℕ) → Pointwise Refines (vector_at unknown j) (vector_at apart j)
    go zero = made-known Refines (inl refl) Zero (inr (tt, tt)) (inr (tt, tt))
    go (suc zero) = made-known Refines (inl refl) One (inr (tt, tt)) (inr (tt, tt))
    go (suc (suc j)) = (refl, refl, λ i. inl refl)

one_not_zero : ◌≢◌ {A = LogicBit} Zero One
one_not_zero e = subst (λ (b : LogicBit). T (same b Zero)) e tt

-- ---- an op that says 1 of the first and 0 of the second

lost : (op : Op) → made op unknown ≡ One → made op apart ≡ Zero → Loses op
unfolding made
lost op e f = record {
  room = room;
  cells = unknown;
  refined = apart;
  step = of op;
  by = refl;
  sound = sound;
  refines = refines;
  cell = 2;
  place = 0;
  known-bit = subst Known (sym e) tt;
  changes = λ q. one_not_zero (sym f ∙ q ∙ e);
}

not-exact : (op : Op) → check_step room (headers_of unknown) (of op) ≡ given tt → op ≢ Equal
    → 0 < length (step_cell unknown (of op)).vector.bits → at (step_cell unknown (of op)).vector.bits 0 ≡ One
    → gives op 0 false (pair Zero Zero) (pair One One) (pair Zero Zero) 0 ≡ Zero → Inexact op
unfolding unknown
not-exact op a n l e f = record {
  room = room;
  cells = unknown;
  step = of op;
  by = refl;
  sound = sound;
  accepted = a;
  comparable = λ q. absurd (n q);
  inexact = λ x. one_not_zero (sym f
      ∙ (x 0 l One tt).0 e (pair Zero Zero) (pair One One) (pair Zero Zero) (completed Zero tt) (completed One tt) (completed Zero tt) false);
}
  where
    completed : (b : LogicBit) → Known b → Pointwise Completes (pair X Z) (pair b b)
    completed b k = made-known Completes (tt, λ q. refl) b (k, λ q. absurd q) (k, λ q. absurd q)

-- ---- the tables

loses : (op : Op) → T (not (keeps_known op)) → Loses op
unfolding made unknown apart pair room run_from check_step words_taken tabulate
loses And h = absurd h
loses Or h = absurd h
loses Xor h = absurd h
loses Not h = absurd h
loses Merge h = absurd h
loses ReduceAnd h = absurd h
loses ReduceOr h = absurd h
loses ReduceXor h = absurd h
loses Equal h = absurd h
loses CaseEqual h = lost CaseEqual refl refl
loses CasezEqual h = lost CasezEqual refl refl
loses CasexEqual h = lost CasexEqual refl refl
loses WildcardEqual h = lost WildcardEqual refl refl
loses LogicAnd h = absurd h
loses LogicOr h = absurd h
loses Select h = absurd h
loses Insert h = absurd h

not_equal : (op : Op) → T (not (is_exact op)) → op ≢ Equal
not_equal op h e = subst (λ (o : Op). T (not (is_exact o))) e h

inexact : (op : Op) → T (not (is_exact op)) → Inexact op
unfolding unknown pair room check_step words_taken tabulate
inexact And h = absurd h
inexact Or h = absurd h
inexact Xor h = absurd h
inexact Not h = absurd h
inexact Merge h = absurd h
inexact ReduceAnd h = absurd h
inexact ReduceOr h = absurd h
inexact ReduceXor h = absurd h
inexact Equal h = absurd h
inexact CaseEqual h = not-exact CaseEqual refl (not_equal CaseEqual tt) (omega arith) refl refl
inexact CasezEqual h = not-exact CasezEqual refl (not_equal CasezEqual tt) (omega arith) refl refl
inexact CasexEqual h = not-exact CasexEqual refl (not_equal CasexEqual tt) (omega arith) refl refl
inexact WildcardEqual h = not-exact WildcardEqual refl (not_equal WildcardEqual tt) (omega arith) refl refl
inexact LogicAnd h = absurd h
inexact LogicOr h = absurd h
inexact Select h = absurd h
inexact Insert h = absurd h

-- ---- the other way

one_kept : (s : Step) → T (keeps_known s.op) → AllKeep (s ∷ [])
one_kept s t zero = t
one_kept s t (suc k) = tt

none-lost : (op : Op) → Loses op → ¬ (T (keeps_known op))
none-lost op l t =
    l.changes
    ((((alike l.room l.cells l.refined (l.step ∷ []) l.sound l.refines).kept
    (one_kept l.step (subst (λ (o : Op). T (keeps_known o)) (sym l.by) t))).1 l.cell).2 l.place l.known-bit)

none-inexact : (op : Op) → Inexact op → ¬ (T (is_exact op))
none-inexact op l t =
    l.inexact
    (step-exact l.room l.cells l.step tt l.accepted l.sound (subst (λ (o : Op). T (is_exact o)) (sym l.by) t, l.comparable))

refuted : (b : Bool) → ¬ (T b) → T (not b)
refuted true n = n tt
refuted false n = tt

pub left_out : LeftOut
left_out = record {
  loses = λ op. (loses op, λ l. refuted (keeps_known op) (none-lost op l));
  inexact = λ op. (inexact op, λ l. refuted (is_exact op) (none-inexact op l));
}

-- ---- equalities whose operands are not comparable

same-list : (l m : List LogicBit) → length m ≡ length l → ((i : ℕ) → at m i ≡ at l i) → m ≡ l
same-list [] [] e h = refl
same-list [] (y ∷ ys) e h = absurd (omega arith)
same-list (x ∷ xs) [] e h = absurd (omega arith)
same-list (x ∷ xs) (y ∷ ys) e h = ap₂ (λ (b : LogicBit) (bs : List LogicBit). b ∷ bs) (h zero) (same-list xs ys (omega arith) (λ i. h (suc i)))

-- a completion, by its bits
by_bits : (v a : Vector) → Pointwise Completes v a → (bs : List LogicBit) → length bs ≡ length v.bits → ((i : ℕ) → at a.bits i ≡ at bs i)
    → a ≡ record { header = v.header; bits = bs }
by_bits v a h bs e f = λ k. record { header = h.0 k; bits = same-list bs a.bits (h.1 ∙ sym e) f k }

-- the equality of the first two cells is not known exactly
abbrev InexactEqual : List Cell → Type 0
InexactEqual cs = ¬ (ExactStep cs (of Equal) (step_cell cs (of Equal)).vector)

-- an operand with one unknown bit, beside a known one: x, though 0 for both completions
module _ (f : LogicBit → Vector) (b : Vector) (completed : (a : Vector) → Pointwise Completes (f X) a → (p : LogicBit) × Known p × (a ≡ f p))
    (only : (d : Vector) → Pointwise Completes b d → d ≡ b) where
  one-unknown : compared comparison.Equal (f X) b ≡ X → compared comparison.Equal (f Zero) b ≡ Zero → compared comparison.Equal (f One) b ≡ Zero
      → InexactEqual (input_cells (f X ∷ b ∷ []))
  one-unknown x z o e = zero-not-x (sym ((e 0 (omega arith) Zero tt).1 all-zero) ∙ x)
    where
      zero-not-x : ◌≢◌ {A = LogicBit} Zero X
      zero-not-x q = subst (λ (b : LogicBit). T (known b)) q tt

      known-zero : (p : LogicBit) → Known p → compared comparison.Equal (f p) b ≡ Zero
      known-zero Zero k = z
      known-zero One k = o
      known-zero X k = absurd k
      known-zero Z k = absurd k

      all-zero : AllGive (input_cells (f X ∷ b ∷ [])) (of Equal) 0 Zero
      all-zero a d c ha hd hc second =
          let w = completed a ha in
          ap₂ (compared comparison.Equal) w.2 (only d hd) ∙ known-zero w.0 w.1

-- a vector without an unknown bit is its only completion
all_known : List LogicBit → Bool
all_known [] = true
all_known (b ∷ bs) = known b && all_known bs

known_at : (bs : List LogicBit) → T (all_known bs) → (i : ℕ) → Known (at bs i)
unfolding all_known
known_at [] t i = tt
known_at (b ∷ bs) t zero = and_left (known b) (all_known bs) t
known_at (b ∷ bs) t (suc i) = known_at bs (and_right (known b) (all_known bs) t) i

itself : (v d : Vector) → T (all_known v.bits) → Pointwise Completes v d → d ≡ v
itself v d t h = by_bits v d h v.bits refl (λ i. (h.2 i).1 (known_at v.bits t i))

abbrev signed_bits : List LogicBit → Vector
signed_bits bs = record { header = record { width = length bs; is_signed = true; is_fill = false }; bits = bs }

abbrev fill_bits : List LogicBit → Vector
fill_bits bs = record { header = record { width = length bs; is_signed = false; is_fill = true }; bits = bs }

-- signed x0 beside signed 0100 (document 01, "Cases on either side")
pub signed-inexact : InexactEqual (input_cells (signed_bits (Zero ∷ X ∷ []) ∷ signed_bits (Zero ∷ Zero ∷ One ∷ Zero ∷ []) ∷ []))
unfolding tabulate all_known
signed-inexact =
    let b = signed_bits (Zero ∷ Zero ∷ One ∷ Zero ∷ []) in
    one-unknown (λ p. signed_bits (Zero ∷ p ∷ [])) b completed (λ d. itself b d tt) refl refl refl
  where
    completed : (a : Vector) → Pointwise Completes (signed_bits (Zero ∷ X ∷ [])) a → (p : LogicBit) × Known p × (a ≡ signed_bits (Zero ∷ p ∷ []))
    completed a h = (at a.bits 1, (h.2 1).0, by_bits (signed_bits (Zero ∷ X ∷ [])) a h (Zero ∷ at a.bits 1 ∷ []) refl each)
      where
        each : (i : ℕ) → at a.bits i ≡ at (Zero ∷ at a.bits 1 ∷ []) i
        each zero = (h.2 0).1 tt
        each (suc zero) = refl
        each (suc (suc i)) = (h.2 (suc (suc i))).1 tt

-- a fill x beside 01
pub fill-inexact : InexactEqual (input_cells (fill_bits (X ∷ []) ∷ record { header = plain 2; bits = One ∷ Zero ∷ [] } ∷ []))
unfolding tabulate all_known
fill-inexact =
    let b : Vector = record { header = plain 2; bits = One ∷ Zero ∷ [] } in
    one-unknown (λ p. fill_bits (p ∷ [])) b completed (λ d. itself b d tt) refl refl refl
  where
    completed : (a : Vector) → Pointwise Completes (fill_bits (X ∷ [])) a → (p : LogicBit) × Known p × (a ≡ fill_bits (p ∷ []))
    completed a h = (at a.bits 0, (h.2 0).0, by_bits (fill_bits (X ∷ [])) a h (at a.bits 0 ∷ []) refl each)
      where
        each : (i : ℕ) → at a.bits i ≡ at (at a.bits 0 ∷ []) i
        each zero = refl
        each (suc i) = (h.2 (suc i)).1 tt

-- ---- exactness fixes the known bits

pub exact-fixes : (cs : List Cell) (s : Step) (c d : Vector) → ExactStep cs s c → ExactStep cs s d
    → (i : ℕ) → i < length c.bits → i < length d.bits → (v : LogicBit) → Known v → (at c.bits i ≡ v) ↔ (at d.bits i ≡ v)
exact-fixes cs s c d f g i l m v k = Iff.trans (f i l v k) (Iff.symm (g i m v k))
