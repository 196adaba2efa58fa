-- What is taken where store and arenas agree.
--     told-accepted                   what the check of the cells tells of 14
--     store-refused                   what 14 refuses
--     input-refused, input-taken      an input
--     step_left, step-few, step-refused, step-executable, step-taken     a step
use mathlib.Core.Path.{◌≡◌, refl, sym, ap, ap₂, ◌∙◌, subst}
use mathlib.Core.Bool.{true}
use mathlib.Core.List.{List}
use Prim.Native.Nat.{ℕ, ◌≤◌, ◌<◌}
use native.Mathlib.Omega.{arith}
use lib.ListN.{length}
use Rattle.refusal.specs.Outcome.{Answer, Outcome, outcome, after, or_refuse}
use Rattle.refusal.specs.Outcome.Answer.{given, refused}
use Rattle.words.specs.Planes.{word_count, Planes, planes_of, vector_of}
use Rattle.words.proofs.Planes.{length-tabulate}
use Rattle.value.specs.declared.Header.{Header}
use Rattle.value.specs.Checks.{Vector, vector, check_vector}
use Rattle.ops.specs.declared.Step.{Step}
use Rattle.ops.specs.Ops.{arms_refused, op_vector}
use Rattle.machine.specs.Machine.{holding, check_count, check_input_behind, check_step}
use Rattle.cells.specs.declared.Cell.{Cell}
use Rattle.cells.specs.declared.Fields.{Fields}
use Rattle.cells.specs.Cells.{cell_vector, cell_agrees, check_cells, put_planes}
use Rattle.cells.specs.Places.{cell_of, no_cell}
use Rattle.cells.proofs.Answered.{not-given, after-given, answer-given, count-few}
use Rattle.cells.proofs.Spans.{Fits, fits-cell}
use Rattle.cells.proofs.Agreed.{headers-count, cells-accepted}
use Rattle.cells.proofs.Places.{cell-among}
use Rattle.plan.specs.declared.PlannedStep.{PlannedStep}
use Rattle.plan.specs.Planned.{planned}
use Rattle.plan.proofs.Named.{NamesFilled, names-within}
use Rattle.execute.specs.Executed.{LentMemory, planned_result, executed, Executable}
use Rattle.store.specs.Store.{State, state, store_of, store_headers, next_word, agrees, check_store, room_of, no_scratch, with_cell, put_cell, appended, add_input}
use Rattle.store.specs.Step.{Memory, memory, check_memory, step_result, worked, stepped, add_step}
use Rattle.store.specs.Taken.{take_input}
use Rattle.store.proofs.Held.{state-agrees}
use Rattle.store.proofs.Named.{filled_at, header-vector, vector-named}
use Rattle.store.proofs.Steps.{Admitted, behind-admitted, step-admitted, named-fits, step_added}

-- ---- 14

pub told-accepted : (s : State) (n : ℕ) → after (check_store s) (given (next_word s.store)) ≡ given n → (agrees s ≡ true) × (next_word s.store ≡ n)
told-accepted s n e =
    let x = answer-given (check_store s) (next_word s.store) n e in
    (cells-accepted s.arenas s.store.cells s.store.count x.0, x.1)

pub store-refused : (s : State) (k : ℕ) → check_store s ≡ refused k
    → ((h : Header) (p : Planes) → outcome (refused k) s ≡ add_input s h p)
    × ((scratch : Planes) (step : Step) → outcome (refused k) (memory s scratch) ≡ add_step (memory s scratch) step)
store-refused s k e = (
  λ h p.
      sym (ap (λ (x : Answer Unit). or_refuse
      (after x (check_input_behind (room_of s.arenas no_scratch) (length (store_headers s.store)) (next_word s.store) (check_vector h p) h.width))
      s (outcome (given s.store.count) (appended (holding (vector h p)) s))) e),
  λ scratch step.
      let m = memory s scratch in
      sym (ap (λ (x : Answer Unit). or_refuse (after x (check_step (room_of s.arenas scratch) (store_headers s.store) step)) m
      (outcome (given s.store.count) (stepped (step_result s step) m))) e),
)

store-accepted : (s : State) → agrees s ≡ true → check_store s ≡ given tt
unfolding check_cells
store-accepted s h = simp h

-- ---- an input

module _ (s : State) (h : Header) (p : Planes) (places : length s.store.cells ≡ 320) (agreed : agrees s ≡ true) where
  abbrev next : ℕ
  next = next_word s.store

  abbrev behind : ℕ → Answer Unit
  behind n = check_input_behind (room_of s.arenas no_scratch) n next (check_vector h p) h.width

  abbrev new : Planes
  new = put_planes next (planes_of (vector_of h.width p)) s.arenas

  called : (x : Answer Unit) → behind s.store.count ≡ x
      → or_refuse x s (outcome (given s.store.count) (appended (holding (vector h p)) s)) ≡ add_input s h p
  called x e =
      sym (ap (λ (x : Answer Unit). or_refuse x s (outcome (given s.store.count) (appended (holding (vector h p)) s)))
      (ap (λ (x : Answer Unit). after x (behind (length (store_headers s.store)))) (store-accepted s agreed)
      ∙ ap behind (headers-count s.store.cells s.store.count places (state-agrees s agreed).few) ∙ e))

  -- a refusal leaves all
  pub input-refused : (k : ℕ) (a : Planes) → outcome (refused k) a ≡ take_input s.store.count next h p s.arenas
      → (a ≡ s.arenas) × (outcome (refused k) (state s.store a) ≡ add_input s h p)
  input-refused k a e = go (behind s.store.count) refl e
    where
      go : (x : Answer Unit) → behind s.store.count ≡ x → outcome (refused k) a ≡ or_refuse x s.arenas (outcome (given next) new)
          → (a ≡ s.arenas) × (outcome (refused k) (state s.store a) ≡ add_input s h p)
      go (given t) q e = absurd (not-given k next (ap (λ (o : Outcome ℕ Planes). o.answer) e))
      go (refused j) q e = (
        ap (λ (o : Outcome ℕ Planes). o.left) e,
        ap (λ (o : Outcome ℕ Planes). outcome o.answer (state s.store o.left)) e ∙ called (refused j) q,
      )

  -- an input that begins at word k, and the arenas that it leaves
  pub record InputTaken (k : ℕ) (a : Planes) : Type 0 where
    pub few : s.store.count < 320
    pub begins : k ≡ next
    pub added : outcome (given s.store.count) (state (with_cell (record { start = k; header = h }) s.store) a) ≡ add_input s h p

  pub input-taken : (k : ℕ) (a : Planes) → outcome (given k) a ≡ take_input s.store.count next h p s.arenas → InputTaken k a
  input-taken k a e = go (behind s.store.count) refl e
    where
      go : (x : Answer Unit) → behind s.store.count ≡ x → outcome (given k) a ≡ or_refuse x s.arenas (outcome (given next) new) → InputTaken k a
      go (refused j) q e = absurd (not-given j k (sym (ap (λ (o : Outcome ℕ Planes). o.answer) e)))
      go (given t) q e =
          let z : ◌≡◌ {A = Answer ℕ} (given k) (given next) = ap (λ (o : Outcome ℕ Planes). o.answer) e in
          let begins : k ≡ next = cc in
          record {
            few = count-few s.store.count (after-given (check_count s.store.count) _ t q).0;
            begins = begins;
            added =
                ap₂ (λ (j : ℕ) (b : Planes). outcome (given s.store.count) (state (with_cell (record { start = j; header = h }) s.store) b)) begins
                (ap (λ (o : Outcome ℕ Planes). o.left) e)
                ∙ called (given t) q;
          }

-- ---- a step

-- a step that adds a cell was not refused, and its result is the next cell
pub step_left : (m n : Memory) (step : Step) (k : ℕ) → outcome (given k) n ≡ add_step m step
    → (check_memory m step ≡ given tt) × (k ≡ m.state.store.count) × (n ≡ stepped (step_result m.state step) m)
step_left m n step k e = go (check_memory m step) refl e
  where
    go : (x : Answer Unit) → check_memory m step ≡ x
        → outcome (given k) n ≡ or_refuse x m (outcome (given m.state.store.count) (stepped (step_result m.state step) m))
        → (check_memory m step ≡ given tt) × (k ≡ m.state.store.count) × (n ≡ stepped (step_result m.state step) m)
    go (given t) q e =
        let z : ◌≡◌ {A = Answer ℕ} (given k) (given m.state.store.count) = ap (λ (o : Outcome ℕ Memory). o.answer) e in
        (q, cc, ap (λ (o : Outcome ℕ Memory). o.left) e)
    go (refused j) q e = absurd (not-given j k (sym (ap (λ (o : Outcome ℕ Memory). o.answer) e)))

pub step-few : (m n : Memory) (step : Step) (k : ℕ) → length m.state.store.cells ≡ 320 → outcome (given k) n ≡ add_step m step → m.state.store.count < 320
step-few m n step k places e = (step-admitted m step places (step_left m n step k e).0).few

-- the cell that a planned step adds
abbrev planned_cell : PlannedStep → Cell
planned_cell p = record { start = p.start; header = p.header }

-- on the first n cells of f

module _ (n : ℕ) (f : Fields) (m : LentMemory) (step : Step) (agreed : agrees (state (store_of n f) m.arenas) ≡ true) where
  abbrev s : State
  s = state (store_of n f) m.arenas

  abbrev before : Memory
  before = memory s m.scratch

  abbrev hs : List Header
  hs = store_headers (store_of n f)

  abbrev check : Answer Unit
  check = check_step (room_of m.arenas m.scratch) hs step

  whole-check : check_memory before step ≡ check
  whole-check = ap (λ (x : Answer Unit). after x check) (store-accepted s agreed)

  pub step-refused : (k : ℕ) → check ≡ refused k → outcome (refused k) before ≡ add_step before step
  step-refused k e =
      sym (ap (λ (x : Answer Unit). or_refuse x before (outcome (given n) (stepped (step_result s step) before))) (whole-check ∙ e))

  -- ---- which is not refused
  module _ (e : check ≡ given tt) where
    places : length s.store.cells ≡ 320
    places = length-tabulate 320 (cell_of f)

    few : n ≤ 320
    few = (state-agrees s agreed).few

    h : Admitted before step
    h = behind-admitted before step places agreed e

    there : NamesFilled n step
    there = names-within n step h.all_named

    is : (i : ℕ) → i < n → filled_at s.store i ≡ cell_of f i
    is i l = cell-among f n i no_cell l (omega (arith, few))

    abbrev p : PlannedStep
    p = planned hs step

    result : (step_result s step).vector ≡ planned_result p f m.arenas
    result =
        vector-named s step
        ∙ (λ k.
        op_vector step.op (cell_vector m.arenas (is p.a there.a k)) (cell_vector m.arenas (is p.b there.b k))
        (cell_vector m.arenas (is p.c there.c k)) step.c)

    header : p.header ≡ (step_result s step).vector.header
    header = header-vector s step

    size : word_count p.header.width ≡ word_count (step_result s step).vector.header.width
    size = ap (λ (x : Header). word_count x.width) header

    agrees_at : (i : ℕ) (l : i < n) → Fits m.arenas (filled_at s.store i).start (filled_at s.store i)
        → cell_agrees m.arenas (cell_of f i).start (cell_of f i) ≡ true
    agrees_at i l g = subst (λ (c : Cell). cell_agrees m.arenas c.start c ≡ true) (is i l) (fits-cell _ _ _ g)

    ready : Executable p f m
    ready =
        let g = named-fits before step places h in
        record {
          level = (state-agrees s agreed).level;
          a-there = omega (arith, there.a, few);
          b_there = omega (arith, there.b, few);
          c-there = omega (arith, there.c, few);
          a-agrees = agrees_at p.a there.a g.a-fits;
          b-agrees = agrees_at p.b there.b g.b-fits;
          c-agrees = agrees_at p.c there.c g.c-fits;
          arms = sym (λ k. arms_refused step.op (is p.b there.b k).header (is p.c there.c k).header) ∙ h.arms;
          header = header ∙ ap (λ (v : Vector). v.header) result;
          room = omega (arith, h.room, size);
          value_room = omega (arith, h.value_room, size);
          unknown-room = omega (arith, h.unknown-room, size);
        }

    pub step-executable : (q : PlannedStep) → planned hs step ≡ q → Executable q f m
    step-executable q r = subst (λ (x : PlannedStep). Executable x f m) r ready

    left : state (with_cell (planned_cell p) s.store) (executed p f m).arenas ≡ appended (step_result s step) s
    left = ap₂ (λ (x : Header) (v : Vector). state (put_cell x s.store) (put_planes (next_word s.store) (planes_of v.bits) m.arenas)) header (sym result)

    shown : (executed p f m).scratch ≡ worked (step_result s step) m.scratch
    shown = ap (λ (v : Vector). put_planes 0 (planes_of v.bits) m.scratch) (sym result)

    pub step-taken : (q : PlannedStep) → planned hs step ≡ q
        → outcome (given n) (memory (state (with_cell (planned_cell q) s.store) (executed q f m).arenas) (executed q f m).scratch) ≡ add_step before step
    step-taken q r =
        subst (λ (x : PlannedStep). outcome (given n) (memory (state (with_cell (planned_cell x) s.store) (executed x f m).arenas) (executed x f m).scratch) ≡ add_step before step) r
        (step_added before step _ _ (whole-check ∙ e) left shown)
