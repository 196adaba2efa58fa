-- `load::unchecked::load_inputs`: an input that is taken is one less of those that are left.
use mathlib.Core.Path.{◌≡◌, sym, ap, ◌∙◌, subst}
use mathlib.Core.List.{List}
use Prim.Native.Nat.{ℕ, ◌+◌, ◌≤◌, ◌<◌}
use native.Mathlib.Omega.{arith}
use lib.ListN.{length, get_or}
use Rattle.refusal.specs.Refusals.{refusal_number}
use Rattle.refusal.specs.Outcome.{outcome}
use Rattle.refusal.specs.Outcome.Answer.{given, refused}
use Rattle.words.specs.Planes.{word_count, Planes, lent_by, planes_of}
use Rattle.words.specs.Vector.{tabulate}
use Rattle.words.proofs.Planes.{length-tabulate}
use Rattle.text.proofs.Vectors.{bits-length}
use Rattle.value.specs.Checks.{Vector}
use Rattle.cells.specs.declared.Cell.{Cell}
use Rattle.cells.specs.declared.Fields.{Fields}
use Rattle.cells.specs.Places.{cell_of, places_of, no_fields}
use Rattle.cells.proofs.Agreed.{next-within}
use Rattle.cells.proofs.Places.{put_fields}
use Rattle.store.specs.declared.Store.{Store}
use Rattle.store.specs.Store.{State, state, store_of, empty_store, with_cell}
use Rattle.store.specs.Taken.{Laid, take_input}
use Rattle.store.proofs.Placed.{store-empty}
use Rattle.store.proofs.Taken.{store-refused, input-refused, InputTaken, input-taken}
use Rattle.store.proofs.Held.{state-uneven}
use Rattle.store.proofs.Laid.{with-fields, lay-more, input-agrees}
use Rattle.steplist.specs.declared.StepList.{StepList}
use Rattle.steplist.specs.Answers.{no_input}
use Rattle.load.specs.Inputs.{add_inputs}
use Rattle.load.specs.Limits.{Fitted, InputsReadable}
use Rattle.load.proofs.Fitted.{fitted_none, fitted-more}
use Rattle.load.proofs.Loops.{even, uneven, Fed, feed-more, feed-last, feed-done}
use Rattle.load.proofs.unchecked.load_inputs.Invariants.{input}
use Rattle.load.proofs.unchecked.load_inputs.Goals as goal

-- no cell yet
module _ (t : List ℕ) (l : StepList) (f : Fields) (a : Planes) (e : f ≡ no_fields) where
  none-fitted : Fitted f 0 0 a
  none-fitted = subst (λ (f : Fields). Fitted f 0 0 a) (sym e) (fitted_none a)

  none-fed : Fed (state empty_store a) l.input_count (input t l) (state (store_of 0 f) a) 0
  none-fed =
      ap (λ (s : Store). add_inputs (state s a) (tabulate l.input_count (input t l)))
      (store-empty ∙ sym (ap (store_of 0) e))

  -- and none is taken in arenas of two lengths
  none-taken : 0 < l.input_count → (length a.value ≡ length a.unknown → ⊥)
      → outcome (refused 14) (state (store_of 0 f) a) ≡ add_inputs (state empty_store a) (tabulate l.input_count (input t l))
  none-taken h u =
      let s = state (store_of 0 f) a in
      let x = input t l 0 in
      feed-last l.input_count (input t l) (state empty_store a) s 0 none-fed h 14 s
      ((store-refused s 14 (state-uneven s u)).0 x.header (planes_of x.bits))

-- input i, behind i others
module _ (t : List ℕ) (l : StepList) (req : InputsReadable t l) (from : State) (i next : ℕ) (f : Fields) (a : Planes)
    (inside : i < l.input_count) (level : length a.value ≡ length a.unknown) (fitted : Fitted f i next a)
    (fed : Fed from l.input_count (input t l) (state (store_of i f) a) i) where
  abbrev v : Vector
  v = input t l i

  abbrev s : State
  s = state (store_of i f) a

  laid : Laid f i next a
  laid = fitted.laid level

  next-there : (next ≤ length a.value) × (length a.value ≡ length a.unknown)
  next-there =
      let within = next-within a (places_of f) i laid.agreed in
      (omega (arith, within, laid.words), level)

  places : length s.store.cells ≡ 320
  places = length-tabulate 320 (cell_of f)

  width : length v.bits ≡ v.header.width
  width =
      let x = get_or l.inputs i no_input in
      bits-length t x.place x.header.width ∙ omega (arith, (req.inputs i inside).0)

  -- which is refused
  input-last : (k : ℕ) (b : Planes) → outcome (refused k) b ≡ take_input i next v.header (planes_of v.bits) a
      → outcome (refused k) (state (store_of i f) b) ≡ add_inputs from (tabulate l.input_count (input t l))
  input-last k b e =
      let q = e ∙ ap (λ (n : ℕ). take_input i n v.header (planes_of v.bits) a) laid.words in
      let r = input-refused s v.header (planes_of v.bits) places laid.agreed k b q in
      feed-last l.input_count (input t l) from s i fed inside k (state (store_of i f) b) r.1

  -- which is taken
  module _ (at : ℕ) (b : Planes) (e : outcome (given at) b ≡ take_input i next v.header (planes_of v.bits) a) where
    is : InputTaken s v.header (planes_of v.bits) places laid.agreed at b
    is =
        input-taken s v.header (planes_of v.bits) places laid.agreed at b
        (e ∙ ap (λ (n : ℕ). take_input i n v.header (planes_of v.bits) a) laid.words)

    abbrev cell : Cell
    cell = record { start = at; header = v.header }

    more : Laid (put_fields f i cell) (i + 1) (at + word_count v.header.width) b
    more =
        lay-more f i cell fitted.whole is.few b is.begins
        (input-agrees s (state (with_cell cell s.store) b) v i places width is.added laid.agreed)

    input-fitted : (k : ℕ) → k ≡ at + word_count v.header.width → Fitted (put_fields f i cell) (i + 1) k b
    input-fitted k q = fitted-more f i next a fitted is.few cell (req.inputs i inside).1 k b q more

    input-fed : Fed from l.input_count (input t l) (state (store_of (i + 1) (put_fields f i cell)) b) (i + 1)
    input-fed =
        feed-more l.input_count (input t l) from s i fed inside i (state (store_of (i + 1) (put_fields f i cell)) b)
        (ap (λ (z : Store). outcome (given i) (state z b)) (sym (with-fields f i cell fitted.whole is.few)) ∙ is.added)

pub returns-then-list-av-clause-au_value : goal.returns-then-list-av-clause-au_value
returns-then-list-av-clause-au_value c =
    let a = c.args in
    let u = uneven a.list.input_count (length a.av.now) (length a.au.now) c.if-list-av.true in
    none-taken a.text.now a.list c.no_fields-f.result (lent_by a.av.now a.au.now) c.no_fields-f.ensures u.0 u.1

pub returns-then-list-av-clause-fitted : goal.returns-then-list-av-clause-fitted
returns-then-list-av-clause-fitted c =
    let a = c.args in
    none-fitted a.text.now a.list c.no_fields-f.result (lent_by a.av.now a.au.now) c.no_fields-f.ensures

pub loop-i-init : goal.loop-i-init
loop-i-init c =
    let a = c.args in
    record {
      level = even a.list.input_count (length a.av.now) (length a.au.now) c.if-list-av.false;
      fitted = none-fitted a.text.now a.list c.no_fields-f.result (lent_by a.av.now a.au.now) c.no_fields-f.ensures;
      fed = none-fed a.text.now a.list c.no_fields-f.result (lent_by a.av.now a.au.now) c.no_fields-f.ensures;
    }

pub load_input-requires-clause-next_in_bounds : goal.load_input-requires-clause-next_in_bounds
load_input-requires-clause-next_in_bounds c =
    let a = c.args in
    let o = c.loop-i in
    let inside : o.i < a.list.input_count = omega (arith, c.loop-i-test.true) in
    next-there a.text.now a.list c.requires (state empty_store (lent_by a.av.now a.au.now)) o.i o.next o.f (lent_by o.av o.au) inside
    (o.invariant.level (omega (arith, inside))) o.invariant.fitted o.invariant.fed

pub returns-in-Err-clause-au_value : goal.returns-in-Err-clause-au_value
returns-in-Err-clause-au_value c =
    let a = c.args in
    let o = c.loop-i in
    let inside : o.i < a.list.input_count = omega (arith, c.loop-i-test.true) in
    input-last a.text.now a.list c.requires (state empty_store (lent_by a.av.now a.au.now)) o.i o.next o.f (lent_by o.av o.au) inside
    (o.invariant.level (omega (arith, inside))) o.invariant.fitted o.invariant.fed
    (refusal_number c.in-Err.r) (lent_by c.load_input.new.av c.load_input.new.au) c.in-Err.ensures

pub loop-i-preserved : goal.loop-i-preserved
loop-i-preserved c =
    let a = c.args in
    let o = c.loop-i in
    let n = c.load_input in
    let inside : o.i < a.list.input_count = omega (arith, c.loop-i-test.true) in
    let from = state empty_store (lent_by a.av.now a.au.now) in
    let level : length o.av ≡ length o.au = o.invariant.level (omega (arith, inside)) in
    let b = lent_by n.new.av n.new.au in
    record {
      level = λ z. n.auto.av ∙ level ∙ sym n.auto.au;
      fitted =
          input-fitted a.text.now a.list c.requires from o.i o.next o.f (lent_by o.av o.au) inside level o.invariant.fitted o.invariant.fed
          c.in-Ok.at b c.in-Ok.ensures _ (ap (λ (k : ℕ). c.in-Ok.at + k) c.word_count.ensures);
      fed =
          input-fed a.text.now a.list c.requires from o.i o.next o.f (lent_by o.av o.au) inside level o.invariant.fitted o.invariant.fed
          c.in-Ok.at b c.in-Ok.ensures;
    }

-- the inputs that were taken are all of them, by any name of their number
counted : (t : List ℕ) (l : StepList) (from : State) (f : Fields) (a : Planes) (i n : ℕ) → i ≡ n
    → outcome (given tt) (state (store_of i f) a) ≡ add_inputs from (tabulate l.input_count (input t l))
    → outcome (given tt) (state (store_of n f) a) ≡ add_inputs from (tabulate l.input_count (input t l))
counted t l from f a i n e h = subst (λ (k : ℕ). outcome (given tt) (state (store_of k f) a) ≡ add_inputs from (tabulate l.input_count (input t l))) e h

pub returns-clause-au_value : goal.returns-clause-au_value
returns-clause-au_value c =
    let a = c.args in
    let o = c.loop-i in
    let all : a.list.input_count ≤ o.i = omega (arith, c.loop-i-test.false) in
    counted a.text.now a.list (state empty_store (lent_by a.av.now a.au.now)) o.f (lent_by o.av o.au) o.i _ (omega (arith, c.loop-i-test.false, o.auto.i-end))
    (feed-done a.list.input_count (input a.text.now a.list) (state empty_store (lent_by a.av.now a.au.now))
    (state (store_of o.i o.f) (lent_by o.av o.au)) o.i o.invariant.fed all)
