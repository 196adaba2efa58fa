-- `execute::unchecked::execute`: the cells read are those that the step names, and the front of scratch is copied.
use mathlib.Core.Path.{◌≡◌, sym, ap, ap₂, ◌∙◌}
use mathlib.Core.List.{List}
use Prim.Native.Nat.{ℕ}
use lib.ListN.{length, take}
use Rattle.words.specs.Planes.{word_count, Planes, lent, lent_by, planes_of}
use Rattle.words.proofs.Planes.{length-tabulate, value-plane, unknown-plane}
use Rattle.value.specs.declared.Header.{Header}
use Rattle.ops.proofs.Results.{result-width}
use Rattle.cells.specs.declared.Fields.{Fields}
use Rattle.cells.specs.Cells.{cell_vector, put_planes}
use Rattle.cells.specs.Places.{fields_by}
use Rattle.cells.proofs.Tail.{front-is}
use Rattle.plan.specs.declared.PlannedStep.{PlannedStep}
use Rattle.execute.specs.declared.Operands.{Operands}
use Rattle.execute.specs.Executed.{op_cells, LentMemory, lent_memory_by, operands_of, planned_result, Executable}
use Rattle.execute.proofs.unchecked.execute.Goals as goal

-- the result of a step that can be executed, put in the front of scratch
module _ (p : PlannedStep) (f : Fields) (m : LentMemory) (h : Executable p f m) where
  abbrev r : Planes
  r = planes_of (planned_result p f m.arenas).bits

  abbrev n : ℕ
  n = word_count p.header.width

  width : length (planned_result p f m.arenas).bits ≡ p.header.width
  width =
      let o = operands_of p f in
      result-width (cell_vector m.arenas o.a) (cell_vector m.arenas o.b) (cell_vector m.arenas o.c) p.pos
      (length-tabulate _ _) (length-tabulate _ _) (length-tabulate _ _) p.op h.arms
      ∙ sym (ap (λ (x : Header). x.width) h.header)

  front : lent (take n (put_planes 0 r m.scratch).value) (take n (put_planes 0 r m.scratch).unknown) ≡ r
  front =
      let bs = (planned_result p f m.arenas).bits in
      ap₂ lent
      (front-is n r.value m.scratch.value ((value-plane bs).count ∙ ap word_count width) h.value_room).0
      (front-is n r.unknown m.scratch.unknown ((unknown-plane bs).count ∙ ap word_count width) h.unknown-room).0

-- the planes that are put in, by another name
put-again : (k : ℕ) (a : Planes) (v u : List ℕ) {left : Planes} → left ≡ put_planes k (lent v u) a → (q : Planes) → lent v u ≡ q → left ≡ put_planes k q a
put-again k a v u e q h = e ∙ ap (λ (p : Planes). put_planes k p a) h

pub returns : goal.returns
returns c =
    let g = c.args in
    let p = g.p in
    let f = fields_by g.starts.now g.widths.now g.signs.now g.fills.now in
    let m = lent_memory_by g.av.now g.au.now g.sv.now g.su.now in
    let o : Operands = record { a = c.cell_at.result; b = c.cell_at-2.result; c = c.cell_at-3.result } in
    let read : o ≡ operands_of p f = cc in
    let r = planes_of (planned_result p f m.arenas).bits in
    let worked : lent_by c.work_cells.new.ov c.work_cells.new.ou ≡ put_planes 0 r m.scratch =
    c.work_cells.ensures ∙ ap (λ (o : Operands). put_planes 0 (planes_of (op_cells p.op o p.pos m.arenas).bits) m.scratch) read in
    let taken : lent (take c.word_count.result c.work_cells.new.ov) (take c.word_count.result c.work_cells.new.ou) ≡ r =
    ap₂ (λ (i : ℕ) (q : Planes). lent (take i q.value) (take i q.unknown)) c.word_count.ensures worked ∙ front p f m c.requires in
    let copied = put-again p.start m.arenas _ _ c.copy_behind.ensures r (cc) in
    λ i. record { arenas = copied i; scratch = worked i }
