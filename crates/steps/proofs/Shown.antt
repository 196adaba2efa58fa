-- A step that adds a cell leaves its bits at the front of the scratch planes (step-shown).
use mathlib.Core.Path.{◌≡◌, sym, ap, ap₂, ◌∙◌, subst}
use Prim.Native.Nat.{ℕ, ◌≤◌, ◌<◌}
use native.Mathlib.Omega.{arith}
use lib.ListN.{length, get_or}
use lib.Seq.{get_or-set_same}
use Rattle.refusal.specs.Outcome.{outcome}
use Rattle.refusal.specs.Outcome.Answer.{given}
use Rattle.words.specs.Planes.{word_count}
use Rattle.value.specs.declared.Header.{Header}
use Rattle.value.specs.Checks.{Vector}
use Rattle.ops.specs.declared.Step.{Step}
use Rattle.cells.specs.Places.{no_cell}
use Rattle.store.specs.Step.{Memory, step_result, add_step}
use Rattle.store.proofs.Steps.{step-admitted, step-storable, worked-front}
use Rattle.store.proofs.Taken.{step_left}
use Rattle.load.specs.Limits.{Thin, AllThin}
use Rattle.run_lines.specs.Output.{front_bits}
use Rattle.steps.proofs.Thin.{step-thin}

-- the cell c of the header h that a step has added to the memory m, which became n
pub record Shown (m n : Memory) (step : Step) (c : ℕ) (h : Header) : Type 0 where
  pub few : c < 320
  pub thin : Thin h
  pub value-long : word_count h.width ≤ length n.scratch.value
  pub unknown-long : word_count h.width ≤ length n.scratch.unknown
  pub bits : front_bits h.width n.scratch ≡ (step_result m.state step).vector.bits

pub step-shown : (m n : Memory) (step : Step) (c : ℕ) (h : Header) → length m.state.store.cells ≡ 320 → AllThin m.state.store
    → outcome (given c) n ≡ add_step m step → (get_or n.state.store.cells c no_cell).header ≡ h → Shown m n step c h
step-shown m n step c h places thin e is =
    let r = step_result m.state step in
    let d = step_left m n step c e in
    let a = step-admitted m step places d.0 in
    let f = worked-front r m.scratch (step-storable m step places a) a.value_room a.unknown-room in
    let k : r.vector.header ≡ h =
    sym (ap (λ x. x.header) (get_or-set_same m.state.store.cells m.state.store.count _ no_cell (omega (arith, places, a.few))))
    ∙ sym (ap₂ (λ (o : Memory) (i : ℕ). (get_or o.state.store.cells i no_cell).header) d.2 d.1) ∙ is
    in
    subst (Shown m n step c) k
    (subst (λ (o : Memory). Shown m o step c r.vector.header) (sym d.2) (record {
      few = omega (arith, a.few, d.1);
      thin = step-thin m.state step thin;
      value-long = f.value-long;
      unknown-long = f.unknown-long;
      bits = ap (λ (v : Vector). v.bits) f.holds;
    }))
