-- Inputs that are accepted stand in the store as the machine's first cells, and whether they are goes by their headers.
--     Accepts         each header is accepted behind those before it
--     accepts         what the store accepts, headers accept
--     InputsHeld      inputs are added to a store and stand behind the cells it held
--     inputs-plain    what headers accept, the store accepts and holds
use mathlib.Core.Path.{◌≡◌, refl, sym, ap, ◌∙◌, subst}
use mathlib.Core.List.{List, [], ◌∷◌, ◌++◌, append_assoc, append-nil}
use Prim.Native.Nat.{ℕ, suc}
use native.Mathlib.Omega.{arith}
use lib.ListN.{length}
use Rattle.refusal.specs.Outcome.{Answer, Outcome, outcome, or_refuse}
use Rattle.refusal.specs.Outcome.Answer.{given, refused}
use Rattle.words.specs.Planes.{Planes, planes_of}
use Rattle.value.specs.declared.Header.{Header}
use Rattle.value.specs.Checks.{Vector, vector}
use Rattle.machine.specs.declared.Room.{Room}
use Rattle.machine.specs.Machine.{Cell, holding, headers_of, words_taken, check_input_behind, input_cells}
use Rattle.knownness.specs.Knownness.{AllSound}
use Rattle.knownness.proofs.Machine.{headers-more}
use Rattle.store.specs.Store.{State, Holds, room_of, appended, check_input}
use Rattle.store.specs.Step.{memory}
use Rattle.store.proofs.Answered.{check_header}
use Rattle.store.proofs.Held.{Added}
use Rattle.store.proofs.Inputs.{input-check, input-holds}
use Rattle.load.specs.Inputs.{add_listed, after_input, add_inputs}

abbrev check_first : Room → List Header → Header → Answer Unit
check_first r hs h = check_input_behind r (length hs) (words_taken hs) (check_header h) h.width

abbrev pub Accepts : Room → List Header → List Header → Type 0
Accepts r hs [] = Unit {0}
Accepts r hs (h ∷ is) = (check_first r hs h ≡ given tt) × Accepts r (hs ++ (h ∷ [])) is

abbrev pub input_headers : List Vector → List Header
input_headers A = headers_of (input_cells A)

-- the cells cs, and an input behind them
abbrev behind : List Cell → Vector → List Cell
behind cs v = cs ++ (holding v ∷ [])

module _ (scratch : Planes) (r : Room) where
  -- a state with the room r that holds cs, and one input
  module _ (s : State) (cs : List Cell) (v : Vector) (e : room_of s.arenas scratch ≡ r) (h : Holds s cs) (sound : length v.bits ≡ v.header.width) where
    abbrev left : State
    left = (add_listed s v).left

    abbrev done : Outcome ℕ State
    done = outcome (given s.store.count) (appended (holding (vector v.header (planes_of v.bits))) s)

    by-headers : check_input s v.header (planes_of v.bits) ≡ check_first r (headers_of cs) v.header
    by-headers = input-check s cs v h sound scratch ∙ ap (λ z. check_first z (headers_of cs) v.header) e

    answered : (x : Answer Unit) → check_first r (headers_of cs) v.header ≡ x → add_listed s v ≡ or_refuse x s done
    answered x f = ap (λ z. or_refuse z s done) (by-headers ∙ f)

    accepted : check_first r (headers_of cs) v.header ≡ given tt
        → Added (add_listed s v).answer (memory s scratch) (memory left scratch) cs (holding v)
    accepted f = input-holds s cs v h sound scratch (by-headers ∙ f)

  -- all inputs were accepted, and the state left holds the cells cs in the same room
  pub record InputsHeld (o : Outcome Unit State) (cs : List Cell) : Type 0 where
    pub accepted : o.answer ≡ given tt
    pub holds : Holds o.left cs
    pub room : room_of o.left.arenas scratch ≡ r

  pub inputs-plain : (A : List Vector) (s : State) (cs : List Cell) → room_of s.arenas scratch ≡ r → Holds s cs → AllSound (input_cells A)
      → Accepts r (headers_of cs) (input_headers A) → InputsHeld (add_inputs s A) (cs ++ input_cells A)
  unfolding add_inputs
  inputs-plain [] s cs e h sound a = record { accepted = refl; holds = subst (Holds s) (sym (append-nil cs)) h; room = e }
  inputs-plain (v ∷ A) s cs e h sound a =
      let w = accepted s cs v e h (sound 0) a.0 in
      let l = left s cs v e h (sound 0) in
      let t =
      inputs-plain A l (behind cs v) (w.room ∙ e) w.holds (λ j. sound (suc j))
      (subst (λ hs. Accepts r hs (input_headers A)) (sym (headers-more cs (holding v))) a.1)
      in
      subst (λ x. InputsHeld (after_input x l (add_inputs l A)) (cs ++ input_cells (v ∷ A))) (sym w.answered)
      (subst (InputsHeld (add_inputs l A)) (append_assoc cs (holding v ∷ []) (input_cells A)) t)

  pub accepts : (A : List Vector) (s : State) (cs : List Cell) → room_of s.arenas scratch ≡ r → Holds s cs → AllSound (input_cells A)
      → (add_inputs s A).answer ≡ given tt → Accepts r (headers_of cs) (input_headers A)
  unfolding add_inputs
  accepts [] s cs e h sound a = tt {0}
  accepts (v ∷ A) s cs e h sound a =
      go (check_first r (headers_of cs) v.header) refl (λ p q t. accepts A (add_listed s v).left (behind cs v) p q (λ j. sound (suc j)) t)
    where
      l : State
      l = (add_listed s v).left

      go : (x : Answer Unit) → check_first r (headers_of cs) v.header ≡ x
          → (room_of l.arenas scratch ≡ r → Holds l (behind cs v) → (add_inputs l A).answer ≡ given tt → Accepts r (headers_of (behind cs v)) (input_headers A))
          → (x ≡ given tt) × Accepts r (headers_of cs ++ (v.header ∷ [])) (input_headers A)
      go (given u) f ih =
          let w = accepted s cs v e h (sound 0) f in
          let b = sym (ap (λ x. (after_input x l (add_inputs l A)).answer) w.answered) ∙ a in
          (refl, subst (λ hs. Accepts r hs (input_headers A)) (headers-more cs (holding v)) (ih (w.room ∙ e) w.holds b))
      go (refused k) f ih =
          let z : ◌≡◌ {A = Answer Unit} (refused k) (given tt) =
          sym (ap (λ (o : Outcome ℕ State). (after_input o.answer o.left (add_inputs o.left A)).answer) (answered s cs v e h (sound 0) (refused k) f)) ∙ a
          in
          let y : ◌≡◌ {A = ℕ} 0 1 = cc in
          absurd (omega arith)
