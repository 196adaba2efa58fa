-- What the machine's check says of a step behind n cells, told by the cells that the step t = named step names.
--     check-full                12 goes by n
--     check-unfilled            11, a cell that is named is not filled
--     check-arms                7, the arms' headers
--     header-is                 the header of its cell
--     check-arena, check-scratch, check-accepted     13, and what nothing refuses
use mathlib.Core.Path.{◌≡◌, sym, ap, ap₂, ◌∙◌}
use mathlib.Core.Bool.{Bool, true, false}
use mathlib.Core.List.{List}
use Prim.Native.Nat.{ℕ, ◌-◌, ◌≤◌, ◌<◌}
use native.Mathlib.Omega.{arith}
use borrow.Author.Tests.{lt-ltb, le-ltb}
use lib.ListN.{length}
use Rattle.refusal.specs.Outcome.Answer.{given, refused}
use Rattle.words.specs.Planes.{word_count}
use Rattle.words.specs.Vector.{tabulate}
use Rattle.words.proofs.Planes.{length-tabulate}
use Rattle.value.specs.declared.Header.{Header}
use Rattle.ops.specs.declared.Step.{Step}
use Rattle.ops.specs.Ops.{arms_refused, op_header}
use Rattle.machine.specs.declared.Room.{Room}
use Rattle.machine.specs.Machine.{header_at, step_header, words_taken, check_count, check_step}
use Rattle.cells.specs.Places.{header_of}
use Rattle.plan.specs.Planned.{named}
use Rattle.plan.proofs.Named.{NamesFilled, names-filled, names-unfilled}
use Rattle.plan.proofs.Headers.{arms-named, header-named, header_read}

module _ (r : Room) (w : List ℕ) (s f : List Bool) (n : ℕ) (step : Step) where
  abbrev all : ℕ → Header
  all = header_of w s f

  abbrev hs : List Header
  hs = tabulate n all

  counted : length hs ≡ n
  counted = length-tabulate n all

  pub check-full : (k : ℕ) → check_count n ≡ refused k → check_step r hs step ≡ refused k
  unfolding check_step
  check-full k e = simp (counted, e)

  module _ (few : check_count n ≡ given tt) (t : Step) (told : t ≡ named step) where
    pub check-unfilled : (t.a < n → t.b < n → t.c < n → ⊥) → check_step r hs step ≡ refused 11
    unfolding check_step
    check-unfilled h = simp (
      counted,
      few,
      names-unfilled n step (λ g.
          h (omega (arith, g.a, ap (λ (t : Step). t.a) told)) (omega (arith, g.b, ap (λ (t : Step). t.b) told)) (omega (arith, g.c, ap (λ (t : Step). t.c) told))),
    )

    module _ (a : t.a < n) (b : t.b < n) (c : t.c < n) where
      filled : NamesFilled n step
      filled = record {
        a = omega (arith, a, ap (λ (t : Step). t.a) told);
        b = omega (arith, b, ap (λ (t : Step). t.b) told);
        c = omega (arith, c, ap (λ (t : Step). t.c) told);
      }

      read : (g : Step → ℕ) → g (named step) < n → header_at hs (g (named step)) ≡ all (g t)
      read g h = header_read w s f n (g (named step)) h ∙ sym (ap (λ (t : Step). all (g t)) told)

      -- the headers of the three cells
      module _ (x y z : Header) (ex : x ≡ all t.a) (ey : y ≡ all t.b) (ez : z ≡ all t.c) where
        first : header_at hs (named step).a ≡ x
        first = read (λ (t : Step). t.a) filled.a ∙ sym ex

        second : header_at hs (named step).b ≡ y
        second = read (λ (t : Step). t.b) filled.b ∙ sym ey

        third : header_at hs (named step).c ≡ z
        third = read (λ (t : Step). t.c) filled.c ∙ sym ez

        arms : arms_refused step.op (header_at hs step.b) (header_at hs step.c) ≡ arms_refused step.op y z
        arms = arms-named hs step ∙ ap₂ (arms_refused step.op) second third

        pub check-arms : true ≡ arms_refused step.op y z → check_step r hs step ≡ refused 7
        unfolding check_step
        check-arms e = simp (counted, few, names-filled n step filled, arms, sym e)

        -- the header of its cell, and the words that it takes
        module _ (fit : false ≡ arms_refused step.op y z) (h : Header) (eh : h ≡ op_header step.op x y z) where
          pub header-is : step_header hs step ≡ h
          header-is = header-named hs step ∙ (λ i. op_header step.op (first i) (second i) (third i)) ∙ sym eh

          module _ (v : ℕ) (words : v ≡ word_count h.width) where
            taken : word_count (step_header hs step).width ≡ v
            taken = ap (λ (h : Header). word_count h.width) header-is ∙ sym words

            pub check-arena : r.arena - words_taken hs < v → check_step r hs step ≡ refused 13
            unfolding check_step
            check-arena l = simp (counted, few, names-filled n step filled, arms, sym fit, taken, lt-ltb _ _ l)

            module _ (room : v ≤ r.arena - words_taken hs) where
              pub check-scratch : r.scratch < v → check_step r hs step ≡ refused 13
              unfolding check_step
              check-scratch l = simp (counted, few, names-filled n step filled, arms, sym fit, taken, le-ltb _ _ room, lt-ltb _ _ l)

              pub check-accepted : v ≤ r.scratch → check_step r hs step ≡ given tt
              unfolding check_step
              check-accepted l = simp (counted, few, names-filled n step filled, arms, sym fit, taken, le-ltb _ _ room, le-ltb _ _ l)
