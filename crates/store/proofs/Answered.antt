-- When the check of a vector accepts.
--     check_header, planes-header       the check of a vector whose planes are in order goes by the header alone
--     vector-accepts                   a vector in order is accepted
use mathlib.Core.Path.{◌≡◌, refl, ◌∙◌}
use mathlib.Core.Bool.{Bool, true, false, ◌&&◌, cond}
use Prim.Native.Nat.{ℕ}
use borrow.Author.Tests.{le-ltb, eq-eqb, ne_eqb}
use lib.Dec.{T, eqb, ltb}
use Rattle.refusal.specs.Outcome.{Answer, after}
use Rattle.refusal.specs.Outcome.Answer.{given, refused}
use Rattle.words.specs.Planes.{Planes, Plane, clear_above}
use Rattle.words.proofs.Top.{clear-all}
use Rattle.value.specs.Checks.{max_width, check_lengths, check_planes, check_vector}
use Rattle.value.specs.declared.Header.{Header}
use Rattle.value.proofs.Checks.{Sound}

-- what 1 to 4 say of an input whose planes are those of as many bits as its header says: 1 and 4, by the header alone
abbrev pub check_header : Header → Answer Unit
check_header h = cond (ltb max_width h.width) (refused 1) (cond (h.is_fill && eqb h.width 0) (refused 4) (given tt))

is_true : (b : Bool) → T b → b ≡ true
is_true true t = refl
is_true false t = absurd t

no-fill : (f : Bool) (w : ℕ) → (f ≡ true → w ≡ 0 → ⊥) → f && eqb w 0 ≡ false
no-fill true w h = ne_eqb w 0 (h refl)
no-fill false w h = refl

after-width : {A : Type 0} (b : Bool) (x : Answer A) → after (after (cond b (refused 1) (given tt)) (given tt)) x ≡ cond b (refused 1) x
after-width true x = refl
after-width false x = refl

pub planes-header : (h : Header) (p : Planes) → Plane h.width p.value → Plane h.width p.unknown → check_vector h p ≡ check_header h
unfolding check_vector check_planes check_lengths
planes-header h p v u =
    simp (
      eq-eqb _ _ v.count,
      eq-eqb _ _ u.count,
      is_true (clear_above h.width p.value) (clear-all h.width p.value v.clear),
      is_true (clear_above h.width p.unknown) (clear-all h.width p.unknown u.clear),
    ) (after-width (ltb max_width h.width) (cond (h.is_fill && eqb h.width 0) (refused 4) (given tt)))

pub vector-accepts : (h : Header) (p : Planes) → Sound h p → check_vector h p ≡ given tt
vector-accepts h p s =
    planes-header h p s.planes.value-plane s.planes.unknown-plane
    ∙ simp (le-ltb max_width h.width s.planes.narrow, no-fill h.is_fill h.width s.fill)
