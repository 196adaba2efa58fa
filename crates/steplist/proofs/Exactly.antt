-- The readers of a step list accept its text, within the limits, and no other text.
--     input-exact, step-exact, list-exact     an input, a step, all lines of a list
--     whole-exactly     a whole text
use mathlib.Core.Path.{◌≡◌, refl, sym, ap, ap₂, ◌∙◌, subst, subst⁻¹}
use mathlib.Core.Bool.{Bool, true, false, ◌&&◌, cond}
use mathlib.Core.List.{List, [], ◌∷◌, ◌++◌, append-nil}
use Prim.Native.Nat.{ℕ, ◌≤◌, ◌<◌}
use native.Mathlib.Omega.{arith}
use lib.Dec.{leb}
use lib.ListN.{length, get_or}
use borrow.Author.Tests.{le-leb, leb-true}
use Rattle.refusal.specs.Outcome.Answer.{given, refused}
use Rattle.text.specs.Read.{Got, next, line_end, bits_key}
use Rattle.text.specs.Read.Got.{found, broken}
use Rattle.text.specs.Exact.{Exact, All}
use Rattle.text.proofs.Exact.{next-found, next-exact, limit-exact, many-exact}
use Rattle.text.proofs.Decimal.{line-exact}
use Rattle.text.proofs.Vectors.{bits_line-exact}
use Rattle.value.specs.declared.Header.{Header}
use Rattle.value.specs.Checks.{Vector}
use Rattle.ops.specs.declared.Op.{Op}
use Rattle.ops.specs.declared.Step.{Step}
use Rattle.steplist.specs.OpLine.{choice_line, largest}
use Rattle.steplist.proofs.Names.{choice-exact, op-exact}
use Rattle.steplist.specs.Listing.{StepList, Kind, unsigned, signed, fill, all_kinds, kind_name, kind_header, kind_of, width_key, kind_key, input, input_text, InputWithin, a_key, b_key, c_key, numbers, step, step_text, StepWithin, inputs_key, steps_key, list, list_text, InLimits, read_to_end, whole, WholeExactly}

-- ---- a value made of what was read last

-- g finds what was read in the value that f makes of it
made_of : {A B : Type 0} {r : List ℕ → Got A} {w : A → List ℕ} {P : A → Type 0} {Q : B → Type 0} (f : A → B) (g : B → A)
    → Exact r w P → ((a : A) (b : B) → b ≡ f a → (g b ≡ a) × Q b) → ((b : B) → Q b → b ≡ f (g b))
    → Exact (λ t. next (r t) (λ a. found (f a))) (λ b. w (g b)) (λ b. P (g b) × Q b)
made_of {A} {B} {r} {w} {P} f g x there back = record {
  accepts = λ b t p.
      ap (λ z. next z (λ a. found (f a))) (x.accepts (g b) t p.0) ∙ ap (λ (z : B). found z t) (sym (back b p.1));
  only = λ b t u h.
      let n = next-found (r t) (λ a. found (f a)) b u h in
      let a : A = n.0 in
      let e : b ≡ f a = cc n.3 in
      let q : n.1 ≡ u = cc n.3 in
      let m = there a b e in
      let o = x.only a t n.1 n.2 in
      ((rw m.0 o.0, m.1), o.1 ∙ ap (λ (z : List ℕ). w a ++ z) q ∙ ap (λ (z : A). w z ++ u) (sym m.0));
}

-- ---- an input

kind-listed : (m : Kind) → (n : ℕ) × (n < 3) × (get_or all_kinds n unsigned ≡ m)
kind-listed unsigned = (0, omega arith, refl)
kind-listed signed = (1, omega arith, refl)
kind-listed fill = (2, omega arith, refl)

kind-exact : Exact (choice_line kind_key kind_name all_kinds unsigned) (λ m. kind_key ++ (kind_name m ++ line_end)) (λ m. Unit {0})
kind-exact = choice-exact kind_key kind_name all_kinds unsigned refl kind-listed

kind-again : (w : ℕ) (m : Kind) → kind_of (kind_header w m) ≡ m
kind-again w unsigned = refl
kind-again w signed = refl
kind-again w fill = refl

no-signed-fill : (w : ℕ) (m : Kind) → ((kind_header w m).is_signed && (kind_header w m).is_fill) ≡ false
no-signed-fill w unsigned = refl
no-signed-fill w signed = refl
no-signed-fill w fill = refl

width-again : (w : ℕ) (m : Kind) → (kind_header w m).width ≡ w
width-again w unsigned = refl
width-again w signed = refl
width-again w fill = refl

header-again : (h : Header) → (h.is_signed && h.is_fill) ≡ false → h ≡ kind_header h.width (kind_of h)
header-again h e = go h.is_signed h.is_fill refl refl e
  where
    go : (s f : Bool) → h.is_signed ≡ s → h.is_fill ≡ f → (s && f) ≡ false → h ≡ kind_header h.width (cond f fill (cond s signed unsigned))
    go true true p q z = let y : ◌≡◌ {A = ℕ} 0 1 = cc in absurd (omega arith)
    go true false p q z = λ i. record { width = h.width; is_signed = p i; is_fill = q i }
    go false true p q z = λ i. record { width = h.width; is_signed = p i; is_fill = q i }
    go false false p q z = λ i. record { width = h.width; is_signed = p i; is_fill = q i }

input-exact : Exact input input_text InputWithin
unfolding input input_text InputWithin
input-exact =
    limit-exact (λ x p. (p.0, p.1.0, p.1.1)) (λ x p. (p.0, (p.1, p.2)))
    (next-exact {Q = λ x. (length x.bits ≡ x.header.width) × ((x.header.is_signed && x.header.is_fill) ≡ false)}
    (λ x. x.header.width) (line-exact width_key 4096) (λ w.
    limit-exact (λ x p. (p.1.0, (p.1.1 ∙ sym p.1.0, p.1.2))) (λ x p. (tt {0}, (p.0, p.1.0 ∙ p.0, p.1.1)))
    (next-exact {Q = λ x. (x.header.width ≡ w) × (length x.bits ≡ w) × ((x.header.is_signed && x.header.is_fill) ≡ false)}
    (λ x. kind_of x.header) kind-exact (λ m.
    limit-exact
    (λ x p. let e : x.header ≡ kind_header w m = p.1 in (
      ap kind_of e ∙ kind-again w m,
      (ap (λ (h : Header). h.width) e ∙ width-again w m, p.0, ap (λ (h : Header). h.is_signed && h.is_fill) e ∙ no-signed-fill w m),
    ))
    (λ x p. (p.1.1, header-again x.header p.1.2 ∙ ap₂ kind_header p.1.0 p.0))
    (made_of {Q = λ x. x.header ≡ kind_header w m} (λ bs. record { header = kind_header w m; bits = bs }) (λ x. x.bits) (bits_line-exact bits_key w)
    (λ bs x e. (ap (λ (y : Vector). y.bits) e, ap (λ (y : Vector). y.header) e))
    (λ x e. λ i. record { header = e i; bits = x.bits }))))))

-- ---- a step

-- its numbers are such as the op o may have
abbrev Numbers : Step → Op → Type 0
Numbers x o = (x.a ≤ largest o 0) × (x.b ≤ largest o 1) × (x.c ≤ largest o 2)

step-exact : Exact step step_text StepWithin
unfolding step numbers step_text StepWithin
step-exact =
    limit-exact (λ x p. p.1) (λ x p. (tt {0}, p))
    (next-exact {Q = λ x. Numbers x x.op} (λ x. x.op) op-exact (λ o.
    limit-exact (λ x p. (p.1.0, subst⁻¹ (Numbers x) p.1.0 (p.0, p.1.1, p.1.2)))
    (λ x p. let q = subst (Numbers x) p.0 p.1 in (q.0, (p.0, q.1, q.2)))
    (next-exact {Q = λ x. (x.op ≡ o) × (x.b ≤ largest o 1) × (x.c ≤ largest o 2)} (λ x. x.a) (line-exact a_key (largest o 0)) (λ a.
    limit-exact (λ x p. (p.1.1, (p.1.0, p.0, p.1.2))) (λ x p. (p.1.1, (p.1.0, p.0, p.1.2)))
    (next-exact {Q = λ x. (x.op ≡ o) × (x.a ≡ a) × (x.c ≤ largest o 2)} (λ x. x.b) (line-exact b_key (largest o 1)) (λ b.
    limit-exact (λ x p. (p.1.2, (p.1.0, p.1.1, p.0))) (λ x p. (p.1.2, (p.1.0, p.1.1, p.0)))
    (made_of {Q = λ x. (x.op ≡ o) × (x.a ≡ a) × (x.b ≡ b)} (λ c. record { op = o; a = a; b = b; c = c }) (λ x. x.c) (line-exact c_key (largest o 2))
    (λ c x e. (ap (λ (y : Step). y.c) e, (ap (λ (y : Step). y.op) e, ap (λ (y : Step). y.a) e, ap (λ (y : Step). y.b) e)))
    (λ x e. λ i. record { op = e.0 i; a = e.1 i; b = e.2 i; c = x.c }))))))))

-- ---- a whole list

list-exact : Exact list list_text InLimits
unfolding list list_text InLimits
list-exact =
    limit-exact (λ l p. (p.0, p.1.0, p.1.1, p.1.2)) (λ l p. (p.0, (p.1, p.2, p.3)))
    (next-exact {Q = λ l. (length l.steps ≤ 256) × All InputWithin l.inputs × All StepWithin l.steps} (λ l. length l.inputs) (line-exact inputs_key 64) (λ n.
    limit-exact (λ l p. (p.1.0, (p.0, p.1.1, p.1.2))) (λ l p. (p.1.0, (p.0, p.1.1, p.1.2)))
    (next-exact {Q = λ l. (length l.inputs ≡ n) × All InputWithin l.inputs × All StepWithin l.steps} (λ l. length l.steps) (line-exact steps_key 256) (λ m.
    limit-exact (λ l p. (p.1.0, (p.0.0, p.0.1, p.1.1))) (λ l p. ((p.1.0, p.1.1), (p.0, p.1.2)))
    (next-exact {Q = λ l. (length l.steps ≡ m) × All StepWithin l.steps} (λ l. l.inputs) (many-exact n input-exact) (λ is.
    limit-exact (λ l p. (p.1, p.0)) (λ l p. (p.1, p.0))
    (made_of {Q = λ l. l.inputs ≡ is} (λ ss. record { inputs = is; steps = ss }) (λ l. l.steps) (many-exact m step-exact)
    (λ ss l e. (ap (λ (y : StepList). y.steps) e, ap (λ (y : StepList). y.inputs) e))
    (λ l e. λ i. record { inputs = e i; steps = l.steps }))))))))

pub whole-exactly : WholeExactly
unfolding whole
whole-exactly t l = (there (leb (length t) 65536) refl, back)
  where
    ended-given : (g : Got StepList) → list t ≡ g → read_to_end g ≡ given l → (t ≡ list_text l) × InLimits l
    ended-given (found k []) e h =
        let q : k ≡ l = cc in
        let o = list-exact.only l t [] (e ∙ ap (λ (z : StepList). found z []) q) in
        (o.1 ∙ append-nil (list_text l), o.0)
    ended-given (found k (c ∷ u)) e h = let z : ◌≡◌ {A = ℕ} 0 1 = cc in absurd (omega arith)
    ended-given broken e h = let z : ◌≡◌ {A = ℕ} 0 1 = cc in absurd (omega arith)

    there : (b : Bool) → leb (length t) 65536 ≡ b → cond b (read_to_end (list t)) (refused 6) ≡ given l → (t ≡ list_text l) × InLimits l × (length t ≤ 65536)
    there true e h = let r = ended-given (list t) refl h in (r.0, r.1, leb-true (length t) 65536 e)
    there false e h = let z : ◌≡◌ {A = ℕ} 0 1 = cc in absurd (omega arith)

    back : (t ≡ list_text l) × InLimits l × (length t ≤ 65536) → cond (leb (length t) 65536) (read_to_end (list t)) (refused 6) ≡ given l
    back p = rw (le-leb (length t) 65536 p.2) (rw (p.0 ∙ sym (append-nil (list_text l)), list-exact.accepts l [] p.1) refl)
