-- One place of a result, as a rule of what is read of the operands. A form also has the bit t, which chooses between the arms of a merge: unknown
-- in the result itself, known in what a completion gives.
--     ExactForm           a form that keeps known bits, is known of known operands, and whose completions come from completions of its operands
--     of_two          by a rule of t and of a reading of each of a and b
--     of_three        by a rule of a reading of each of a, b and c
use mathlib.Core.Path.{◌≡◌, sym, ◌∙◌, subst, ap, ap₂}
use Prim.Native.Nat.{ℕ}
use lib.ListN.{length}
use Rattle.bit.specs.declared.LogicBit.{LogicBit}
use Rattle.bit.specs.declared.LogicBit.TheVariants.{Zero, X}
use Rattle.value.specs.declared.Header.{Header}
use Rattle.value.specs.Checks.{Vector}
use Rattle.knownness.specs.Knownness.{Known, Keeps, Completes, Pointwise}
use Rattle.knownness.proofs.Bits.{Rule, ExactRule}
use Rattle.knownness.proofs.Readings.{KnownBits, a-completion, Reading}

abbrev pub Form : Type 0
Form = LogicBit → Vector → Vector → Vector → LogicBit

-- a known t and completions of a, b and c at which the form gives r
pub record Realized (F : Form) (a b c : Vector) (r : LogicBit) : Type 0 where
  pub t' : LogicBit
  pub a' : Vector
  pub b' : Vector
  pub c' : Vector
  pub chosen : Known t'
  pub first : Pointwise Completes a a'
  pub second : Pointwise Completes b b'
  pub third : Pointwise Completes c c'
  pub gives : F t' a' b' c' ≡ r

abbrev pub Mono : Form → Type 0
Mono F = (t t' : LogicBit) (a a' b b' c c' : Vector) → Keeps t t' → Pointwise Keeps a a' → Pointwise Keeps b b' → Pointwise Keeps c c'
    → Keeps (F t a b c) (F t' a' b' c')

-- the last for operands of which C holds
pub record ExactForm (C : Vector → Vector → Vector → Type 0) (F : Form) : Type 0 where
  pub mono : Mono F
  pub known : (t : LogicBit) (a b c : Vector) → Known t → KnownBits a.bits → KnownBits b.bits → KnownBits c.bits → Known (F t a b c)
  pub full : (a b c : Vector) → C a b c → (r : LogicBit) → Completes (F X a b c) r → Realized F a b c r

-- ---- a rule of t, a and b

-- the headers of two operands and how many bits the left one has, by which the rule and the readings may go
pub record Frame : Type 0 where
  pub left : Header
  pub left-bits : ℕ
  pub right : Header

abbrev pub frame : Vector → Vector → Frame
frame a b = record { left = a.header; left-bits = length a.bits; right = b.header }

frame_same : (R : LogicBit → LogicBit → Type 0) (a a' b b' : Vector) → Pointwise R a a' → Pointwise R b b' → frame a b ≡ frame a' b'
frame_same R a a' b b' h g = λ k. record { left = sym h.0 k; left-bits = sym h.1 k; right = sym g.0 k }

module _ (C : Vector → Vector → Vector → Type 0) (g : Frame → Rule) (G : (s : Frame) → ExactRule (g s)) (P Q : Frame → Vector → LogicBit)
    (p : (s : Frame) → Reading (P s)) (q : (s : Frame) → Reading (Q s)) where
  abbrev two : Form
  two t a b c = g (frame a b) t (P (frame a b) a) (Q (frame a b) b)

  -- by the frame of other operands
  abbrev by-frame : Frame → Form
  by-frame s t a b c = g s t (P s a) (Q s b)

  pub of_two : ExactForm C two
  of_two = record {
    mono = λ t t' a a' b b' c c' ht ha hb hc. let s : Frame = frame a b in
        subst (λ (x : LogicBit). Keeps (two t a b c) x) (ap (λ (s : Frame). by-frame s t' a' b' c') (frame_same Keeps a a' b b' ha hb))
        ((G s).mono t t' (P s a) (P s a') (Q s b) (Q s b') ht ((p s).mono a a' ha) ((q s).mono b b' hb));
    known = λ t a b c kt ka kb kc. let s : Frame = frame a b in (G s).known t (P s a) (Q s b) kt ((p s).known a ka) ((q s).known b kb);
    full = λ a b c _ r h.
        let s : Frame = frame a b in
        let w = (G s).full X (P s a) (Q s b) r h in
        let u = (p s).full a w.a' w.second in
        let v = (q s).full b w.b' w.third in
        let o = a-completion c in
        record {
          t' = w.t';
          a' = u.0;
          b' = v.0;
          c' = o.0;
          chosen = w.first.0;
          first = u.1;
          second = v.1;
          third = o.1;
          gives = sym (ap (λ (s : Frame). by-frame s w.t' u.0 v.0 o.0) (frame_same Completes a u.0 b v.0 u.1 v.1))
              ∙ ap₂ (g s w.t') u.2 v.2 ∙ w.gives;
        };
  }

-- ---- a rule of a, b and c

module _ (C : Vector → Vector → Vector → Type 0) (g : Rule) (G : ExactRule g) (O P Q : Vector → LogicBit) (o : Reading O) (p : Reading P) (q : Reading Q) where
  pub of_three : ExactForm C (λ t a b c. g (O a) (P b) (Q c))
  of_three = record {
    mono = λ t t' a a' b b' c c' ht ha hb hc. G.mono (O a) (O a') (P b) (P b') (Q c) (Q c') (o.mono a a' ha) (p.mono b b' hb) (q.mono c c' hc);
    known = λ t a b c kt ka kb kc. G.known (O a) (P b) (Q c) (o.known a ka) (p.known b kb) (q.known c kc);
    full = λ a b c _ r h.
        let w = G.full (O a) (P b) (Q c) r h in
        let x = o.full a w.t' w.first in
        let y = p.full b w.a' w.second in
        let z = q.full c w.b' w.third in
        record {
          t' = Zero;
          a' = x.0;
          b' = y.0;
          c' = z.0;
          chosen = tt;
          first = x.1;
          second = y.1;
          third = z.1;
          gives = ap (λ (t : LogicBit). g t (P y.0) (Q z.0)) x.2 ∙ ap₂ (g w.t') y.2 z.2 ∙ w.gives;
        };
  }
