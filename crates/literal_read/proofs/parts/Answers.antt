-- `literal_read::parts`: part by part, what is left of the text is a literal as all of it is.
use mathlib.Core.Path.{◌≡◌, sym, ap, ◌∙◌}
use mathlib.Core.Bool.{Bool, true, false}
use mathlib.Core.List.{List}
use Prim.Native.Nat.{ℕ, ◌+◌, ◌<◌}
use mir.Val.{bool_byte}
use lib.ListN.{length, drop, get_or}
use Rattle.refusal.specs.Outcome.Answer.{given, refused}
use Rattle.literal_words.specs.Digits.{value_bits, is_value}
use Rattle.literal_read.specs.Literal.{is_s, is_base, sized, based, signed_based, literal}
use Rattle.literal_read.proofs.Behind.{sign-ends, sign_read, base-ends, base-other, value-other, base_read}
use Rattle.literal_read.proofs.parts.Goals as goal

-- behind the apostrophe, at i: a character x, and whether it is a sign
signed : (s : List ℕ) (w i : ℕ) → signed_based w (drop i s) ≡ literal s → (x : ℕ) → i < length s → x ≡ get_or s i 0 → (m : Bool) → m ≡ is_s x
    → literal s ≡ based w m (drop (i + bool_byte m) s)
signed s w i z x l e m r = sym z ∙ sign_read w s i l m (sym (r ∙ ap is_s e))

-- behind the sign, at i: a character y
module _ (s : List ℕ) (w i : ℕ) (m : Bool) (z : literal s ≡ based w m (drop i s)) (y : ℕ) (l : i < length s) (e : y ≡ get_or s i 0) where
  unbased : is_base y ≡ false → literal s ≡ refused 15
  unbased n = z ∙ base-other w m s i l (sym (ap is_base e) ∙ n)

  module _ (k : is_base y ≡ true) where
    known : is_base (get_or s i 0) ≡ true
    known = sym (ap is_base e) ∙ k

    unvalued : is_value y (drop (i + 1) s) ≡ false → literal s ≡ refused 15
    unvalued f = z ∙ value-other w m s i l known (sym (ap (λ (b : ℕ). is_value b (drop (i + 1) s)) e) ∙ f)

    valued : is_value y (drop (i + 1) s) ≡ true → literal s ≡ given (record { header = sized w m; bits = value_bits y w (drop (i + 1) s) })
    valued f =
        z ∙ base_read w m s i l known (sym (ap (λ (b : ℕ). is_value b (drop (i + 1) s)) e) ∙ f)
        ∙ ap (λ (b : ℕ). given (record { header = sized w m; bits = value_bits b w (drop (i + 1) s) })) (sym e)

pub returns-in_err-get-clause-result_value : goal.returns-in_err-get-clause-result_value
returns-in_err-get-clause-result_value c =
    let z = c.in_ok-size in
    rw c.from_residual-in_err-get.ensures (sym (sign-ends z.size.width c.args.s.now z.size.next c.in_err-get.ensures.lookup.3) ∙ z.ensures.s_size)

pub returns-in_err-base-clause-result_value : goal.returns-in_err-base-clause-result_value
returns-in_err-base-clause-result_value c =
    let z = c.in_ok-size in
    let g = c.in_ok-get.ensures.lookup.3 in
    let t = signed c.args.s.now z.size.width z.size.next z.ensures.s_size _ g.0 (g.1 0) _ c.is_sign-is_signed.ensures in
    rw c.from_residual-in_err-base.ensures (sym (t ∙ base-ends _ _ _ _ c.in_err-base.ensures.lookup.3))

pub returns-then-not-is_base-clause-result_value : goal.returns-then-not-is_base-clause-result_value
returns-then-not-is_base-clause-result_value c =
    let z = c.in_ok-size in
    let g = c.in_ok-get.ensures.lookup.3 in
    let h = c.in_ok-base.ensures.lookup.3 in
    let t = signed c.args.s.now z.size.width z.size.next z.ensures.s_size _ g.0 (g.1 0) _ c.is_sign-is_signed.ensures in
    sym (unbased c.args.s.now z.size.width _ _ t _ h.0 (h.1 0) (sym c.is_base.ensures ∙ c.if-not-is_base.true))

pub returns-then-not-is_value-clause-result_value : goal.returns-then-not-is_value-clause-result_value
returns-then-not-is_value-clause-result_value c =
    let z = c.in_ok-size in
    let g = c.in_ok-get.ensures.lookup.3 in
    let h = c.in_ok-base.ensures.lookup.3 in
    let t = signed c.args.s.now z.size.width z.size.next z.ensures.s_size _ g.0 (g.1 0) _ c.is_sign-is_signed.ensures in
    sym (unvalued c.args.s.now z.size.width _ _ t _ h.0 (h.1 0) (sym c.is_base.ensures ∙ c.if-not-is_base.false) (sym c.is_value.ensures ∙ c.if-not-is_value.true))

pub returns-clause-result_value : goal.returns-clause-result_value
returns-clause-result_value c =
    let z = c.in_ok-size in
    let g = c.in_ok-get.ensures.lookup.3 in
    let h = c.in_ok-base.ensures.lookup.3 in
    let t = signed c.args.s.now z.size.width z.size.next z.ensures.s_size _ g.0 (g.1 0) _ c.is_sign-is_signed.ensures in
    sym (valued c.args.s.now z.size.width _ _ t _ h.0 (h.1 0) (sym c.is_base.ensures ∙ c.if-not-is_base.false) (sym c.is_value.ensures ∙ c.if-not-is_value.false))
