-- `literal_read::is_value`: by the first character, and by what `only_digits` says of the others.
use mathlib.Core.Path.{◌≡◌, sym, ap, ap₂, ◌∙◌}
use mathlib.Core.Bool.{Bool, not, ◌&&◌}
use mathlib.Core.List.{List, ◌∷◌}
use Prim.Native.Nat.{ℕ, ◌+◌, ◌<◌}
use native.Mathlib.Numerals.{add-one}
use lib.Dec.{leb, ltb}
use lib.ListN.{length, drop, get_or, drop_of_length-le}
use lib.Seq.{drop-cons}
use Rattle.bit.proofs.Tests.{and-true}
use Rattle.literal_words.specs.Digits.{is_unknown, digit_number, is_d, radix, each, is_value}
use Rattle.literal_read.specs.Answers.{follows}
use Rattle.literal_read.proofs.Runs.{not-below, value_none, value-lone, value-off, value-run}
use Rattle.literal_read.proofs.is_value.Goals as goal

-- the first character
split : (b : ℕ) (s : List ℕ) (i : ℕ) → i < length s → is_value b (drop i s) ≡ is_value b (get_or s i 0 ∷ drop (i + 1) s)
split b s i l = ap (is_value b) (rw add-one (drop-cons s i 0 l))

pub returns-then-s-from : goal.returns-then-s-from
returns-then-s-from c =
    let b = c.args.base in
    sym (ap (is_value b) (drop_of_length-le c.args.s.now c.if-s-from.true) ∙ value_none b)

pub returns-then-decimal-unknown : goal.returns-then-decimal-unknown
returns-then-decimal-unknown c =
    let b = c.args.base in
    let s = c.args.s.now in
    let x = get_or s c.args.from 0 in
    let lone = ap₂ (λ (d u : Bool). d && u) c.is_decimal-decimal.ensures c.is_unknown-unknown.ensures in
    let p = and-true (is_d b) (is_unknown x) (sym lone ∙ c.if-decimal-unknown.true) in
    c.only_digits.ensures ∙ sym (split b s c.args.from c.if-s-from.false ∙ value-lone b x _ p.0 p.1)

-- the test of the first digit
off : (b x r : ℕ) (u e : Bool) → r ≡ radix b → u ≡ is_unknown x → e ≡ ltb (digit_number x) r
    → (not u && not e) ≡ (not (is_unknown x) && leb (radix b) (digit_number x))
off b x r u e R U E = ap₂ (λ (v w : Bool). not v && w) U (ap not (E ∙ ap (λ (n : ℕ). ltb (digit_number x) n) R) ∙ not-below (radix b) x)

pub returns-then-unknown-digit_below : goal.returns-then-unknown-digit_below
returns-then-unknown-digit_below c =
    let b = c.args.base in
    let s = c.args.s.now in
    let x = get_or s c.args.from 0 in
    let o = off b x _ _ _ c.radix-r.ensures c.is_unknown-unknown.ensures c.digit_below.ensures in
    sym (split b s c.args.from c.if-s-from.false ∙ value-off b x _ (sym o ∙ c.if-unknown-digit_below.true))

pub returns : goal.returns
returns c =
    let b = c.args.base in
    let s = c.args.s.now in
    let x = get_or s c.args.from 0 in
    let lone = ap₂ (λ (d u : Bool). d && u) c.is_decimal-decimal.ensures c.is_unknown-unknown.ensures in
    let o = off b x _ _ _ c.radix-r.ensures c.is_unknown-unknown.ensures c.digit_below.ensures in
    c.only_digits-2.ensures
    ∙ ap₂ (λ (n : ℕ) (d : Bool). each (follows n (not d)) (drop (c.args.from + 1) s)) c.radix-r.ensures c.is_decimal-decimal.ensures
    ∙ sym (split b s c.args.from c.if-s-from.false ∙ value-run b x _ (sym lone ∙ c.if-decimal-unknown.false) (sym o ∙ c.if-unknown-digit_below.false))
