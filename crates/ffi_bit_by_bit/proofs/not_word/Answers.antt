-- `not_word`: value and unknown are the numbers of the inverted bits from i on.
use mathlib.Core.Path.{◌≡◌, refl, sym, ap, ◌∙◌}
use mathlib.Core.List.{List}
use Prim.Native.Nat.{ℕ, ◌-◌, ◌*◌, ◌+◌, ◌<◌, min}
use native.Mathlib.Omega.{arith}
use lib.ListN.{length}
use Rattle.bit.specs.declared.LogicBit.{LogicBit}
use Rattle.bit.specs.declared.LogicBit.TheVariants.{Zero}
use Rattle.bit.specs.Rules.{code, not_bit}
use Rattle.words.specs.Vector.{at}
use Rattle.words.specs.Planes.{value_digit, unknown_digit, from_planes}
use Rattle.words.proofs.Planes.{length-tabulate, get_d_tabulate, value-digit-lt, unknown-digit-lt}
use Rattle.bitwise_words.specs.Joined.{inverted}
use Rattle.ffi_bit_by_bit.proofs.Number.{value-code, unknown-code, number, none, more, small, word-done}
use Rattle.ffi_bit_by_bit.proofs.not_word.Goals as goal

-- the inverted vector
abbrev result : ℕ → List ℕ → List ℕ → List LogicBit
result w v u = inverted (from_planes w v u)

-- a bit of it by its code
told : (bs : List LogicBit) (i : ℕ) {n : ℕ} → i < length bs → n ≡ code (not_bit (at bs i)) → n ≡ code (at (inverted bs) i)
told bs i h e = e ∙ ap code (sym (get_d_tabulate (length bs) (λ j. not_bit (at bs j)) i Zero h))

pub loop-i-init : goal.loop-i-init
loop-i-init c =
    let a = c.args in
    let R = result a.width a.av.now a.au.now in
    record {
      from = omega arith;
      value = none value_digit R _ _ refl;
      unknown = none unknown_digit R _ _ refl;
    }

pub overflow_mul-value : goal.overflow_mul-value
overflow_mul-value c =
    let a = c.args in
    omega (arith, small value_digit (result a.width a.av.now a.au.now) value-digit-lt c.least-end.result c.loop-i.i (omega arith))

pub overflow_add-value : goal.overflow_add-value
overflow_add-value c =
    let a = c.args in
    omega (arith, small value_digit (result a.width a.av.now a.au.now) value-digit-lt c.least-end.result c.loop-i.i (omega arith))

pub overflow_mul-unknown : goal.overflow_mul-unknown
overflow_mul-unknown c =
    let a = c.args in
    omega (arith, small unknown_digit (result a.width a.av.now a.au.now) unknown-digit-lt c.least-end.result c.loop-i.i (omega arith))

pub overflow_add-unknown : goal.overflow_add-unknown
overflow_add-unknown c =
    let a = c.args in
    let u = unknown-code c.not.result c.from-c.ensures in
    omega (arith, small unknown_digit (result a.width a.av.now a.au.now) unknown-digit-lt c.least-end.result c.loop-i.i (omega arith), u, unknown-digit-lt c.not.result)

pub loop-i-preserved : goal.loop-i-preserved
loop-i-preserved c =
    let a = c.args in
    let bits = from_planes a.width a.av.now a.au.now in
    let R = inverted bits in
    let e = c.least-end.result in
    let i = c.loop-i.i in
    let t = told bits (i - 1) (rw length-tabulate (omega arith)) (c.from-c.ensures ∙ ap code (c.not.ensures ∙ ap not_bit c.get-b.ensures)) in
    record {
      from = omega arith;
      value = more value_digit R e i (omega arith) (omega arith) c.loop-i.invariant.value (value-code (at R (i - 1)) t);
      unknown = more unknown_digit R e i (omega arith) (omega arith) c.loop-i.invariant.unknown (unknown-code (at R (i - 1)) t);
    }

pub returns : goal.returns
returns c =
    let a = c.args in
    let R = result a.width a.av.now a.au.now in
    let e = c.least-end.result in
    let i : c.loop-i.i ≡ a.k * 64 = omega arith in
    let n : length R ≡ a.width = length-tabulate (length (from_planes a.width a.av.now a.au.now)) _ ∙ length-tabulate _ _ in
    let m : e ≡ min (a.k * 64 + 64) (length R) = c.least-end.ensures ∙ ap (min (a.k * 64 + 64)) (sym n) in
    let v = c.loop-i.invariant.value ∙ ap (number value_digit R e) i ∙ word-done value_digit R value-digit-lt refl e a.k m in
    let u = c.loop-i.invariant.unknown ∙ ap (number unknown_digit R e) i ∙ word-done unknown_digit R unknown-digit-lt refl e a.k m in
    λ j. record { value = v j; unknown = u j }
