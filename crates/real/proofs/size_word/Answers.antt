-- `real::size_word`: the digits shifted up or down, and nothing where they are shifted out.
use Rattle.std.proofs.Common.{◌≡◌, ℕ, ◌+◌, ◌-◌, ◌*◌, ◌/◌, ◌%◌, ◌^◌, ◌<◌, ◌≤◌, sym, ap, ◌∙◌, lt_of_lt_of_le, lt_of_le_of_lt, le_of_lt, mod-eq_of_lt, mul_assoc, div-le_self, arith, pow_mono, pow-add}
use native.Mathlib.Nat.{mul-mod_left, div-eq_of_lt}
use Rattle.real.proofs.Wrap.{shifted_up, shifted_down}
use Rattle.real.proofs.size_word.Goals as goal

-- from bit a on
module _ (d s a : ℕ) where
  up : a < s → d * 2 ^ (s - a) % 2 ^ 64 ≡ d * 2 ^ s / 2 ^ a % 2 ^ 64
  up h = ap (λ (x : ℕ). x % 2 ^ 64) (sym (shifted_up d s a (le_of_lt h)))

  above : a < s → 64 ≤ s - a → 0 ≡ d * 2 ^ s / 2 ^ a % 2 ^ 64
  above h g =
      let j : ℕ = s - a in
      let e : j ≡ j - 64 + 64 = omega arith in
      sym (mul-mod_left (d * 2 ^ (j - 64)) (2 ^ 64))
      ∙ ap (λ (x : ℕ). x % 2 ^ 64) (mul_assoc d (2 ^ (j - 64)) (2 ^ 64) ∙ ap (λ (x : ℕ). d * x) (sym (pow-add 2 (j - 64) 64) ∙ ap (λ (x : ℕ). 2 ^ x) (sym e)))
      ∙ up h

  down : d < 2 ^ 64 → s ≤ a → d / 2 ^ (a - s) ≡ d * 2 ^ s / 2 ^ a % 2 ^ 64
  down f h = sym (mod-eq_of_lt (lt_of_le_of_lt (div-le_self d (2 ^ (a - s))) f)) ∙ ap (λ (x : ℕ). x % 2 ^ 64) (sym (shifted_down d s a h))

  under : d < 2 ^ 64 → s ≤ a → 64 ≤ a - s → 0 ≡ d * 2 ^ s / 2 ^ a % 2 ^ 64
  under f h g = sym (div-eq_of_lt (lt_of_lt_of_le f (pow_mono g))) ∙ down f h

pub returns-then-left-lt64 : goal.returns-then-left-lt64
returns-then-left-lt64 c = let a = c.args in up a.digits a.shift (a.k * 64) c.if-at-shift.true

pub returns-then-at-shift : goal.returns-then-at-shift
returns-then-at-shift c = let a = c.args in above a.digits a.shift (a.k * 64) c.if-at-shift.true c.if-left-lt64.false

pub returns-then-right-lt64 : goal.returns-then-right-lt64
returns-then-right-lt64 c =
    down c.args.digits c.args.shift (c.args.k * 64) c.ranges.digits.fits c.if-at-shift.false

pub returns : goal.returns
returns c =
    under c.args.digits c.args.shift (c.args.k * 64) c.ranges.digits.fits c.if-at-shift.false c.if-right-lt64.false
