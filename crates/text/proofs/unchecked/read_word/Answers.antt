-- `text::unchecked::read_word`: value and unknown are the numbers of the characters read.
use mathlib.Core.Path.{◌≡◌, refl, sym, ap, ◌∙◌}
use mathlib.Core.List.{List}
use Prim.Native.Nat.{ℕ, ◌+◌, ◌-◌, ◌*◌, ◌^◌, ◌≤◌, ◌<◌}
use native.Mathlib.Omega.{arith}
use lib.ListN.{length, get_or}
use Rattle.bit.specs.declared.LogicBit.{LogicBit}
use Rattle.words.specs.Planes.{value_digit, unknown_digit}
use Rattle.words.proofs.Planes.{value-digit-lt, unknown-digit-lt}
use Rattle.text.specs.Read.{of_byte}
use Rattle.text.proofs.Characters.{byte-value, byte-unknown, number_in, none, more, small, word_in}
use Rattle.text.proofs.unchecked.read_word.Goals as goal

-- the number of the first n characters, at any name of n
done : (d : LogicBit → ℕ) (s : List ℕ) (from n m : ℕ) → m ≡ n → number_in d s from m ≡ number_in d s from n
done d s from n m e = ap (number_in d s from) e

-- of one of the planes, with the digits d
module _ (d : LogicBit → ℕ) (lt : (b : LogicBit) → d b < 2) (s : List ℕ) (from n k v : ℕ) (h : from ≤ k) (l : k < from + n) (m : n ≤ 64)
    (e : v ≡ number_in d s from (k - from)) where
  -- there is room for one more digit
  room : v < 2 ^ 63
  room = rw e (small d lt s from (k - from) (omega arith))

  -- which is that of the character at k
  read : n ≤ length s - from → v * 2 + d (of_byte (get_or s k 0)) ≡ number_in d s from (k + 1 - from)
  read p =
      let i : from + (k - from) ≡ k = omega arith in
      let j : k - from + 1 ≡ k + 1 - from = omega arith in
      ap (λ (x : ℕ). x * 2 + d (of_byte (get_or s k 0))) e
      ∙ ap (λ (x : ℕ). number_in d s from (k - from) * 2 + d (of_byte (get_or s x 0))) (sym i)
      ∙ more d s from (k - from) (omega arith)
      ∙ done d s from (k + 1 - from) (k - from + 1) j

pub loop-k-init : goal.loop-k-init
loop-k-init c =
    let f : ℕ = c.args.from in
    let z : f - f ≡ 0 = omega arith in
    rw z (none value_digit c.args.s.now f, none unknown_digit c.args.s.now f)

pub overflow_mul-value : goal.overflow_mul-value
overflow_mul-value c =
    let a = c.args in
    omega (arith, room value_digit value-digit-lt a.s.now a.from a.n c.loop-k.k c.loop-k.value c.loop-k.auto.k (omega arith) c.requires.0 c.loop-k.invariant.0)

pub overflow_add-value : goal.overflow_add-value
overflow_add-value c =
    let a = c.args in
    let b : ℕ = get_or a.s.now c.loop-k.k 0 in
    let r = room value_digit value-digit-lt a.s.now a.from a.n c.loop-k.k c.loop-k.value c.loop-k.auto.k (omega arith) c.requires.0 c.loop-k.invariant.0 in
    omega (arith, byte-value b, value-digit-lt (of_byte b))

pub overflow_mul-unknown : goal.overflow_mul-unknown
overflow_mul-unknown c =
    let a = c.args in
    omega (arith, room unknown_digit unknown-digit-lt a.s.now a.from a.n c.loop-k.k c.loop-k.unknown c.loop-k.auto.k (omega arith) c.requires.0 c.loop-k.invariant.1)

pub overflow_add-unknown : goal.overflow_add-unknown
overflow_add-unknown c =
    let a = c.args in
    let b : ℕ = get_or a.s.now c.loop-k.k 0 in
    let r = room unknown_digit unknown-digit-lt a.s.now a.from a.n c.loop-k.k c.loop-k.unknown c.loop-k.auto.k (omega arith) c.requires.0 c.loop-k.invariant.1 in
    omega (arith, byte-unknown b, unknown-digit-lt (of_byte b))

pub loop-k-preserved : goal.loop-k-preserved
loop-k-preserved c =
    let a = c.args in
    let l = c.loop-k in
    let b : ℕ = get_or a.s.now l.k 0 in (
      ap (λ (y : ℕ). l.value * 2 + y) (byte-value b) ∙ read value_digit value-digit-lt a.s.now a.from a.n l.k l.value l.auto.k (omega arith) c.requires.0 l.invariant.0 c.requires.1,
      ap (λ (y : ℕ). l.unknown * 2 + y) (byte-unknown b) ∙ read unknown_digit unknown-digit-lt a.s.now a.from a.n l.k l.unknown l.auto.k (omega arith) c.requires.0 l.invariant.1 c.requires.1,
    )

pub returns : goal.returns
returns c =
    let a = c.args in
    let s : List ℕ = a.s.now in
    let e : c.loop-k.k - a.from ≡ a.n = omega arith in
    let v = c.loop-k.invariant.0 ∙ done value_digit s a.from _ _ e ∙ word_in value_digit value-digit-lt s a.from refl a.n c.requires.0 in
    let u = c.loop-k.invariant.1 ∙ done unknown_digit s a.from _ _ e ∙ word_in unknown_digit unknown-digit-lt s a.from refl a.n c.requires.0 in
    λ i. record { value = v i; unknown = u i }
