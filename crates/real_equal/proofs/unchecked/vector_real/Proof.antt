-- `real_equal::unchecked::vector_real`: by the header's marks, from the known ones of the low word.
use Rattle.std.proofs.Common.{◌≡◌, ℕ, suc, ◌-◌, ◌^◌, ◌<◌, min, negsuc, ap, ◌∙◌, arith, w64, to_z, rules}
use mir.ValLaws.{to_z-neg}
use borrow.Author.Tests.{not-true, not-false}
use lib.Ieee.{of_int, binary64}
use Rattle.words.specs.Planes.{lent}
use Rattle.value.specs.Checks.{vector}
use Rattle.real_equal.specs.Numeric.{twos_complement, vector_integer}
use Rattle.real_equal.proofs.Low.{LowWords, known_ones, ones_lt, fill-integer, unsigned-integer, signed-integer, not_negative, negative}
use Rattle.real_equal.proofs.unchecked.vector_real.Statement.{statement}
use Rattle.real_equal.proofs.unchecked.vector_real.Tie as tie

complement : (m : ℕ) → m < 2 ^ 63 → to_z w64 (2 ^ 64 - 1 - m) ≡ negsuc m
complement m h =
    let e : 2 ^ 64 - 1 - m ≡ 2 ^ 64 - suc m = omega arith in
    ap (to_z w64) e ∙ to_z-neg w64 m h

module _ (c : tie.After-shared_slice_known-4-1) where
  abbrev start : tie.Start
  start = c.before.before.before.before

  low : LowWords start.args.h start.args.value.now start.args.unknown.now
  low = record {
    value-plane = start.requires.0;
    unknown-plane = start.requires.1;
    value-fits = (c.shared_slice_known-1.given 0).fits;
    unknown-fits = (c.shared_slice_known-2-1.given 0).fits;
  }

-- the ones below the width
module _ (c : tie.After-ones-all) where
  abbrev read : tie.After-shared_slice_known-4-1
  read = c.before.before.before.before.before

  abbrev bits : ℕ
  bits = min 64 (start read).args.h.width

  all-is : c.ones-all.result ≡ 2 ^ bits - 1
  all-is =
      let e : c.kept.result ≡ bits = omega arith in
      c.ones-all.ensures ∙ ap (λ (m : ℕ). 2 ^ m - 1) e

  number : twos_complement bits (known_ones (start read).args.value.now (start read).args.unknown.now) ≡ vector_integer (vector (start read).args.h (lent (start read).args.value.now (start read).args.unknown.now))
  number = signed-integer (low read) c.if-h.false (not-false (start read).args.h.is_signed c.if-not-h.false)

returns : tie.Need-returns-then-h
returns c = c.nearest_u64_to_f64.ensures ∙ ap (of_int binary64) (fill-integer (low c.before.before) c.if-h.true)

returns-2 : tie.Need-returns-then-not-h
returns-2 c =
    c.nearest_u64_to_f64-then-not-h.ensures ∙ ap (of_int binary64) (unsigned-integer (low c.before.before.before.before) c.if-h.false (not-true _ c.if-not-h.true))

returns-3 : tie.Need-returns-then-n-all
returns-3 c =
    c.nearest_u64_to_f64-then-n-all.ensures ∙ ap (of_int binary64) (not_negative (bits c.before.before) _ (rw (all-is c.before.before) at c.if-n-all.true) ∙ number c.before.before)

sub-nearest-i64-to-f64 : tie.Need-overflow_sub-all
sub-nearest-i64-to-f64 c = omega (arith, all-is c.before, ones_lt (low (read c.before)))

returns-4 : tie.Need-returns
returns-4 c =
    let n : ℕ = known_ones (start (read c.before.before)).args.value.now (start (read c.before.before)).args.unknown.now in
    let k : c.ones-all.result - n < 2 ^ 63 = omega arith in
    c.nearest_i64_to_f64.ensures
    ∙ ap (of_int binary64)
    (complement (c.ones-all.result - n) k ∙ ap (λ (x : ℕ). negsuc (x - n)) (all-is c.before.before) ∙ negative (bits c.before.before) n (rw (all-is c.before.before) at c.if-n-all.false) (ones_lt (low (read c.before.before))) ∙ number c.before.before)

pub vector_real_spec : {M : Type 1} → statement M
vector_real_spec =
    tie.close
    (tie.spec
    (λ c. search rules)
    (λ c. search rules)
    (λ c. search rules)
    (λ c κs. search rules)
    returns
    (λ c κs. search rules)
    returns-2
    (λ c κs. search rules)
    (λ c κs. search rules)
    (λ c κs. search rules)
    returns-3
    sub-nearest-i64-to-f64
    (λ c. search rules)
    (λ c κs. search rules)
    returns-4)
