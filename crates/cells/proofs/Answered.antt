-- What an answer behind a check tells of the check.
--     not-given                        a refusal is no result
--     after-given                      a result: the check accepted, and it is the answer behind it
--     answer-given, answer-refused     a result: the check accepted; a refusal: the check's own
--     test-left, test-taken            which way the test of a check that accepts went
--     count-few, room-left, scratch-left     fewer cells than 320; words for one more
use mathlib.Core.Path.{◌≡◌, refl, sym, ap}
use mathlib.Core.Bool.{Bool, true, false, cond}
use Prim.Native.Nat.{ℕ, ◌-◌, ◌≤◌, ◌<◌}
use native.Mathlib.Omega.{arith}
use borrow.Author.Tests.{leb-false, ltb-false}
use lib.Dec.{leb, ltb}
use Rattle.refusal.specs.Outcome.{Answer, after}
use Rattle.refusal.specs.Outcome.Answer.{given, refused}
use Rattle.words.specs.Planes.{word_count}
use Rattle.machine.specs.declared.Room.{Room}
use Rattle.machine.specs.Machine.{check_count, check_room, check_scratch}

pub not-given : {A : Type 0} (n : ℕ) (a : A) → ◌≡◌ {A = Answer A} (refused n) (given a) → ⊥
not-given n a h = let z : ◌≡◌ {A = ℕ} 0 1 = cc in omega arith

pub after-given : {A : Type 0} (x : Answer Unit) (y : Answer A) (a : A) → after x y ≡ given a → (x ≡ given tt) × (y ≡ given a)
after-given (given t) y a h = (refl, h)
after-given (refused k) y a h = absurd (not-given k a h)

pub answer-given : {A : Type 0} (x : Answer Unit) (m n : A) → after x (given m) ≡ given n → (x ≡ given tt) × (m ≡ n)
answer-given (given t) m n h = (refl, cc)
answer-given (refused k) m n h = absurd (not-given k n h)

pub answer-refused : {A : Type 0} (x : Answer Unit) (m : A) (n : ℕ) → after x (given m) ≡ refused n → x ≡ refused n
answer-refused (given t) m n h = absurd (not-given n m (sym h))
answer-refused (refused k) m n h = let e : k ≡ n = cc in ap refused e

-- ---- a check by one test

pub test-left : (b : Bool) (k : ℕ) → ◌≡◌ {A = Answer Unit} (cond b (refused k) (given tt)) (given tt) → b ≡ false
test-left true k h = absurd (not-given k tt h)
test-left false k h = refl

pub test-taken : (b : Bool) (k : ℕ) → ◌≡◌ {A = Answer Unit} (cond b (given tt) (refused k)) (given tt) → b ≡ true
test-taken true k h = refl
test-taken false k h = absurd (not-given k tt h)

-- not 12
pub count-few : (n : ℕ) → check_count n ≡ given tt → n < 320
count-few n h = leb-false 320 n (test-left (leb 320 n) 12 h)

-- not 13
pub room-left : (r : Room) (n w : ℕ) → check_room r n w ≡ given tt → word_count w ≤ r.arena - n
room-left r n w h = ltb-false (r.arena - n) (word_count w) (test-left (ltb (r.arena - n) (word_count w)) 13 h)

pub scratch-left : (r : Room) (w : ℕ) → check_scratch r w ≡ given tt → word_count w ≤ r.scratch
scratch-left r w h = ltb-false r.scratch (word_count w) (test-left (ltb r.scratch (word_count w)) 13 h)
