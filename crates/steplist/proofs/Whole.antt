-- From the lines of a list to a whole text: each way through the code.
--     listed        nothing follows, and the text is not too long
--     text_follows, too_long, no_list      6
use mathlib.Core.Path.{◌≡◌, refl}
use mathlib.Core.Bool.{Bool, true, false, cond}
use mathlib.Core.List.{List}
use Prim.Native.Nat.{ℕ, ◌≤◌, ◌<◌}
use lib.Dec.{leb}
use lib.ListN.{length, drop, drop_of_length-le}
use lib.Seq.{drop-cons}
use borrow.Author.Tests.{le-leb, lt-leb}
use Rattle.refusal.specs.Outcome.{Answer}
use Rattle.refusal.specs.Outcome.Answer.{given, refused}
use Rattle.text.specs.Read.Got.{found, broken}
use Rattle.steplist.specs.Listing.{StepList, list, whole}

module _ (s : List ℕ) where
  pub listed : (l : StepList) (next : ℕ) → found l (drop next s) ≡ list s → length s ≤ next → length s ≤ 65536 → whole s ≡ given l
  unfolding whole
  listed l next e h b = rw (le-leb (length s) 65536 b, ← e, drop_of_length-le s h)

  pub too_long : 65536 < length s → whole s ≡ refused 6
  unfolding whole
  too_long b = rw (lt-leb (length s) 65536 b)

  -- 6, whatever the length
  six : (b : Bool) → ◌≡◌ {A = Answer StepList} (cond b (refused 6) (refused 6)) (refused 6)
  six true = refl
  six false = refl

  pub text_follows : (l : StepList) (next : ℕ) → found l (drop next s) ≡ list s → next < length s → whole s ≡ refused 6
  unfolding whole
  text_follows l next e h = rw (← e, drop-cons s next 0 h) (six (leb (length s) 65536))

  pub no_list : broken ≡ list s → whole s ≡ refused 6
  unfolding whole
  no_list e = rw (← e) (six (leb (length s) 65536))
