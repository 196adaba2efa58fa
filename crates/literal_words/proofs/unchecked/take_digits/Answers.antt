-- `literal_words::unchecked::take_digits`: each plane holds a number that goes on with the rest of the text to what all of it gives.
use mathlib.Core.Path.{◌≡◌, refl, sym, ap, ◌∙◌}
use mathlib.Core.List.{List, []}
use Prim.Native.Nat.{ℕ, ◌+◌, ◌*◌}
use lib.ListN.{length, drop_of_length-le}
use Rattle.literal_words.specs.Digits.{digits, number_by}
use Rattle.literal_words.specs.Passes.{words_of, Taken, Goes}
use Rattle.literal_words.proofs.unchecked.take_digits.Invariants.{Going}
use Rattle.literal_words.proofs.unchecked.take_digits.Goals as goal

begin : {r : ℕ} {f : ℕ → ℕ} {t p : List ℕ} → Going r f t t p p
begin = record { long = refl; reached = λ n e. (n, e, refl) }

module _ {r : ℕ} {f : ℕ → ℕ} {t u p q : List ℕ} where
  chunk : {w x : List ℕ} (power value : ℕ) → Going r f t u p q → Goes r f power value u w → Taken (λ n. n * power + value) q x → length x ≡ length q
      → Going r f t w p x
  chunk power value h g k e = record {
    long = e ∙ h.long;
    reached = λ n s. let b = h.reached n s in (
      b.0 * power + value,
      k b.0 (b.1 ∙ ap (λ (l : ℕ). words_of l b.0) (sym h.long)) ∙ ap (λ (l : ℕ). words_of l (b.0 * power + value)) h.long,
      b.2 ∙ g b.0,
    );
  }

  end : Going r f t u p q → u ≡ [] → Taken (λ n. number_by r f n (digits t)) p q
  unfolding digits number_by
  end h e n s = let b = h.reached n s in b.1 ∙ ap (words_of (length p)) (sym (b.2 ∙ ap (λ (w : List ℕ). number_by r f b.0 (digits w)) e))

pub loop-i-init : goal.loop-i-init
loop-i-init c = record { rest = c.requires.s_value; to_value = begin; to_unknown = begin }

pub loop-i-preserved : goal.loop-i-preserved
loop-i-preserved c =
    let d = c.read_chunk-c in
    let h = c.loop-i.invariant in
    let k = d.ensures in
    record {
      rest = k.rest;
      to_value = chunk d.result.power d.result.value h.to_value k.to_value c.times_plus.ensures c.times_plus.auto.plane;
      to_unknown = chunk d.result.power d.result.unknown h.to_unknown k.to_unknown c.times_plus-in-loop-i.ensures c.times_plus-in-loop-i.auto.plane;
    }

pub returns : goal.returns
returns c =
    let h = c.loop-i.invariant in
    let none = drop_of_length-le _ c.loop-i-test.false in record { taken = end h.to_value none; taken_2 = end h.to_unknown none }
