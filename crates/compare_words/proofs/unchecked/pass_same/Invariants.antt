-- `compare_words::unchecked::pass_same`: no word of the blocks passed differs or has an unknown bit; nor does one of the j from word k on while `marks` is 0.
use mathlib.Core.Path.{◌≡◌}
use Prim.Native.Nat.{ℕ, ◌+◌, ◌*◌, ◌<◌}
use Rattle.compare_words.specs.Compared.{unlike}
use Rattle.compare_words.proofs.unchecked.pass_same.Given as goal

abbrev pub invariant-loop-j : goal.invariant-loop-j
invariant-loop-j l = ◌≡◌ {A = ℕ} l.marks 0 → (i : ℕ) → i < l.k + l.j → unlike l.av l.au l.bv l.bu i ≡ 0

abbrev pub invariant-loop-block : goal.invariant-loop-block
invariant-loop-block l = (i : ℕ) → i < l.block * 8 → unlike l.av l.au l.bv l.bu i ≡ 0
