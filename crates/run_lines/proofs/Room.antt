-- How much room the lines of a run take.
--     decimal-three, decimal-two        a number below 1,000 has at most three digits, one below 100 at most two
--     number_small    a refusal's number has at most two digits
--     bits-line       a line of bits
--     cell_room, done_room, refused_room        the lines of a cell, of the end and of a refusal
use mathlib.Core.Path.{◌≡◌, ap}
use mathlib.Core.List.{List, ◌++◌, reverse}
use mathlib.Core.Logic.{◌⊎◌, inl, inr}
use Prim.Native.Nat.{ℕ, ◌+◌, ◌/◌, ◌≤◌, ◌<◌}
use native.Mathlib.Omega.{arith}
use lib.ListN.{length, length-append}
use Rattle.refusal.specs.declared.Refusal.{Refusal}
use Rattle.refusal.specs.declared.Refusal.TheVariants.{TooWide, PlaneLength, BitAboveWidth, EmptyFill, OutputLength, BadFormat, BadArms, NoSuchCell, StoreFull, NoRoom, BadStore, BadLiteral}
use Rattle.refusal.specs.Refusals.{refusal_number}
use Rattle.bit.specs.declared.LogicBit.{LogicBit}
use Rattle.words.proofs.Digits.{lt-or-ge}
use Rattle.text.specs.Read.{line_end, bits_key}
use Rattle.text.specs.Write.{texts, decimal, number_text, bit_text, bits_text}
use Rattle.text.proofs.Decimal.{decimal_digit}
use Rattle.lines.proofs.Put.{length-line, length-decimal, length-bits}
use Rattle.run_lines.specs.Output.{cell_key, done_key, refused_key, step_key, cell_text, done_text, refused_text}

decimal-one : (n : ℕ) → n < 10 → length (decimal n) ≤ 1
decimal-one n h = omega (arith, ap length (decimal_digit n h))

pub decimal-two : (n : ℕ) → n < 100 → length (decimal n) ≤ 2
decimal-two n h = go (lt-or-ge n 10)
  where
    go : (n < 10) ⊎ (10 ≤ n) → length (decimal n) ≤ 2
    go (inl l) = omega (arith, decimal-one n l)
    go (inr g) = omega (arith, length-decimal n g, decimal-one (n / 10) (omega arith))

pub decimal-three : (n : ℕ) → n < 1000 → length (decimal n) ≤ 3
decimal-three n h = go (lt-or-ge n 10)
  where
    go : (n < 10) ⊎ (10 ≤ n) → length (decimal n) ≤ 3
    go (inl l) = omega (arith, decimal-one n l)
    go (inr g) = omega (arith, length-decimal n g, decimal-two (n / 10) (omega arith))

pub number_small : (r : Refusal) → refusal_number r < 100
number_small TooWide = omega arith
number_small PlaneLength = omega arith
number_small BitAboveWidth = omega arith
number_small EmptyFill = omega arith
number_small OutputLength = omega arith
number_small BadFormat = omega arith
number_small BadArms = omega arith
number_small NoSuchCell = omega arith
number_small StoreFull = omega arith
number_small NoRoom = omega arith
number_small BadStore = omega arith
number_small BadLiteral = omega arith

pub bits-line : (bs : List LogicBit) → length (bits_key ++ bits_text bs) ≡ 6 + length bs
unfolding bits_text
bits-line bs =
    omega (arith, length-append bits_key (texts bit_text (reverse bs) ++ line_end), length-append (texts bit_text (reverse bs)) line_end, length-bits bs)

pub cell_room : (n : ℕ) (bs : List LogicBit) → n < 1000 → length (cell_text n bs) ≤ 15 + length bs
unfolding cell_text
cell_room n bs h = omega (arith, length-append (cell_key ++ number_text n) (bits_key ++ bits_text bs), length-line cell_key n, decimal-three n h, bits-line bs)

pub done_room : (k : ℕ) → k < 1000 → length (done_text k) ≤ 9
unfolding done_text
done_room k h = omega (arith, length-line done_key k, decimal-three k h)

pub refused_room : (n k : ℕ) → n < 100 → k < 1000 → length (refused_text n k) ≤ 20
unfolding refused_text
refused_room n k h j =
    omega (arith, length-append (refused_key ++ number_text n) (step_key ++ number_text k), length-line refused_key n, length-line step_key k, decimal-two n h, decimal-three k j)
