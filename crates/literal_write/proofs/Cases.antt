-- Examples of IEEE 1800-2017, 5.7.1, and of its rules, as one table by computation: a literal, and beside it the same vector as it is written; nothing
-- beside a text that is no literal. Sizes are written out and white space and signs left out, as document 02, point 1, has literals.
use mathlib.Core.Path.{◌≡◌, refl}
use mathlib.Core.Bool.{Bool, true, false, ◌&&◌}
use mathlib.Core.List.{List, [], ◌∷◌}
use Prim.Native.Nat.{ℕ}
use Prim.Native.String.{String}
use lib.Dec.{eqb}
use Rattle.refusal.specs.Outcome.{Answer}
use Rattle.refusal.specs.Outcome.Answer.{given, refused}
use Rattle.words.specs.Vector.{tabulate}
use Rattle.value.specs.Checks.{Vector}
use Rattle.text.specs.Read.{bytes}
use Rattle.text.specs.Write.{texts, decimal_digits, decimal}
use Rattle.literal_words.specs.Digits.{digit_number, radix, digit_width, digits, number_by, digit_bit, digits_bits, leading, decimal_bits, value_bits}
use Rattle.literal_words.specs.Digits.{is_digit_of, each, is_run, is_lone, is_value}
use Rattle.literal_read.specs.Literal.{before_apostrophe, behind_apostrophe, is_size, based, signed_based, literal}
use Rattle.literal_write.specs.Write.{literal_text}

same : List ℕ → List ℕ → Bool
same [] [] = true
same [] (d ∷ t) = false
same (c ∷ s) [] = false
same (c ∷ s) (d ∷ t) = eqb c d && same s t

rewritten : Answer Vector → List ℕ
rewritten (given x) = literal_text x
rewritten (refused n) = []

-- a row: the text, and what it stands for
record Row : Type 0 where
  text : String
  stands : String

holds : List Row → Bool
holds [] = true
holds (r ∷ rs) = same (rewritten (literal (bytes r.text))) (bytes r.stands) && holds rs

abbrev row : String → String → Row
row t s = record { text = t; stands = s }

table : List Row
table =
    row "4'b1001" "4'b1001" ∷ row "5'D3" "5'b00011" ∷ row "3'b01x" "3'b01x" ∷ row "12'hx" "12'bxxxxxxxxxxxx" ∷ row "16'hz" "16'bzzzzzzzzzzzzzzzz"
    ∷ row "4'shf" "4'sb1111" ∷ row "16'sd?" "16'sbzzzzzzzzzzzzzzzz" ∷ row "16'b0011_0101_0001_1111" "16'b0011010100011111"
    ∷ row "32'h12ab_f001" "32'b00010010101010111111000000000001" ∷ row "12'h3x" "12'b00000011xxxx" ∷ row "12'hz3" "12'bzzzzzzzz0011"
    ∷ row "12'h0x3" "12'b0000xxxx0011" ∷ row "8'hzx" "8'bzzzzxxxx" ∷ row "9'hx5" "9'bxxxxx0101" ∷ row "3'hx5" "3'b101" ∷ row "7'o1z" "7'b0001zzz"
    ∷ row "1_6_'hf_f" "16'b0000000011111111" ∷ row "8'sh8" "8'sb00001000" ∷ row "4'd17" "4'b0001" ∷ row "8'd?_" "8'bzzzzzzzz"
    ∷ row "8'SHF?" "8'sb1111zzzz" ∷ row "3'B?X1" "3'bzx1" ∷ row "6'O7Z" "6'b111zzz" ∷ row "8'hAf" "8'b10101111"
    ∷ row "8'd-6" "" ∷ row "'h837FF" "" ∷ row "4af" "" ∷ row "8'dxx" "" ∷ row "8'h_f" "" ∷ row "08'hff" "" ∷ row "0'b0" "" ∷ row "4097'b0" "" ∷ []

worked : holds table ≡ true
unfolding same rewritten holds table literal before_apostrophe behind_apostrophe is_size based signed_based is_run is_lone is_value each is_digit_of digit_number radix
    digit_width digits number_by digit_bit digits_bits leading decimal_bits value_bits tabulate literal_text texts decimal_digits decimal
worked = refl
