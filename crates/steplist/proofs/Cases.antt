-- Document 01, "Step list": the whole case, as the definition reads it.
use mathlib.Core.Path.{◌≡◌, refl}
use mathlib.Core.List.{List, [], ◌∷◌}
use Prim.Native.Nat.{ℕ}
use Rattle.bit.specs.declared.LogicBit.TheVariants.{Zero, One, X}
use Rattle.refusal.specs.Outcome.Answer.{given}
use Rattle.value.specs.Checks.{plain}
use Rattle.ops.specs.declared.Op.TheVariants.{And, ReduceOr}
use Rattle.text.specs.Read.{key, more, number, number_line, named, one_of, is_bit, of_byte, bit, bits, bits_line, many}
use Rattle.steplist.specs.OpLine.{name_line, choice_line, op_line}
use Rattle.steplist.specs.Listing.{StepList, input, numbers, step, list, whole}

abbrev standard_input : List ℕ
standard_input =
    105 ∷ 110 ∷ 112 ∷ 117 ∷ 116 ∷ 115 ∷ 61 ∷ 50 ∷ 10 ∷
    115 ∷ 116 ∷ 101 ∷ 112 ∷ 115 ∷ 61 ∷ 50 ∷ 10 ∷
    119 ∷ 105 ∷ 100 ∷ 116 ∷ 104 ∷ 61 ∷ 50 ∷ 10 ∷
    107 ∷ 105 ∷ 110 ∷ 100 ∷ 61 ∷ 117 ∷ 10 ∷
    98 ∷ 105 ∷ 116 ∷ 115 ∷ 61 ∷ 49 ∷ 120 ∷ 10 ∷
    119 ∷ 105 ∷ 100 ∷ 116 ∷ 104 ∷ 61 ∷ 50 ∷ 10 ∷
    107 ∷ 105 ∷ 110 ∷ 100 ∷ 61 ∷ 117 ∷ 10 ∷
    98 ∷ 105 ∷ 116 ∷ 115 ∷ 61 ∷ 48 ∷ 49 ∷ 10 ∷
    111 ∷ 112 ∷ 61 ∷ 97 ∷ 110 ∷ 100 ∷ 10 ∷
    97 ∷ 61 ∷ 48 ∷ 10 ∷
    98 ∷ 61 ∷ 49 ∷ 10 ∷
    99 ∷ 61 ∷ 48 ∷ 10 ∷
    111 ∷ 112 ∷ 61 ∷ 114 ∷ 111 ∷ 114 ∷ 10 ∷
    97 ∷ 61 ∷ 50 ∷ 10 ∷
    98 ∷ 61 ∷ 48 ∷ 10 ∷
    99 ∷ 61 ∷ 48 ∷ 10 ∷ []

abbrev meant : StepList
meant = record {
  inputs = record { header = plain 2; bits = X ∷ One ∷ [] } ∷ record { header = plain 2; bits = One ∷ Zero ∷ [] } ∷ [];
  steps = record { op = And; a = 0; b = 1; c = 0 } ∷ record { op = ReduceOr; a = 2; b = 0; c = 0 } ∷ [];
}

whole-case : whole standard_input ≡ given meant
unfolding key more number number_line named one_of is_bit of_byte bit bits bits_line many name_line choice_line op_line input numbers step list whole
whole-case = refl
