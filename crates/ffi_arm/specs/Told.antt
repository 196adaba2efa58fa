-- Document 02, point 5, for C, where a call returns no slice: the chosen arm told by which of the two it is and how many words of it.
use Rattle.std.specs.Prelude.{◌≡◌, Bool, true, false, cond, [], ◌∷◌, ℕ, ◌≤◌, length}
use Rattle.bit.specs.Rules.{code, of_code}
use Rattle.reduce_words.specs.declared.Truth.{Truth}
use Rattle.reduce_words.specs.declared.Truth.TheVariants.{False, True, Unknown}
use Rattle.reduce_words.specs.Fold.{truth_of, truth_bit}
use Rattle.arm.specs.Arm.{Part, beginning, chosen_arm}
use Rattle.ffi_arm.specs.declared.ArmResult.{ArmResult}

-- a truth is passed as the code of a bit and is the truth of that bit: x and z are unknown, a number above 3 is taken modulo 4
abbrev pub truth_of_code : ℕ → Truth
truth_of_code n = truth_of (of_code n ∷ [])

-- so the code that `is_nonzero` answers is read as the truth that it stands for
abbrev pub ReadsTruth : Type 0
ReadsTruth = (t : Truth) → truth_of_code (code (truth_bit t)) ≡ t

-- whether the chosen arm is the second one
abbrev pub picks_second : Truth → Bool
picks_second True = false
picks_second False = true
picks_second Unknown = false

-- the answer of the export: which arm, and how many words the chosen part has
abbrev pub told_arm : Truth → Part → Part → ArmResult
told_arm t first second = record { is_second = picks_second t; length = length (chosen_arm t first second).words }

-- the arm that an answer names
abbrev pub arm_told : ArmResult → Part → Part → Part
arm_told r first second = cond r.is_second second first

-- the chosen part is so many words of that arm, from its beginning on, and it has them
abbrev pub TellsArm : Type 0
TellsArm =
    (t : Truth) (first second : Part) → let r : ArmResult = told_arm t first second in
    (beginning r.length (arm_told r first second) ≡ chosen_arm t first second) × (r.length ≤ length (arm_told r first second).words)
