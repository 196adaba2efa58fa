-- What the export is handed and what it answers: the truth that a code stands for, and the part that the answer tells.
use mathlib.Core.Path.{refl}
use native.Mathlib.Omega.{arith}
use lib.Seq.{take-length}
use Rattle.reduce_words.specs.declared.Truth.TheVariants.{False, True, Unknown}
use Rattle.ffi_arm.specs.Told.{ReadsTruth, TellsArm}

pub reads-truth : ReadsTruth
reads-truth False = refl
reads-truth True = refl
reads-truth Unknown = refl

pub tells-arm : TellsArm
tells-arm True first second = (λ i. record { start = first.start; words = take-length first.words i }, omega arith)
tells-arm False first second = (λ i. record { start = second.start; words = take-length second.words i }, omega arith)
tells-arm Unknown first second = (refl, omega arith)
