-- `insert::unchecked::splice_bits64`: nothing is put in at or above the width, nor where the bits stand there already.
use mathlib.Core.Path.{◌≡◌, sym, ap, ◌∙◌}
use mathlib.Core.Bool.{true, not}
use native.Mathlib.Omega.{arith}
use borrow.Author.Rules.{rules}
use Rattle.words.specs.Planes.{from_planes, planes_of}
use Rattle.words.proofs.Planes.{length-tabulate}
use Rattle.bits.proofs.Splice.{planes-again, spliced-none}
use Rattle.insert.specs.Insert.{stands}
use Rattle.insert.proofs.Standing.{told, stands_none, stands-spliced}
use Rattle.insert.proofs.unchecked.splice_bits64.Goals as goal

pub returns-then-w-pos-clause-value : goal.returns-then-w-pos-clause-value
returns-then-w-pos-clause-value c =
    let a = c.args in
    sym (ap not (stands_none (from_planes a.width a.value.now a.unknown.now) a.pos a.n a.bits (simp length-tabulate c.if-w-pos.true)))

pub returns-then-w-pos-clause-unknown_value : goal.returns-then-w-pos-clause-unknown_value
returns-then-w-pos-clause-unknown_value c =
    let a = c.args in
    planes-again a.width a.value.now a.unknown.now c.requires.plane c.requires.plane_2 (λ k. search rules) (λ k. search rules)
    ∙ ap planes_of (sym (spliced-none (from_planes a.width a.value.now a.unknown.now) a.pos a.n a.bits (simp length-tabulate c.if-w-pos.true)))

pub returns-then-eq-clause-unknown_value : goal.returns-then-eq-clause-unknown_value
returns-then-eq-clause-unknown_value c =
    let a = c.args in
    let bs = from_planes a.width a.value.now a.unknown.now in
    let t : stands bs a.pos a.n a.bits ≡ true = grind (arith, told) in
    planes-again a.width a.value.now a.unknown.now c.requires.plane c.requires.plane_2 (λ k. search rules) (λ k. search rules)
    ∙ ap planes_of (sym (stands-spliced bs a.pos a.n a.bits t))
