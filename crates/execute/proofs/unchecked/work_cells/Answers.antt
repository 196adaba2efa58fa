-- `execute::unchecked::work_cells`: a cell that agrees lies within the arenas, and its spans are planes of its width.
use mathlib.Core.Path.{◌≡◌}
use mathlib.Core.Bool.{true}
use lib.ListN.{length}
use Rattle.words.specs.Planes.{Planes}
use Rattle.value.proofs.Checks.{sound-planes}
use Rattle.cells.specs.declared.Cell.{Cell}
use Rattle.cells.specs.Cells.{cell_agrees}
use Rattle.cells.proofs.Spans.{cell-fits, Readable, fits_read}
use Rattle.execute.proofs.unchecked.work_cells.Goals as goal

readable : {a : Planes} {x : Cell} → length a.value ≡ length a.unknown → cell_agrees a x.start x ≡ true → Readable a x
readable {a} {x} l e = fits_read a x.start x l (cell-fits a x.start x e)

pub cell_words-xv-requires : goal.cell_words-xv-requires
cell_words-xv-requires c = (readable c.requires.av_len c.requires.a_value).value-within

pub cell_words-xu-requires : goal.cell_words-xu-requires
cell_words-xu-requires c = (readable c.requires.av_len c.requires.a_value).unknown-within

pub cell_words-yv-requires : goal.cell_words-yv-requires
cell_words-yv-requires c = (readable c.requires.av_len c.requires.b_value).value-within

pub cell_words-yu-requires : goal.cell_words-yu-requires
cell_words-yu-requires c = (readable c.requires.av_len c.requires.b_value).unknown-within

pub cell_words-zv-requires : goal.cell_words-zv-requires
cell_words-zv-requires c = (readable c.requires.av_len c.requires.c_value).value-within

pub cell_words-zu-requires : goal.cell_words-zu-requires
cell_words-zu-requires c = (readable c.requires.av_len c.requires.c_value).unknown-within

pub work-requires-clause-plane : goal.work-requires-clause-plane
work-requires-clause-plane c =
    rw (c.cell_words-xv.ensures, c.cell_words-xu.ensures) (sound-planes (readable c.requires.av_len c.requires.a_value).sound)

pub work-requires-clause-plane_2 : goal.work-requires-clause-plane_2
work-requires-clause-plane_2 c =
    rw (c.cell_words-yv.ensures, c.cell_words-yu.ensures) (sound-planes (readable c.requires.av_len c.requires.b_value).sound)

pub work-requires-clause-plane_3 : goal.work-requires-clause-plane_3
work-requires-clause-plane_3 c =
    rw (c.cell_words-zv.ensures, c.cell_words-zu.ensures) (sound-planes (readable c.requires.av_len c.requires.c_value).sound)
