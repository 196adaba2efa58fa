-- Document 01, "Cell store": the 320 places of a store as four lists, one for the start words and one for each part of a header, so that they can be
-- lent.
use Rattle.std.specs.Prelude.{◌≡◌, Bool, false, List, map, ℕ, length, get_or, replicate}
use Rattle.words.specs.Vector.{tabulate}
use Rattle.value.specs.declared.Header.{Header}
use Rattle.value.specs.Checks.{plain}
use Rattle.cells.specs.declared.Cell.{Cell}
use Rattle.cells.specs.declared.Fields.{Fields}

abbrev pub fields : List ℕ → List ℕ → List Bool → List Bool → Fields
fields a b c d = record { starts = a; widths = b; signs = c; fills = d }

-- by what is lent
abbrev pub fields_by : (starts widths : List ℕ) → (signs fills : List Bool) → Fields
fields_by a b c d = fields a b c d

-- each list has 320 places
pub record Whole (f : Fields) : Type 0 where
  pub starts : length f.starts ≡ 320
  pub widths : length f.widths ≡ 320
  pub signs : length f.signs ≡ 320
  pub fills : length f.fills ≡ 320

-- the header at place i
abbrev pub header_of : (widths : List ℕ) → (signs fills : List Bool) → ℕ → Header
header_of w s f i = record { width = get_or w i 0; is_signed = get_or s i false; is_fill = get_or f i false }

-- the cell at place i
abbrev pub cell_of : Fields → ℕ → Cell
cell_of f i = record { start = get_or f.starts i 0; header = header_of f.widths f.signs f.fills i }

-- the cells at the 320 places
abbrev pub places_of : Fields → List Cell
places_of f = tabulate 320 (cell_of f)

-- the first n headers, by what is lent
abbrev pub headers_by : ℕ → (widths : List ℕ) → (signs fills : List Bool) → List Header
headers_by n w s f = tabulate n (header_of w s f)

-- the four lists of these cells
abbrev pub fields_of : List Cell → Fields
fields_of cs =
    fields
    (map (λ (c : Cell). c.start) cs)
    (map (λ (c : Cell). c.header.width) cs)
    (map (λ (c : Cell). c.header.is_signed) cs)
    (map (λ (c : Cell). c.header.is_fill) cs)

-- what stands in each place of an empty store
abbrev pub no_cell : Cell
no_cell = record { start = 0; header = plain 0 }

-- and its four lists
abbrev pub no_fields : Fields
no_fields = fields (replicate 320 0) (replicate 320 0) (replicate 320 false) (replicate 320 false)
