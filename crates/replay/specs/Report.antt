-- What is read as a table, and what the programs write of it.
use Rattle.std.specs.Prelude.{ℕ, Bool, cond, List, [], ◌∷◌, ◌++◌, length, nat_lt, codes}
use Rattle.std.specs.Fmt.{decimal}

-- a text of fewer than n bytes is a table; one that is longer is taken for an empty one
abbrev pub table_in : ℕ → List ℕ → List ℕ
table_in n t = cond (nat_lt (length t) n) t []

-- a line feed ends each line
abbrev pub line_feed : List ℕ
line_feed = 10 ∷ []

abbrev pub too_long : List ℕ
too_long = codes "the table is too long" ++ line_feed

-- what is written of a text that is read as a table: nothing, or that it is too long
abbrev pub table_told : ℕ → List ℕ → List ℕ
table_told n t = cond (nat_lt (length t) n) [] too_long

-- what is written of a line: nothing if it agrees and is not to be shown, else the line, behind a word if it differs
abbrev pub line_told : List ℕ → (agrees show : Bool) → List ℕ
line_told line agrees show = cond agrees (cond show (line ++ line_feed) []) (codes "differs: " ++ line ++ line_feed)

-- what is written of a table in the end: its path, and how many of its lines agree
abbrev pub total_told : List ℕ → ℕ → List ℕ
total_told path agreed = path ++ codes ": " ++ decimal agreed ++ codes " agree" ++ line_feed
