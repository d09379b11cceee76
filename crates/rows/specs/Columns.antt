-- Columns: what a layout says of a row, and the table of every kind of row. Nothing is assumed.
--   Shape      a column's width and limit
--   shapes     those of a layout's columns, in order
--   widths     the bytes of a row's fields together
--   list_row, schedule_row, page_row, foot_row, refusal_line     the columns of each kind of row
use Rattle.std.specs.Prelude.{ℕ, ◌+◌, List, [], ◌∷◌}
use Rattle.rows.specs.declared.column.Column.{Column}

pub record Shape : Type 0 where
  pub width : ℕ
  pub limit : ℕ

abbrev pub shape : ℕ → ℕ → Shape
shape w l = record { width = w; limit = l }

abbrev pub shapes : List Column → List Shape
shapes [] = []
shapes (c ∷ cs) = shape c.width c.limit ∷ shapes cs

abbrev pub widths : List Shape → ℕ
widths [] = 0
widths (s ∷ ss) = s.width + widths ss

-- asked, class, ready, word
abbrev pub list_row : List Shape
list_row = shape 10 1000000000 ∷ shape 2 7 ∷ shape 11 1000000000 ∷ shape 11 4294967295 ∷ []

-- class, epoch, wait
abbrev pub schedule_row : List Shape
schedule_row = shape 2 7 ∷ shape 3 999 ∷ shape 11 1000000000 ∷ []

-- row, asked, class, release, misses
abbrev pub page_row : List Shape
page_row = shape 6 999999 ∷ shape 11 1000000000 ∷ shape 3 7 ∷ shape 11 1000000000 ∷ shape 4 9999 ∷ []

-- rows, clock, classes, bits, misses, after the "="
abbrev pub foot_row : List Shape
foot_row = shape 5 99999 ∷ shape 11 1000000000 ∷ shape 3 999 ∷ shape 11 99999999999 ∷ shape 4 9999 ∷ []

-- number, file, row, field
abbrev pub refusal_line : List Shape
refusal_line = shape 6 999999 ∷ shape 6 999999 ∷ shape 6 999999 ∷ shape 6 999999 ∷ []
