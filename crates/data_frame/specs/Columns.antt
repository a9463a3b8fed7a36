-- Stated. The cells of records, column by column.
use Rattle.std.specs.Prelude.{ℕ, ◌+◌, List, [], ◌∷◌, ◌++◌, map, slice_index_or}
use Rattle.std.specs.List.{range_with_len}
use Rattle.data_frame.specs.Records.{Row, Text}

-- the field of a record at a place
abbrev pub cell_at : ℕ → Row → Text
cell_at place row = slice_index_or row place []

-- the column at a place: the cell there of each record
abbrev pub cells_at : List Row → ℕ → List Text
cells_at rows place = map (cell_at place) rows

-- the columns at so many places from one on
unfoldable pub columns_from : List Row → ℕ → ℕ → List (List Text)
columns_from rows first count = map (cells_at rows) (range_with_len first count)

-- each column with the cell of one more record, the first with that at the place, the next with the one behind it
unfoldable pub with_row : List (List Text) → ℕ → Row → List (List Text)
with_row [] place row = []
with_row (cells ∷ rest) place row = (cells ++ cell_at place row ∷ []) ∷ with_row rest (place + 1) row
