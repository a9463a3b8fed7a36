-- Stated. What the cells of a column hold.
use Rattle.std.specs.Prelude.{ℕ, ◌-◌, ◌^◌, ◌==◌, ◌||◌, Bool, true, false, List, [], ◌∷◌}
use Rattle.std.specs.Prelude.{Option, Some, None, Result, Ok, Err, codes, length, map, reverse, if◌then◌else◌}
use Rattle.std.specs.List.{list_all, position_from}
use Rattle.std.specs.Str.{bytes_eq}
use Rattle.rational_laws.specs.Rational.{ℚ}
use Rattle.frac_core.specs.NumberText.{is_number_text, number_of}
use Rattle.frac_core.specs.declared.number_reader.NumberFault.{NumberFault}
use Rattle.frac_core.specs.declared.number_reader.NumberFault.TheVariants.{TooWide}
use Rattle.data_frame.specs.Records.{Text}

-- a space or a tab
abbrev pub is_blank : ℕ → Bool
is_blank b = (b == 32) || (b == 9)

-- the cell from its first byte that is no blank
unfoldable pub without_leading_blanks : Text → Text
without_leading_blanks [] = []
without_leading_blanks (b ∷ rest) = if is_blank b then without_leading_blanks rest else b ∷ rest

-- the cell to its last byte that is no blank
unfoldable pub without_trailing_blanks : Text → Text
without_trailing_blanks cell = reverse (without_leading_blanks (reverse cell))

-- a cell without the blanks at its ends
unfoldable pub bare : Text → Text
bare cell = without_trailing_blanks (without_leading_blanks cell)

-- nothing or `NA` is left of the cell
unfoldable pub is_missing : Text → Bool
is_missing cell = (length (bare cell) == 0) || bytes_eq (bare cell) (codes "NA")

-- the cell fits a column of numbers
unfoldable pub is_numeric : Text → Bool
is_numeric cell = is_missing cell || is_number_text (bare cell)

-- a number that is there
abbrev pub some_number : Result ℚ NumberFault → Result (Option ℚ) NumberFault
some_number (Ok x) = Ok (Some x)
some_number (Err fault) = Err fault

-- the number in a cell, none where it is missing, or why it holds none
unfoldable pub number_in : Text → Result (Option ℚ) NumberFault
number_in cell = if is_missing cell then Ok None else some_number (number_of (2 ^ 127 - 1) (bare cell))

-- the number in a cell that is a number or missing
abbrev pub number_or_none : Result (Option ℚ) NumberFault → Option ℚ
number_or_none (Ok number) = number
number_or_none (Err fault) = None

-- there was a number, and it is too wide
abbrev pub is_wide : Result (Option ℚ) NumberFault → Bool
is_wide (Err TooWide) = true
is_wide _ = false

-- the cell holds a number that is too wide
abbrev pub is_too_wide : Text → Bool
is_too_wide cell = is_wide (number_in cell)

-- the cell as it stands, none where it is missing
abbrev pub kept : Text → Option Text
kept cell = if is_missing cell then None else Some cell

-- A column over the type of its numbers: a number for each cell that isn't missing; or a text, in a factor; or the first
-- record whose number is too wide.
pub data ColumnOf (N : Type 0) : Type 0 where
  numbers : List (Option N) → ColumnOf N
  factor : List (Option Text) → ColumnOf N
  too_wide : ℕ → ColumnOf N

-- the column, or the first record whose number is too wide, where there is one
abbrev pub too_wide_or : Option ℕ → ColumnOf ℚ → ColumnOf ℚ
too_wide_or None column = column
too_wide_or (Some rec) column = too_wide rec

-- a column is numeric where every cell fits; records are counted from 1
unfoldable pub column_of : List Text → ColumnOf ℚ
column_of cells =
    if list_all is_numeric cells
    then too_wide_or (position_from is_too_wide 1 cells) (numbers (map (λ cell. number_or_none (number_in cell)) cells))
    else factor (map kept cells)
