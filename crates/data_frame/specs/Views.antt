-- Stated. How contracts see columns and tables whose numbers are the program's fractions.
use Rattle.std.specs.Prelude.{map, option_map}
use Rattle.rational_laws.specs.Rational.{ℚ}
use Rattle.frac_core.specs.declared.frac128.Frac128.{Frac128}
use Rattle.frac_core.specs.Values.{exact}
use Rattle.data_frame.specs.Cells.{ColumnOf, numbers, factor, too_wide}
use Rattle.data_frame.specs.Tables.{TableOf}
use Rattle.data_frame.specs.declared.column.ColumnCells.{ColumnCells}
use Rattle.data_frame.specs.declared.column.ColumnCells.TheVariants as stored
use Rattle.data_frame.specs.declared.column.Column.{Column}
use Rattle.data_frame.specs.declared.column.Column.TheVariants as lent

-- the column with the values of its numbers
abbrev pub exact_column : ColumnOf Frac128 → ColumnOf ℚ
exact_column (numbers values) = numbers (map (option_map exact) values)
exact_column (factor texts) = factor texts
exact_column (too_wide rec) = too_wide rec

-- the table with the values of its numbers
abbrev pub exact_table : TableOf Frac128 → TableOf ℚ
exact_table table = record { names = table.names; records = table.records; columns = map exact_column table.columns }

-- a column that is stored
abbrev pub stored_column : ColumnCells → ColumnOf Frac128
stored_column (stored.Numbers values) = numbers values.items
stored_column (stored.Factor texts) = factor texts.items
stored_column (stored.TooWide rec) = too_wide rec

-- a column that is lent
abbrev pub lent_column : Column → ColumnOf Frac128
lent_column (lent.Numbers values) = numbers values.now
lent_column (lent.Factor texts) = factor texts.now
lent_column (lent.TooWide rec) = too_wide rec
