-- Stated. The table of bytes.
use Rattle.std.specs.Prelude.{ℕ, List, [], ◌∷◌, Option, Some, None, Result, Ok, Err, length, map, option_and_then, position, slice_get}
use Rattle.std.specs.Str.{bytes_eq}
use Rattle.rational_laws.specs.Rational.{ℚ}
use Rattle.data_frame.specs.Records.{Row, Text, records_of}
use Rattle.data_frame.specs.Faults.{first_fault, names_of, set_aside}
use Rattle.data_frame.specs.Columns.{columns_from}
use Rattle.data_frame.specs.Cells.{ColumnOf, column_of}
use Rattle.data_frame.specs.declared.fault.TableFault.{TableFault}
use Rattle.data_frame.specs.declared.fault.TableFault.TheVariants.{NoHeader}

-- the names of the columns, the number of records, and one column for each name
pub record TableOf (N : Type 0) : Type 0 where
  pub names : List Text
  pub records : ℕ
  pub columns : List (ColumnOf N)

-- the column of a name
abbrev pub column_named : {N : Type 0} → Text → TableOf N → Option (ColumnOf N)
column_named name table = option_and_then (λ place. slice_get table.columns place) (position (bytes_eq name) table.names)

-- the table of records without a fault
unfoldable pub table_under : Row → List Row → TableOf ℚ
table_under header rows = record {
  names = names_of header;
  records = length rows;
  columns = map column_of (columns_from rows (set_aside header) (length (names_of header)));
}

-- the table, where there is no fault
abbrev pub unless : Option TableFault → TableOf ℚ → Result (TableOf ℚ) TableFault
unless None table = Ok table
unless (Some fault) table = Err fault

-- the table of records, the first of which is the header, or their first fault
unfoldable pub table_of_records : List Row → Result (TableOf ℚ) TableFault
table_of_records [] = Err NoHeader
table_of_records (header ∷ rows) = unless (first_fault (header ∷ rows)) (table_under header rows)

-- the table of bytes, or its first fault
abbrev pub table_of : List ℕ → Result (TableOf ℚ) TableFault
table_of bytes = table_of_records (records_of bytes)
