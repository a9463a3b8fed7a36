-- Stated. The first fault of a table's records, in the order in which faults are looked for.
use Rattle.std.specs.Prelude.{ℕ, ◌+◌, ◌==◌, not, Bool, true, false, List, [], ◌∷◌, ◌++◌, Option, Some, None, length, nat_lt, drop, if◌then◌else◌}
use Rattle.std.specs.List.{list_any}
use Rattle.std.specs.Option.{option_or}
use Rattle.std.specs.Str.{bytes_eq}
use Rattle.frac_core.specs.Limits.{most_rows}
use Rattle.data_frame.specs.Records.{Row, Text, are_text}
use Rattle.data_frame.specs.declared.fault.TableFault.{TableFault}
use Rattle.data_frame.specs.declared.fault.TableFault.TheVariants.{NoHeader, NotUtf8, Ragged, DoubleName, EmptyName, TooManyColumns, TooManyRows}

-- the first of at least two names is empty: its column holds row names
abbrev pub has_row_names : Row → Bool
has_row_names ([] ∷ name ∷ rest) = true
has_row_names _ = false

-- how many columns are set aside
abbrev pub set_aside : Row → ℕ
set_aside header = if has_row_names header then 1 else 0

-- the names of the other columns
abbrev pub names_of : Row → List Text
names_of header = drop (set_aside header) header

-- the fault of a name in a column, where `seen` stand to its left
unfoldable pub name_fault : ℕ → List Text → Text → Option TableFault
name_fault column seen name =
    if length name == 0 then Some (EmptyName column)
    else if list_any (bytes_eq name) seen then Some (DoubleName column) else None

-- the first fault of names that stand from a column on
unfoldable pub names_fault : ℕ → List Text → List Text → Option TableFault
names_fault column seen [] = None
names_fault column seen (name ∷ rest) =
    option_or (name_fault column seen name) (names_fault (column + 1) (seen ++ name ∷ []) rest)

-- the first fault of the header: a field that is no text, too many fields, or a name
unfoldable pub header_fault : Row → Option TableFault
header_fault header =
    if not (are_text header) then Some (NotUtf8 0)
    else if nat_lt 1024 (length header) then Some TooManyColumns
    else names_fault (set_aside header) [] (names_of header)

-- the fault of the record of this number, which should have so many fields
unfoldable pub row_fault : ℕ → ℕ → Row → Option TableFault
row_fault wanted rec row =
    if nat_lt most_rows rec then Some TooManyRows
    else if not (are_text row) then Some (NotUtf8 rec)
    else if length row == wanted then None else Some (Ragged rec (length row) wanted)

-- the first fault of records, numbered from this number on
unfoldable pub rows_fault : ℕ → ℕ → List Row → Option TableFault
rows_fault wanted rec [] = None
rows_fault wanted rec (row ∷ rest) = option_or (row_fault wanted rec row) (rows_fault wanted (rec + 1) rest)

-- the first fault of a table
unfoldable pub first_fault : List Row → Option TableFault
first_fault [] = Some NoHeader
first_fault (header ∷ rows) = option_or (header_fault header) (rows_fault (length header) 1 rows)
