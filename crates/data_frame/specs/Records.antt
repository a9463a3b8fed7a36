-- Stated. The records of a table's bytes.
use Rattle.std.specs.Prelude.{ℕ, Bool, List}
use Rattle.std.specs.List.{list_all}
use Rattle.std.specs.Str.{is_utf8}
use Rattle.csv.specs.Reading.{default_config, records, strip_bom}

-- the bytes of a name or of a cell
abbrev pub Text : Type 0
Text = List ℕ

-- the fields of a record
abbrev pub Row : Type 0
Row = List Text

-- The records as `csv` defines them: commas, double quotes and no trimming. A byte order mark at the start is taken off,
-- a line feed, a carriage return or both end a record, and blank lines vanish.
unfoldable pub records_of : List ℕ → List Row
records_of bytes = records default_config (strip_bom bytes)

-- every field is UTF-8
unfoldable pub are_text : Row → Bool
are_text row = list_all is_utf8 row
