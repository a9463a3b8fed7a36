-- Stated. The columns that the names in a text stand for.
use Rattle.std.specs.Prelude.{ℕ, List, [], bytes_eq, position, take, drop, slice_index_or, unwrap_or, Option}
use Rattle.formula_parser.specs.Words.{Span}

-- bytes
abbrev pub Text : Type 0
Text = List ℕ

-- the piece of a text at a span
abbrev pub piece : Text → Span → Text
piece text x = take x.len (drop x.start text)

-- the first column of a name
abbrev pub column_of : List Text → Text → Option ℕ
column_of names name = position (λ n. bytes_eq n name) names

-- the column that the name at a span stands for
abbrev pub column_at : Text → List Text → Span → ℕ
column_at text names x = unwrap_or (column_of names (piece text x)) 0

-- the name of a column
abbrev pub name_at : List Text → ℕ → Text
name_at names column = slice_index_or names column []
