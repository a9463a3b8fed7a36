-- Stated. The limits of a table and of its problem.
use Rattle.std.specs.Prelude.{ℕ}

-- the most records of a table, and the most rows of a problem
abbrev pub most_rows : ℕ
most_rows = 16384

-- the most columns of a problem
abbrev pub most_columns : ℕ
most_columns = 128
