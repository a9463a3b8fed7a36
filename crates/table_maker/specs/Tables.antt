-- Stated. The generated table: what its bytes are.
use Rattle.std.specs.Prelude.{ℕ, zero, suc, ◌+◌, ◌*◌, ◌/◌, ◌%◌, ◌++◌, List, codes, decimal}
use Rattle.std.specs.List.{flat_map, range_with_len}

-- the generator's next number, modulo 2^32 (Numerical Recipes in C, section 7.1)
abbrev pub next_number : ℕ → ℕ
next_number z = (1664525 * z + 1013904223) % 4294967296

-- its number after k steps
abbrev pub number_after : ℕ → ℕ → ℕ
number_after z zero = z
number_after z (suc k) = next_number (number_after z k)

-- the cell that one of its numbers gives, below 1,000: the upper half of its bits, modulo 1,000
abbrev pub cell_of : ℕ → ℕ
cell_of z = (z / 65536) % 1000

-- cell k of the table of a number, counted from 1, record by record and from left to right
abbrev pub cell : ℕ → ℕ → ℕ
cell number k = cell_of (number_after number k)

-- the name of column c, behind a comma
abbrev pub column_name : ℕ → List ℕ
column_name c = codes ",x" ++ decimal c

-- `y`, and then `x1`, `x2` and so on
abbrev pub header_line : ℕ → List ℕ
header_line columns = codes "y" ++ flat_map column_name (range_with_len 1 columns) ++ codes "\n"

-- cell k behind a comma
abbrev pub next_cell : ℕ → ℕ → List ℕ
next_cell number k = codes "," ++ decimal (cell number k)

-- the record that begins with cell k: that of the response, and then those of the columns
abbrev pub record_line : ℕ → ℕ → ℕ → List ℕ
record_line number columns k = decimal (cell number k) ++ flat_map (next_cell number) (range_with_len (k + 1) columns) ++ codes "\n"

-- record r, counted from 0: it goes on where the one before it ended
abbrev pub record_of : ℕ → ℕ → ℕ → List ℕ
record_of number columns r = record_line number columns (r * (columns + 1) + 1)

-- the header, and then the records
abbrev pub table_of : ℕ → ℕ → ℕ → List ℕ
table_of number rows columns = header_line columns ++ flat_map (record_of number columns) (range_with_len 0 rows)
