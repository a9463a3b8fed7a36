-- How long a generated table is at most.
use Rattle.std.proofs.Common.{◌≡◌, ℕ, zero, suc, ◌+◌, ◌*◌, ◌^◌, ◌<◌, ◌≤◌, List, ◌++◌, length, codes, decimal, arith}
use Rattle.std.specs.List.{flat_map, range_with_len}
use Rattle.std.proofs.lemmas.Fmt.{length-decimal-le}
use Rattle.std.proofs.lemmas.List.{length-append}
use Rattle.frac_core.specs.Limits.{most_rows}
use Rattle.table_maker.specs.Tables.{cell, column_name, header_line, next_cell, record_line, record_of, table_of}

-- n pieces of at most m bytes
pieces_length : (f : ℕ → List ℕ) (m a n : ℕ) → ((k : ℕ) → k < a + n → length (f k) ≤ m) → length (flat_map f (range_with_len a n)) ≤ n * m
pieces_length f m a zero h = omega arith
pieces_length f m a (suc n) h =
    let first : length (f a) ≤ m = h a (omega arith) in
    let rest : length (flat_map f (range_with_len (a + 1) n)) ≤ n * m = pieces_length f m (a + 1) n (λ k l. h k (omega (arith, l))) in
    omega (arith, first, rest, length-append (f a) (flat_map f (range_with_len (a + 1) n)))

cell_length : (number k : ℕ) → length (decimal (cell number k)) ≤ 3
cell_length number k = length-decimal-le 3 (cell number k) (omega arith) (omega arith) (omega arith)

name_length : (c : ℕ) → c < 101 → length (column_name c) ≤ 5
name_length c h =
    let digits : length (decimal c) ≤ 3 = length-decimal-le 3 c (omega arith) (omega (arith, h)) (omega (arith, h)) in
    omega (arith, digits, length-append (codes ",x") (decimal c))

next_length : (number k : ℕ) → length (next_cell number k) ≤ 4
next_length number k = omega (arith, cell_length number k, length-append (codes ",") (decimal (cell number k)))

-- a line of a head, of pieces and of a foot
line_length : (head pieces foot : List ℕ) → length ((head ++ pieces) ++ foot) ≡ length head + length pieces + length foot
line_length head pieces foot = omega (arith, length-append head pieces, length-append (head ++ pieces) foot)

header_length : (columns : ℕ) → columns ≤ 100 → length (header_line columns) ≤ 502
header_length columns h =
    let names = flat_map column_name (range_with_len 1 columns) in
    let short : length names ≤ columns * 5 = pieces_length column_name 5 1 columns (λ c l. name_length c (omega (arith, h, l))) in
    omega (arith, h, short, line_length (codes "y") names (codes "\n"))

record_length : (number columns k : ℕ) → columns ≤ 100 → length (record_line number columns k) ≤ 404
record_length number columns k h =
    let cells = flat_map (next_cell number) (range_with_len (k + 1) columns) in
    let short : length cells ≤ columns * 4 = pieces_length (next_cell number) 4 (k + 1) columns (λ i l. next_length number i) in
    omega (arith, h, short, cell_length number k, line_length (decimal (cell number k)) cells (codes "\n"))

pub table_length : (number rows columns : ℕ) → rows ≤ most_rows → columns ≤ 100 → length (table_of number rows columns) ≤ 2 ^ 26
table_length number rows columns few h =
    let records = flat_map (record_of number columns) (range_with_len 0 rows) in
    let short : length records ≤ rows * 404 = pieces_length (record_of number columns) 404 0 rows (λ r l. record_length number columns (r * (columns + 1) + 1) h) in
    omega (arith, few, short, header_length columns h, length-append (header_line columns) records)
