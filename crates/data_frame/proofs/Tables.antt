-- From records without a fault to their table.
use Rattle.std.proofs.Common.{◌≡◌, ◌∙◌, ◌<◌, ◌≤◌, ◌+◌, ◌-◌, ◌^◌, ℕ, false, List, [], ◌∷◌, Some, None, Ok, Err, All, length, get_or, map, refl, sym, ap, arith, inl, inr, nat_lt}
use Rattle.std.proofs.lemmas.Bool.{cases_Bool, ltb-false, ltb-true}
use Rattle.std.proofs.lemmas.List.{get_or-map, length-drop, length-map}
use Rattle.std.proofs.lemmas.List.FromFn.{get_or-map-range_with_len, length-map-range_with_len}
use Rattle.std.proofs.lemmas.Simd.{map-map}
use Rattle.csv.specs.Records.{fields_of, Row as CsvRow}
use Rattle.rational_laws.specs.Rational.{ℚ}
use Rattle.data_frame.specs.Records.{Row, Text, are_text}
use Rattle.data_frame.specs.Faults.{first_fault, header_fault, names_of, row_fault, rows_fault, set_aside}
use Rattle.data_frame.specs.Columns.{cell_at, cells_at, columns_from}
use Rattle.data_frame.specs.Cells.{ColumnOf, column_of}
use Rattle.data_frame.specs.Tables.{table_of_records, table_under}
use Rattle.data_frame.specs.declared.fault.TableFault.{TableFault}
use Rattle.data_frame.specs.declared.fault.TableFault.TheVariants.{NoHeader, NotUtf8, TooManyColumns}
use Rattle.data_frame.specs.declared.column.ColumnCells.{ColumnCells}
use Rattle.data_frame.specs.Views.{exact_column, stored_column}
use Rattle.data_frame.proofs.Faults.{good_is_early, none_first, none_second}
use Rattle.data_frame.proofs.Naming.{too_wide_header}

pub no_records : (records : List Row) → records ≡ [] → table_of_records records ≡ Err NoHeader
unfolding table_of_records
no_records records e = rw e refl

pub header_not_text : (header : Row) → are_text header ≡ false → header_fault header ≡ Some (NotUtf8 0)
unfolding header_fault
header_not_text header e = rw e refl

pub bad_header : (records : List Row) (header : Row) (rest : List Row) (fault : TableFault) → records ≡ header ∷ rest
    → header_fault header ≡ Some fault → table_of_records records ≡ Err fault
unfolding table_of_records first_fault
bad_header records header rest fault e bad = rw (e, bad) refl

pub bad_row : (records : List Row) (header : Row) (rest : List Row) (fault : TableFault) → records ≡ header ∷ rest
    → header_fault header ≡ None → rows_fault (length header) 1 rest ≡ Some fault → table_of_records records ≡ Err fault
unfolding table_of_records first_fault
bad_row records header rest fault e good bad = rw (e, good, bad) refl

pub table_is : (records : List Row) (header : Row) (rest : List Row) (names : List Text) (count : ℕ) (columns : List (ColumnOf ℚ)) → records ≡ header ∷ rest
    → header_fault header ≡ None → rows_fault (length header) 1 rest ≡ None → names ≡ names_of header → count ≡ length rest
    → columns ≡ map column_of (columns_from rest (set_aside header) (length header - set_aside header))
    → table_of_records records ≡ Ok (record { names = names; records = count; columns = columns })
unfolding table_of_records first_fault table_under
table_is records header rest names count columns e good rows a b d =
    rw (e, good, rows, a, b, d, length-drop (set_aside header) header) refl

pub header_short : (header : Row) → header_fault header ≡ None → length header ≤ 1024
header_short header e = elim (cases_Bool (are_text header)) [
  | inl text ↦ elim (cases_Bool (nat_lt 1024 (length header))) [
    | inl wide ↦ let bad : Some TooManyColumns ≡ None = sym (too_wide_header header text (ltb-true 1024 (length header) wide)) ∙ e in absurd (cc bad)
    | inr fits ↦ ltb-false 1024 (length header) fits
  ]
  | inr other ↦ let bad : Some (NotUtf8 0) ≡ None = sym (header_not_text header other) ∙ e in absurd (cc bad)
]

few_from : (wanted rec : ℕ) (rows : List Row) → rec ≤ 16385 → rows_fault wanted rec rows ≡ None → rec + length rows ≤ 16385
unfolding rows_fault
few_from wanted rec [] le h = omega arith
few_from wanted rec (row ∷ rows) le h =
    let low = good_is_early wanted rec row (none_first (row_fault wanted rec row) (rows_fault wanted (rec + 1) rows) h) in
    let more = few_from wanted (rec + 1) rows (omega arith) (none_second (row_fault wanted rec row) (rows_fault wanted (rec + 1) rows) h) in
    omega arith

pub few_rows : (wanted : ℕ) (rows : List Row) → rows_fault wanted 1 rows ≡ None → length rows ≤ 16384
few_rows wanted rows h = omega (arith, few_from wanted 1 rows (omega arith) h)

-- each column has a cell for each record
column_length : (rows : List Row) (first count k : ℕ) → k < count → length (get_or (columns_from rows first count) k []) ≡ length rows
unfolding columns_from
column_length rows first count k lt =
    ap length (get_or-map-range_with_len (cells_at rows) first count k (first + k) [] lt refl) ∙ length-map rows (cell_at (first + k))

pub columns_count : (rows : List Row) (first count : ℕ) → length (columns_from rows first count) ≡ count
unfolding columns_from
columns_count rows first count = length-map-range_with_len (cells_at rows) first count

pub columns_short : (columns : List CsvRow) (rows : List Row) (first count : ℕ) → map fields_of columns ≡ columns_from rows first count → length rows ≤ 16384
    → All (λ cells. length (fields_of cells) < 2 ^ 32 - 1) columns
columns_short columns rows first count e few k d lt =
    let n : length columns ≡ count = sym (length-map columns fields_of) ∙ ap length e ∙ columns_count rows first count in
    let same : length (fields_of (get_or columns k d)) ≡ length rows =
    ap length (sym (get_or-map fields_of columns k d [] lt) ∙ ap (λ (cs : List (List Text)). get_or cs k []) e) ∙ column_length rows first count k (omega arith) in
    omega arith

-- there is a column for each name
pub named_columns : (stored : List ColumnCells) (columns : List CsvRow) (rows : List Row) (header : Row) (names : List Text) (wanted first : ℕ)
    → map (λ s. exact_column (stored_column s)) stored ≡ map column_of (map fields_of columns)
    → map fields_of columns ≡ columns_from rows first (wanted - first) → names ≡ names_of header → wanted ≡ length header → first ≡ set_aside header
    → length stored ≡ length names
named_columns stored columns rows header names wanted first shown cells named w f =
    let n : length stored ≡ length (map fields_of columns) =
    sym (length-map stored (λ s. exact_column (stored_column s))) ∙ ap length shown ∙ length-map (map fields_of columns) column_of in
    let m : length (map fields_of columns) ≡ wanted - first = ap length cells ∙ columns_count rows first (wanted - first) in
    n ∙ m ∙ rw (w, f) (sym (length-drop (set_aside header) header)) ∙ sym (ap length named)

-- what is stored is what the cells are
pub stored_columns : (stored : List ColumnCells) (columns : List CsvRow) (rows : List Row) (header : Row) (wanted first : ℕ)
    → map (λ s. exact_column (stored_column s)) stored ≡ map column_of (map fields_of columns)
    → map fields_of columns ≡ columns_from rows first (wanted - first) → wanted ≡ length header → first ≡ set_aside header
    → map exact_column (map stored_column stored) ≡ map column_of (columns_from rows (set_aside header) (length header - set_aside header))
stored_columns stored columns rows header wanted first shown cells w f =
    map-map exact_column stored_column stored ∙ shown ∙ ap (map column_of) (cells ∙ rw (w, f) refl)
