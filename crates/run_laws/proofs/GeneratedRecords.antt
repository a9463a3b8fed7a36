-- The bytes of a generated table are the text of records: the names, and then the cells.
use Rattle.std.proofs.Common.{◌≡◌, ℕ, zero, suc, ◌+◌, ◌*◌, ◌^◌, ◌<◌, ◌≤◌, false, List, [], ◌∷◌, ◌++◌, map, length, codes, decimal, if◌then◌else◌, arith, refl, sym, ap, ap₂, ◌∙◌}
use Rattle.std.specs.List.{flat_map, list_any, range_with_len}
use Rattle.std.specs.Str.Parse.{AllDigits}
use Rattle.std.proofs.lemmas.Bool.{ne_eqb}
use Rattle.std.proofs.lemmas.Fmt.{decimal_is_IsNumeral, decimal_nonempty}
use Rattle.std.proofs.lemmas.List.{length-append}
use Rattle.std.proofs.lemmas.Str.Parse.{digit_from_value}
use Rattle.csv.specs.Machine.{next_record}
use Rattle.csv.specs.Reading.{default_config, records, records_from, strip_bom}
use Rattle.csv.specs.Writing.{default_writer, fields_text, is_blank, needs_byte, read_back, row_body, row_text}
use Rattle.csv.specs.declared.parser.State.TheVariants as st
use Rattle.csv.proofs.RoundTrip.{read-write, rows_text}
use Rattle.table_maker.specs.Tables.{cell, header_line, record_of, table_of}

-- ---- fields without marks

-- no byte of the field calls for quotes
abbrev IsPlain : List ℕ → Type 0
IsPlain field = list_any (needs_byte default_writer) field ≡ false

digit_plain : (b : ℕ) → 48 ≤ b → b ≤ 57 → needs_byte default_writer b ≡ false
digit_plain b low high =
    rw (ne_eqb b 44 (λ e. omega (arith, e, low)), ne_eqb b 34 (λ e. omega (arith, e, low)), ne_eqb b 13 (λ e. omega (arith, e, low)), ne_eqb b 10 (λ e. omega (arith, e, low))) refl

digits_plain : (ds : List ℕ) → AllDigits 10 ds → IsPlain ds
digits_plain [] h = refl
digits_plain (d ∷ ds) h =
    let low : 48 ≤ d = omega (arith, digit_from_value d h.0) in
    let high : d ≤ 57 = omega (arith, digit_from_value d h.0) in
    rw (digit_plain d low high) (digits_plain ds h.1)

decimal_plain : (n : ℕ) → n < 2 ^ 64 → IsPlain (decimal n)
decimal_plain n h = digits_plain (decimal n) (decimal_is_IsNumeral n h).0.1

-- ---- records

-- the fields of the header
abbrev pub name_field : ℕ → List ℕ
name_field c = codes "x" ++ decimal c

abbrev pub header_fields : ℕ → List (List ℕ)
header_fields columns = codes "y" ∷ map name_field (range_with_len 1 columns)

-- the fields of record r, counted from 0
abbrev pub cell_field : ℕ → ℕ → List ℕ
cell_field number k = decimal (cell number k)

abbrev pub record_fields : ℕ → ℕ → ℕ → List (List ℕ)
record_fields number columns r =
    cell_field number (r * (columns + 1) + 1) ∷ map (cell_field number) (range_with_len (r * (columns + 1) + 1 + 1) columns)

-- fields behind commas
behind_commas : (f : ℕ → List ℕ) (a n : ℕ) → ((k : ℕ) → k < a + n → IsPlain (f k)) → fields_text default_writer (map f (range_with_len a n)) ≡ flat_map (λ k. 44 ∷ f k) (range_with_len a n)
unfolding fields_text
behind_commas f a zero plain = refl
behind_commas f a (suc n) plain = rw (plain a (omega arith), behind_commas f (a + 1) n (λ k l. plain k (omega (arith, l)))) refl

-- a line of plain fields, the first of which is not empty, is the text of their record
line_text : (x : List ℕ) (f : ℕ → List ℕ) (a n : ℕ) → IsPlain x → 0 < length x → ((k : ℕ) → k < a + n → IsPlain (f k))
    → row_text default_writer (x ∷ map f (range_with_len a n)) ≡ (x ++ flat_map (λ k. 44 ∷ f k) (range_with_len a n)) ++ codes "\n"
unfolding is_blank fields_text
line_text x f a zero first some plain = rw (first, ne_eqb (length x) 0 (λ e. omega (arith, e, some))) refl
line_text x f a (suc n) first some plain = rw (first, behind_commas f a (suc n) plain) refl

-- ---- the whole text

-- the records of a generated table
abbrev pub generated_records : ℕ → ℕ → ℕ → List (List (List ℕ))
generated_records number rows columns = header_fields columns ∷ map (record_fields number columns) (range_with_len 0 rows)

name_plain : (c : ℕ) → c < 2 ^ 64 → IsPlain (name_field c)
name_plain c h = decimal_plain c h

cell_plain : (number k : ℕ) → IsPlain (cell_field number k)
cell_plain number k = decimal_plain (cell number k) (omega arith)

header_text : (n : ℕ) → n ≤ 100 → row_text default_writer (header_fields n) ≡ header_line n
header_text n few = line_text (codes "y") name_field 1 n refl (omega arith) (λ c l. name_plain c (omega (arith, l, few)))

record_text : (number n r : ℕ) → row_text default_writer (record_fields number n r) ≡ record_of number n r
record_text number n r =
    let k = r * (n + 1) + 1 in
    line_text (cell_field number k) (cell_field number) (k + 1) n (cell_plain number k) (decimal_nonempty (cell number k) (omega arith)) (λ i l. cell_plain number i)

records_text : (number n a rows : ℕ) → rows_text (map (record_fields number n) (range_with_len a rows)) ≡ flat_map (record_of number n) (range_with_len a rows)
unfolding rows_text
records_text number n a zero = refl
records_text number n a (suc rows) = rw (record_text number n a, records_text number n (a + 1) rows) refl

table_text : (number rows n : ℕ) → n ≤ 100 → rows_text (generated_records number rows n) ≡ table_of number rows n
unfolding rows_text
table_text number rows n few = ap₂ (λ a b. a ++ b) (header_text n few) (records_text number n 0 rows)

-- ---- what is read of it

-- with as many turns as there are records and one more, all of them are read
all_read : (rows : List (List (List ℕ))) (turns : ℕ) → length rows < turns → records_from default_config turns st.StartRecord (rows_text rows) ≡ map read_back rows
unfolding records_from rows_text next_record
all_read rows zero l = absurd (omega (arith, l))
all_read [] (suc turns) l = refl
all_read (row ∷ rows) (suc turns) l = rw (read-write row (rows_text rows)) (ap (λ (t : List (List (List ℕ))). read_back row ∷ t) (all_read rows turns (omega (arith, l))))

one_byte : (row : List (List ℕ)) → 1 ≤ length (row_text default_writer row)
one_byte row = omega (arith, length-append (row_body_of row) (foot_of row), length-append (marks_of row) (10 ∷ []))
  where
    row_body_of : List (List ℕ) → List ℕ
    row_body_of row = row_body default_writer row

    marks_of : List (List ℕ) → List ℕ
    marks_of row = if is_blank default_writer row then 34 ∷ 34 ∷ [] else []

    foot_of : List (List ℕ) → List ℕ
    foot_of row = marks_of row ++ 10 ∷ []

long_enough : (rows : List (List (List ℕ))) → length rows ≤ length (rows_text rows)
unfolding rows_text
long_enough [] = omega arith
long_enough (row ∷ rows) = omega (arith, one_byte row, long_enough rows, length-append (row_text default_writer row) (rows_text rows))

unmarked : (rest : List ℕ) → strip_bom (121 ∷ rest) ≡ 121 ∷ rest
unfolding strip_bom
unmarked [] = refl
unmarked (b ∷ []) = refl
unmarked (b ∷ c ∷ rest) = refl

whole_records : (number columns a rows : ℕ) → map read_back (map (record_fields number columns) (range_with_len a rows)) ≡ map (record_fields number columns) (range_with_len a rows)
whole_records number columns a zero = refl
whole_records number columns a (suc rows) = ap (λ t. record_fields number columns a ∷ t) (whole_records number columns (a + 1) rows)

-- the records of the bytes of a generated table
pub read_records : (number rows n : ℕ) → n ≤ 100 → records default_config (strip_bom (table_of number rows n)) ≡ generated_records number rows n
read_records number rows n few =
    let all = generated_records number rows n in
    let text = table_text number rows n few in
    let stripped : strip_bom (table_of number rows n) ≡ table_of number rows n = unmarked _ in
    ap (records default_config) (stripped ∙ sym text)
    ∙ all_read all (length (rows_text all) + 1) (omega (arith, long_enough all))
    ∙ ap (λ t. header_fields n ∷ t) (whole_records number n 0 rows)
