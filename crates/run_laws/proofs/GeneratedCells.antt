-- The bytes of a generated table are a table without a fault, all of whose columns are numbers in every record.
use Rattle.std.proofs.Common.{◌≡◌, ℕ, zero, suc, ◌+◌, ◌*◌, ◌-◌, ◌^◌, ◌<◌, ◌≤◌, Bool, true, false, pos, unsigned_abs, nat_lt, is_some, List, []}
use Rattle.std.proofs.Common.{◌∷◌, ◌++◌, Option, Some, None, Ok, map, length, take, get_or, codes, decimal, arith, lit<, refl, sym, ap, subst, ◌∙◌}
use Rattle.std.specs.List.{AllByRecursion, list_all, list_any, range_with_len}
use Rattle.std.specs.Str.{bytes_eq, is_utf8}
use Rattle.std.specs.Str.Parse.{AllDigits}
use Rattle.std.proofs.lemmas.Bool.{false_from_ne_true, ltb-true, ne_eqb}
use Rattle.std.proofs.lemmas.Fmt.{IsAscii-decimal, decimal_injective, decimal_is_IsNumeral}
use Rattle.std.proofs.lemmas.List.{length-map, take_all}
use Rattle.std.proofs.lemmas.List.FromFn.{get_or-map-range_with_len, length-map-range_with_len, map-range_with_len_more}
use Rattle.std.proofs.lemmas.Slice.Eq.{bytes_eq-Decides}
use Rattle.std.proofs.lemmas.Str.{IsUtf8-from_ascii, is_utf8-from_IsUtf8}
use Rattle.std.proofs.lemmas.Str.Ascii.{IsAscii-cons, IsAscii-nil}
use Rattle.std.proofs.lemmas.Str.Parse.{digit_from_value}
use Rattle.rational_laws.specs.Fraction.{Fraction, rational}
use Rattle.rational_laws.specs.Rational.{ℚ}
use Rattle.frac_core.specs.GcdLaws.{gcd_one}
use Rattle.frac_core.specs.Limits.{most_rows}
use Rattle.frac_core.specs.NumberText.{number_of, number_text_of}
use Rattle.frac_core.specs.Overflow.{IsWithin}
use Rattle.frac_core.proofs.NumberLaws.{reads_back}
use Rattle.data_frame.specs.Cells.{ColumnOf, numbers, factor, too_wide, bare, column_of, is_blank, is_missing, number_in, number_or_none, some_number, without_leading_blanks, without_trailing_blanks}
use Rattle.data_frame.specs.Columns.{cell_at, cells_at, columns_from}
use Rattle.data_frame.specs.Faults.{first_fault, header_fault, name_fault, names_fault, rows_fault}
use Rattle.data_frame.specs.Records.{Text, are_text, records_of}
use Rattle.data_frame.specs.Tables.{TableOf, table_of_records, table_under}
use Rattle.data_frame.specs.Tables.{table_of as table_of_bytes}
use Rattle.data_frame.proofs.Blanks.{no_leading_blank, no_trailing_blank}
use Rattle.data_frame.proofs.Faults.{whole}
use Rattle.data_frame.proofs.Numeric.{holds_number, number_column}
use Rattle.table_maker.specs.Tables.{cell, table_of}
use Rattle.run_laws.proofs.GeneratedRecords.{cell_field, generated_records, header_fields, name_field, read_records, record_fields}

-- ---- texts

decimal_text : (n : ℕ) → n < 2 ^ 64 → is_utf8 (decimal n) ≡ true
decimal_text n h = is_utf8-from_IsUtf8 (decimal n) (IsUtf8-from_ascii (decimal n) (IsAscii-decimal n h))

name_text : (c : ℕ) → c < 2 ^ 64 → is_utf8 (name_field c) ≡ true
name_text c h = is_utf8-from_IsUtf8 (name_field c) (IsUtf8-from_ascii (name_field c) (IsAscii-cons 120 (decimal c) (omega arith) (IsAscii-decimal c h)))

y_text : is_utf8 (codes "y") ≡ true
y_text = is_utf8-from_IsUtf8 (codes "y") (IsUtf8-from_ascii (codes "y") (IsAscii-cons 121 [] (omega arith) IsAscii-nil))

all_of_range : (p : List ℕ → Bool) (f : ℕ → List ℕ) (a n : ℕ) → ((k : ℕ) → k < a + n → p (f k) ≡ true) → list_all p (map f (range_with_len a n)) ≡ true
all_of_range p f a zero h = refl
all_of_range p f a (suc n) h = rw (h a (omega arith)) (all_of_range p f (a + 1) n (λ k l. h k (omega (arith, l))))

header_is_text : (n : ℕ) → n ≤ 100 → are_text (header_fields n) ≡ true
unfolding are_text
header_is_text n few = rw y_text (all_of_range is_utf8 name_field 1 n (λ k l. name_text k (omega (arith, l, few))))

record_is_text : (number n r : ℕ) → are_text (record_fields number n r) ≡ true
unfolding are_text
record_is_text number n r =
    let k = r * (n + 1) + 1 in
    rw (decimal_text (cell number k) (omega arith)) (all_of_range is_utf8 (cell_field number) (k + 1) n (λ i l. decimal_text (cell number i) (omega arith)))

pub header_length : (n : ℕ) → length (header_fields n) ≡ suc n
header_length n = ap suc (length-map-range_with_len name_field 1 n)

record_length : (number n r : ℕ) → length (record_fields number n r) ≡ suc n
record_length number n r = ap suc (length-map-range_with_len (cell_field number) (r * (n + 1) + 1 + 1) n)

-- ---- the header has no fault

other_name : (c d : ℕ) → c < d → d < 2 ^ 64 → bytes_eq (name_field d) (name_field c) ≡ false
other_name c d l small =
    false_from_ne_true (bytes_eq (name_field d) (name_field c))
    (λ h. let same : name_field d ≡ name_field c = (bytes_eq-Decides (name_field d) (name_field c)).0 h in
    let e : d ≡ c = decimal_injective d c small (omega (arith, l, small)) (cc same) in absurd (omega (arith, e, l)))

unseen : (c a m : ℕ) → a + m ≤ c → c < 2 ^ 64 → list_any (bytes_eq (name_field c)) (map name_field (range_with_len a m)) ≡ false
unseen c a zero l small = refl
unseen c a (suc m) l small = rw (other_name a c (omega (arith, l)) small) (unseen c (a + 1) m (omega (arith, l)) small)

not_y : (c : ℕ) → bytes_eq (name_field c) (codes "y") ≡ false
not_y c = false_from_ne_true (bytes_eq (name_field c) (codes "y"))
    (λ h. let same : name_field c ≡ codes "y" = (bytes_eq-Decides (name_field c) (codes "y")).0 h in
    let e : 120 ≡ 121 = ap (λ l. get_or l 0 0) same in absurd (omega (arith, e)))

new_name : (column c k : ℕ) → k < c → c < 2 ^ 64 → name_fault column (codes "y" ∷ map name_field (range_with_len 1 k)) (name_field c) ≡ None
unfolding name_fault
new_name column c k l small =
    rw (ne_eqb (length (name_field c)) 0 (λ e. absurd (omega (arith, e))), not_y c, unseen c 1 k (omega (arith, l)) small) refl

later_names : (column k n : ℕ) → k + n ≤ 100 → names_fault column (codes "y" ∷ map name_field (range_with_len 1 k)) (map name_field (range_with_len (k + 1) n)) ≡ None
unfolding names_fault
later_names column k zero few = refl
later_names column k (suc n) few =
    let more = later_names (column + 1) (k + 1) n (omega (arith, few)) in
    let seen : map name_field (range_with_len 1 (k + 1)) ≡ map name_field (range_with_len 1 k) ++ name_field (k + 1) ∷ [] = map-range_with_len_more name_field 1 k (k + 1) (omega arith) in
    rw (new_name column (k + 1) k (omega arith) (omega (arith, few)))
    (subst (λ (l : List Text). names_fault (column + 1) (codes "y" ∷ l) (map name_field (range_with_len (k + 1 + 1) n)) ≡ None) seen more)

first_name : name_fault 0 [] (codes "y") ≡ None
unfolding name_fault
first_name = refl

header_sound : (n : ℕ) → n ≤ 100 → header_fault (header_fields n) ≡ None
unfolding header_fault names_fault
header_sound n few =
    let narrow : nat_lt 1024 (length (header_fields n)) ≡ false = false_from_ne_true _ (λ e. absurd (omega (arith, few, header_length n, ltb-true 1024 (length (header_fields n)) e))) in
    rw (header_is_text n few, narrow, first_name) (later_names 1 0 n (omega (arith, few)))

-- ---- the records have none

rows_sound : (number n a rows : ℕ) → a + rows ≤ 16384 → rows_fault (length (header_fields n)) (a + 1) (map (record_fields number n) (range_with_len a rows)) ≡ None
unfolding rows_fault
rows_sound number n a zero few = refl
rows_sound number n a (suc rows) few =
    rw (whole (length (header_fields n)) (a + 1) (record_fields number n a) (omega (arith, few)) (record_is_text number n a) (record_length number n a ∙ sym (header_length n)))
    (rows_sound number n (a + 1) rows (omega (arith, few)))

sound : (number rows n : ℕ) → rows ≤ most_rows → n ≤ 100 → first_fault (generated_records number rows n) ≡ None
unfolding first_fault
sound number rows n few narrow = rw (header_sound n narrow) (rows_sound number n 0 rows (omega (arith, few)))

-- the table of the bytes
abbrev pub generated_table : ℕ → ℕ → ℕ → TableOf ℚ
generated_table number rows n = table_under (header_fields n) (map (record_fields number n) (range_with_len 0 rows))

pub is_table : (number rows n : ℕ) → rows ≤ most_rows → n ≤ 100 → table_of_bytes (table_of number rows n) ≡ Ok (generated_table number rows n)
unfolding records_of table_of_records
is_table number rows n few narrow = rw (read_records number rows n narrow, sound number rows n few narrow) refl

-- ---- cells

-- a whole number below 1,000 as a fraction
abbrev small_fraction : ℕ → Fraction
small_fraction m = record { num = pos m; den = 1 }

small_within : (m : ℕ) → m < 1000 → IsWithin (2 ^ 127 - 1) (small_fraction m)
small_within m l = record { positive = omega arith; num_fits = omega (arith, l); den_fits = omega arith; lowest = gcd_one (unsigned_abs (pos m)) }

digit_bare : (b : ℕ) → 48 ≤ b → is_blank b ≡ false
digit_bare b low = rw (ne_eqb b 32 (λ e. omega (arith, e, low)), ne_eqb b 9 (λ e. omega (arith, e, low))) refl

-- the byte at a place of digits
digit_at : (ds : List ℕ) (i : ℕ) → AllDigits 10 ds → i < length ds → 48 ≤ get_or ds i 0
digit_at [] i h l = absurd (omega (arith, l))
digit_at (d ∷ ds) zero h l = omega (arith, digit_from_value d h.0)
digit_at (d ∷ ds) (suc i) h l = digit_at ds i h.1 (omega (arith, l))

-- digits have no blanks at their ends
digits_bare : (ds : List ℕ) → AllDigits 10 ds → 0 < length ds → bare ds ≡ ds
unfolding bare
digits_bare ds h some =
    let front : without_leading_blanks ds ≡ ds = no_leading_blank ds 0 some (digit_bare (get_or ds 0 0) (digit_at ds 0 h some)) in
    let back : without_trailing_blanks (take (length ds) ds) ≡ take (length ds) ds =
    no_trailing_blank ds (length ds) some (omega (arith, some)) (digit_bare (get_or ds (length ds - 1) 0) (digit_at ds (length ds - 1) h (omega (arith, some)))) in
    rw front (subst (λ (l : List ℕ). without_trailing_blanks l ≡ l) (take_all (length ds) ds (omega arith)) back)

-- nor are they the name of what is missing
no_name : (ds : List ℕ) → AllDigits 10 ds → bytes_eq ds (codes "NA") ≡ false
no_name ds h = false_from_ne_true (bytes_eq ds (codes "NA")) (λ e. wrong ds h ((bytes_eq-Decides ds (codes "NA")).0 e))
  where
    wrong : (ds : List ℕ) → AllDigits 10 ds → ds ≡ codes "NA" → ⊥
    wrong [] h e = absurd (cc e)
    wrong (d ∷ ds) h e = let is : d ≡ 78 = ap (λ l. get_or l 0 0) e in omega (arith, is, digit_from_value d h.0)

not_missing : (ds : List ℕ) → AllDigits 10 ds → 0 < length ds → is_missing ds ≡ false
unfolding is_missing
not_missing ds h some = rw (digits_bare ds h some, ne_eqb (length ds) 0 (λ e. omega (arith, e, some)), no_name ds h) refl

spelled : (m : ℕ) → number_text_of (small_fraction m) ≡ decimal m
unfolding number_text_of
spelled m = refl

-- the number in the text of a whole number below 1,000
small_number : (m : ℕ) → m < 1000 → number_in (decimal m) ≡ Ok (Some (rational (small_fraction m)))
unfolding number_in
small_number m l =
    let numeral = (decimal_is_IsNumeral m (omega (arith, l))).0 in
    let read : number_of (2 ^ 127 - 1) (number_text_of (small_fraction m)) ≡ Ok (rational (small_fraction m)) = reads_back (2 ^ 127 - 1) (small_fraction m) (lit< tt) (small_within m l) in
    let text : number_text_of (small_fraction m) ≡ decimal m = spelled m in
    rw (not_missing (decimal m) numeral.1 numeral.0, digits_bare (decimal m) numeral.1 numeral.0) (ap some_number (subst (λ (t : List ℕ). number_of (2 ^ 127 - 1) t ≡ Ok (rational (small_fraction m))) text read))

-- ---- columns

-- a column is numbers, and those of the first records are there
abbrev pub IsFull : {N : Type 0} → ℕ → ColumnOf N → Type 0
IsFull rows (numbers cells) = (i : ℕ) → i < rows → is_some (get_or cells i None) ≡ true
IsFull rows (factor cells) = ⊥
IsFull rows (too_wide rec) = ⊥

-- the field at a place of a record is the text of a number below 1,000
place_number : (number n r place : ℕ) → place < suc n → (m : ℕ) × (m < 1000) × (cell_at place (record_fields number n r) ≡ decimal m)
place_number number n r zero l = (cell number (r * (n + 1) + 1), omega arith, refl)
place_number number n r (suc place) l =
    let k = r * (n + 1) + 1 + 1 in
    (cell number (k + place), omega arith, get_or-map-range_with_len (cell_field number) k n place (k + place) [] (omega (arith, l)) refl)

place_held : (number n r place : ℕ) → place < suc n → (x : ℚ) × (number_in (cell_at place (record_fields number n r)) ≡ Ok (Some x))
place_held number n r place l =
    let m = place_number number n r place l in
    (rational (small_fraction m.0), subst (λ (t : List ℕ). number_in t ≡ Ok (Some (rational (small_fraction m.0)))) (sym m.2) (small_number m.0 m.1))

module _ (number n place : ℕ) (l : place < suc n) where
  held : (a rows : ℕ) → list_all holds_number (cells_at (map (record_fields number n) (range_with_len a rows)) place) ≡ true
  held a zero = refl
  held a (suc rows) = let x = place_held number n a place l in rw x.1 (held (a + 1) rows)

  abbrev values : ℕ → ℕ → List (Option ℚ)
  values a rows = map (λ cell. number_or_none (number_in cell)) (cells_at (map (record_fields number n) (range_with_len a rows)) place)

  there : (a rows i : ℕ) → i < rows → is_some (get_or (values a rows) i None) ≡ true
  there a zero i k = absurd (omega (arith, k))
  there a (suc rows) zero k = let x = place_held number n a place l in rw x.1 refl
  there a (suc rows) (suc i) k = there (a + 1) rows i (omega (arith, k))

  full : (rows : ℕ) → IsFull rows (column_of (cells_at (map (record_fields number n) (range_with_len 0 rows)) place))
  full rows = subst (IsFull rows) (number_column (cells_at (map (record_fields number n) (range_with_len 0 rows)) place) (values 0 rows) (held 0 rows) refl) (there 0 rows)

full_from : (number n rows first count : ℕ) → first + count ≤ suc n → AllByRecursion (IsFull rows) (map column_of (columns_from (map (record_fields number n) (range_with_len 0 rows)) first count))
unfolding columns_from
full_from number n rows first zero l = tt
full_from number n rows first (suc count) l = (full number n first (omega (arith, l)) rows, full_from number n rows (first + 1) count (omega (arith, l)))

-- all columns of a generated table are full
pub all_full : (number rows n : ℕ) → AllByRecursion (IsFull rows) (generated_table number rows n).columns
unfolding table_under
all_full number rows n = full_from number n rows 0 (length (header_fields n)) (omega (arith, header_length n))

pub table_names : (number rows n : ℕ) → (generated_table number rows n).names ≡ header_fields n
unfolding table_under
table_names number rows n = refl

pub table_records : (number rows n : ℕ) → (generated_table number rows n).records ≡ rows
unfolding table_under
table_records number rows n = length-map-range_with_len (record_fields number n) 0 rows

pub columns_number : (number rows n : ℕ) → length (generated_table number rows n).columns ≡ length (header_fields n)
unfolding table_under columns_from
columns_number number rows n =
    let at = cells_at (map (record_fields number n) (range_with_len 0 rows)) in
    length-map (map at (range_with_len 0 (length (header_fields n)))) column_of ∙ length-map-range_with_len at 0 (length (header_fields n))
