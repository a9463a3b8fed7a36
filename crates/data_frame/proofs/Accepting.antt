-- Records have no fault exactly where they are a table.
use Rattle.std.proofs.Common.{◌≡◌, ◌≢◌, ◌∙◌, ◌≤◌, ◌+◌, ◌==◌, ◌||◌, ℕ, Bool, true, false, List, [], ◌∷◌, ◌++◌, Option, Some, None, Result, Ok, Err, IfOk, IfErr, OnOk, ◌⊎◌, length, refl, sym, ap, arith, inl, inr, if◌then◌else◌}
use Rattle.std.specs.List.{AllByRecursion, IsDistinct, list_any}
use Rattle.std.specs.Str.{bytes_eq}
use Rattle.std.proofs.lemmas.Bool.{cases_Bool, eq-eqb, eqb-false, eqb-true, false≢true, false_from_ne_true, ne_eqb}
use Rattle.std.proofs.lemmas.List.Elements.{All-from_recursion, recursion_from_All}
use Rattle.std.proofs.lemmas.List.Folds.{list_any-append}
use Rattle.std.proofs.lemmas.Map.Made.{AllPairs-from_IsDistinct, IsDistinct-from_AllPairs}
use Rattle.std.proofs.lemmas.Slice.Eq.{bytes_eq-Decides}
use mathlib.Core.Bool.{or-false}
use Rattle.data_frame.specs.Records.{Row, Text, are_text}
use Rattle.data_frame.specs.Faults.{first_fault, header_fault, name_fault, names_fault, names_of, row_fault, rows_fault, set_aside}
use Rattle.rational_laws.specs.Rational.{ℚ}
use Rattle.frac_core.specs.declared.frac128.Frac128.{Frac128}
use Rattle.data_frame.specs.Tables.{TableOf, table_of_records, table_under, unless}
use Rattle.data_frame.specs.Views.{exact_table}
use Rattle.data_frame.specs.WellFormed.{AreNames, AreTable, IsWellFormed}
use Rattle.data_frame.specs.declared.fault.TableFault.{TableFault}
use Rattle.data_frame.specs.declared.fault.TableFault.TheVariants.{DoubleName, EmptyName, NotUtf8, OutOfMemory, Ragged}
use Rattle.data_frame.proofs.Faults.{good_is_early, none_first, none_second, not_utf8, ragged, whole}
use Rattle.data_frame.proofs.Naming.{named}
use Rattle.data_frame.proofs.Tables.{few_rows, header_not_text, header_short}

-- ---- names

-- the name is not empty, and not one of those to its left
record IsNew (seen : List Text) (name : Text) : Type 0 where
  pub filled : (length name == 0) ≡ false
  pub unseen : list_any (bytes_eq name) seen ≡ false

new_name : (column : ℕ) (seen : List Text) (name : Text) → name_fault column seen name ≡ None → IsNew seen name
unfolding name_fault
new_name column seen name e = go (length name == 0) refl (list_any (bytes_eq name) seen) refl e
  where
    go : (a : Bool) → (length name == 0) ≡ a → (b : Bool) → list_any (bytes_eq name) seen ≡ b
        → (if a then Some (EmptyName column) else if b then Some (DoubleName column) else None) ≡ None → IsNew seen name
    go true p b q h = absurd (cc h)
    go false p true q h = absurd (cc h)
    go false p false q h = record { filled = p; unseen = q }

named_new : (column : ℕ) (seen : List Text) (name : Text) → IsNew seen name → name_fault column seen name ≡ None
unfolding name_fault
named_new column seen name h = rw (h.filled, h.unseen) refl

-- each of the names is new, seen from the left
AllNew : List Text → List Text → Type 0
AllNew seen [] = Unit {0}
AllNew seen (name ∷ names) = IsNew seen name × AllNew (seen ++ name ∷ []) names

all_new : (column : ℕ) (seen names : List Text) → names_fault column seen names ≡ None → AllNew seen names
unfolding names_fault AllNew
all_new column seen [] e = tt
all_new column seen (name ∷ names) e = (
  new_name column seen name (none_first (name_fault column seen name) (names_fault (column + 1) (seen ++ name ∷ []) names) e),
  all_new (column + 1) (seen ++ name ∷ []) names (none_second (name_fault column seen name) (names_fault (column + 1) (seen ++ name ∷ []) names) e),
)

none_from_new : (column : ℕ) (seen names : List Text) → AllNew seen names → names_fault column seen names ≡ None
unfolding names_fault AllNew
none_from_new column seen [] h = refl
none_from_new column seen (name ∷ names) h = rw (named_new column seen name h.0) (none_from_new (column + 1) (seen ++ name ∷ []) names h.1)

all_with : {X : Type 0} (P Q R : X → Type 0) → ((x : X) → P x → Q x → R x) → (xs : List X) → AllByRecursion P xs → AllByRecursion Q xs → AllByRecursion R xs
all_with P Q R f [] p q = tt
all_with P Q R f (x ∷ xs) p q = (f x p.0 q.0, all_with P Q R f xs p.1 q.1)

all_by : {X : Type 0} (P Q : X → Type 0) → ((x : X) → P x → Q x) → (xs : List X) → AllByRecursion P xs → AllByRecursion Q xs
all_by P Q f [] p = tt
all_by P Q f (x ∷ xs) p = (f x p.0, all_by P Q f xs p.1)

flipped : (a b : Text) → bytes_eq a b ≡ false → bytes_eq b a ≡ false
flipped a b e = false_from_ne_true (bytes_eq b a)
    (λ h. false≢true (sym e ∙ (bytes_eq-Decides a b).1 (sym ((bytes_eq-Decides b a).0 h))))

or_first : (a b : Bool) → (a || b) ≡ false → a ≡ false
or_first true b e = absurd (cc e)
or_first false b e = refl

or_second : (a b : Bool) → (a || b) ≡ false → b ≡ false
or_second true b e = absurd (cc e)
or_second false b e = e

-- whether a name stands among those to its left and one more
seen_more : (name other : Text) (seen : List Text) → list_any (bytes_eq name) (seen ++ other ∷ []) ≡ (list_any (bytes_eq name) seen || bytes_eq name other)
seen_more name other seen = list_any-append (bytes_eq name) seen (other ∷ []) ∙ ap (λ (b : Bool). list_any (bytes_eq name) seen || b) (or-false (bytes_eq name other))

Filled : Text → Type 0
Filled name = (length name == 0) ≡ false

Unseen : List Text → Text → Type 0
Unseen seen name = list_any (bytes_eq name) seen ≡ false

from_new : (seen names : List Text) → AllNew seen names → AllByRecursion Filled names × AllByRecursion (Unseen seen) names × IsDistinct bytes_eq names
unfolding AllNew Filled Unseen IsDistinct
from_new seen [] h = (tt, tt, tt)
from_new seen (name ∷ names) h =
    let more = from_new (seen ++ name ∷ []) names h.1 in (
      (h.0.filled, more.0),
      (h.0.unseen, all_by (Unseen (seen ++ name ∷ [])) (Unseen seen) (λ x u. or_first _ (bytes_eq x name) (sym (seen_more x name seen) ∙ u)) names more.1),
      (
        all_by (Unseen (seen ++ name ∷ [])) (λ y. bytes_eq name y ≡ false)
            (λ x u. flipped x name (or_second (list_any (bytes_eq x) seen) _ (sym (seen_more x name seen) ∙ u))) names more.1,
        more.2,
      ),
    )

to_new : (seen names : List Text) → AllByRecursion Filled names → AllByRecursion (Unseen seen) names → IsDistinct bytes_eq names → AllNew seen names
unfolding AllNew Filled Unseen IsDistinct
to_new seen [] f u d = tt
to_new seen (name ∷ names) f u d = (
  record { filled = f.0; unseen = u.0 },
  to_new (seen ++ name ∷ []) names f.1
      (all_with (Unseen seen) (λ y. bytes_eq name y ≡ false) (Unseen (seen ++ name ∷ []))
      (λ x p q. seen_more x name seen ∙ rw (p, flipped name x q) refl) names u.1 d.0) d.1,
)

none_seen : (names : List Text) → AllByRecursion (Unseen []) names
unfolding Unseen
none_seen [] = tt
none_seen (name ∷ names) = (refl, none_seen names)

filled_is : (name : Text) → Filled name → name ≢ []
unfolding Filled
filled_is name f e = false≢true (sym f ∙ eq-eqb (length name) 0 (ap length e))

is_filled : (name : Text) → name ≢ [] → Filled name
unfolding Filled
is_filled [] ne = absurd (ne refl)
is_filled (b ∷ bs) ne = ne_eqb (length (b ∷ bs)) 0 (λ e. omega arith)

names_good : (column : ℕ) (names : List Text) → names_fault column [] names ≡ None → AreNames names
names_good column names e =
    let h = from_new [] names (all_new column [] names e) in
    record {
      filled = All-from_recursion (λ name. name ≢ []) names (all_by Filled (λ name. name ≢ []) filled_is names h.0);
      distinct = AllPairs-from_IsDistinct bytes_eq-Decides names h.2;
    }

good_names : (column : ℕ) (names : List Text) → AreNames names → names_fault column [] names ≡ None
good_names column names h =
    none_from_new column [] names (to_new [] names (all_by (λ name. name ≢ []) Filled is_filled names (recursion_from_All (λ name. name ≢ []) names h.filled)) (none_seen names)
    (IsDistinct-from_AllPairs bytes_eq-Decides names h.distinct))

-- ---- records

row_good : (wanted rec : ℕ) (row : Row) → row_fault wanted rec row ≡ None → (are_text row ≡ true) × (length row ≡ wanted)
row_good wanted rec row e =
    let early = good_is_early wanted rec row e in
    elim (cases_Bool (are_text row)) [
      | inl text ↦ elim (cases_Bool (length row == wanted)) [
        | inl same ↦ (text, eqb-true (length row) wanted same)
        | inr other ↦ let bad : Some (Ragged rec (length row) wanted) ≡ None = sym (ragged wanted rec row early text (eqb-false (length row) wanted other)) ∙ e in absurd (cc bad)
      ]
      | inr other ↦ let bad : Some (NotUtf8 rec) ≡ None = sym (not_utf8 wanted rec row early other) ∙ e in absurd (cc bad)
    ]

rows_good : (wanted rec : ℕ) (rows : List Row) → rows_fault wanted rec rows ≡ None
    → AllByRecursion (λ row. are_text row ≡ true) rows × AllByRecursion (λ row. length row ≡ wanted) rows
unfolding rows_fault
rows_good wanted rec [] e = (tt, tt)
rows_good wanted rec (row ∷ rows) e =
    let first = row_good wanted rec row (none_first (row_fault wanted rec row) (rows_fault wanted (rec + 1) rows) e) in
    let more = rows_good wanted (rec + 1) rows (none_second (row_fault wanted rec row) (rows_fault wanted (rec + 1) rows) e) in
    ((first.0, more.0), (first.1, more.1))

good_rows : (wanted rec : ℕ) (rows : List Row) → rec + length rows ≤ 16385 → AllByRecursion (λ row. are_text row ≡ true) rows
    → AllByRecursion (λ row. length row ≡ wanted) rows → rows_fault wanted rec rows ≡ None
unfolding rows_fault
good_rows wanted rec [] le text even = refl
good_rows wanted rec (row ∷ rows) le text even =
    rw (whole wanted rec row (omega arith) text.0 even.0) (good_rows wanted (rec + 1) rows (omega arith) text.1 even.1)

header_is_text : (header : Row) → header_fault header ≡ None → are_text header ≡ true
header_is_text header e = elim (cases_Bool (are_text header)) [
  | inl text ↦ text
  | inr other ↦ let bad : Some (NotUtf8 0) ≡ None = sym (header_not_text header other) ∙ e in absurd (cc bad)
]

well_formed : (header : Row) (rows : List Row) → header_fault header ≡ None → rows_fault (length header) 1 rows ≡ None → IsWellFormed header rows
well_formed header rows h r =
    let text = header_is_text header h in
    let narrow = header_short header h in
    let all = rows_good (length header) 1 rows r in
    record {
      text = All-from_recursion (λ row. are_text row ≡ true) (header ∷ rows) (text, all.0);
      narrow = narrow;
      names = names_good (set_aside header) (names_of header) (sym (named header text narrow) ∙ h);
      short = few_rows (length header) rows r;
      even = All-from_recursion (λ row. length row ≡ length header) rows all.1;
    }

none_is_table : (records : List Row) → first_fault records ≡ None → AreTable records
unfolding first_fault
none_is_table [] e = absurd (cc e)
none_is_table (header ∷ rows) e =
    well_formed header rows (none_first (header_fault header) (rows_fault (length header) 1 rows) e) (none_second (header_fault header) (rows_fault (length header) 1 rows) e)

table_has_none : (records : List Row) → AreTable records → first_fault records ≡ None
unfolding first_fault
table_has_none [] h = absurd h
table_has_none (header ∷ rows) h =
    let text = recursion_from_All (λ row. are_text row ≡ true) (header ∷ rows) h.text in
    let first : header_fault header ≡ None = named header text.0 h.narrow ∙ good_names (set_aside header) (names_of header) h.names in
    rw first (good_rows (length header) 1 rows (omega (arith, h.short)) text.1 (recursion_from_All (λ row. length row ≡ length header) rows h.even))

-- ---- answers

unless_ok : (fault : Option TableFault) (table other : TableOf ℚ) → unless fault table ≡ Ok other → fault ≡ None
unless_ok None table other e = refl
unless_ok (Some fault) table other e = absurd (cc e)

unless_err : (fault : Option TableFault) (table : TableOf ℚ) (e : TableFault) → unless fault table ≡ Err e → fault ≡ None → ⊥
unless_err None table e h none = cc h
unless_err (Some fault) table e h none = cc none

ok_has_none : (records : List Row) (table : TableOf ℚ) → table_of_records records ≡ Ok table → first_fault records ≡ None
unfolding table_of_records
ok_has_none [] table e = absurd (cc e)
ok_has_none (header ∷ rows) table e = unless_ok (first_fault (header ∷ rows)) (table_under header rows) table e

err_has_one : (records : List Row) (fault : TableFault) → table_of_records records ≡ Err fault → first_fault records ≡ None → ⊥
unfolding table_of_records first_fault
err_has_one [] fault e none = cc none
err_has_one (header ∷ rows) fault e none = unless_err (first_fault (header ∷ rows)) (table_under header rows) fault e none

pub accepts_tables : (result : Result (TableOf Frac128) TableFault) (records : List Row)
    → IfOk result (λ frame. table_of_records records ≡ Ok (exact_table frame)) → OnOk result (AreTable records)
accepts_tables (Ok frame) records h = none_is_table records (ok_has_none records (exact_table frame) h)
accepts_tables (Err fault) records h = tt

pub tables_accepted : (result : Result (TableOf Frac128) TableFault) (records : List Row)
    → IfErr result (λ e. (e ≡ OutOfMemory) ⊎ (table_of_records records ≡ Err e)) → AreTable records → IfErr result (λ e. e ≡ OutOfMemory)
tables_accepted (Ok frame) records h table = tt
tables_accepted (Err fault) records (inl memory) table = memory
tables_accepted (Err fault) records (inr e) table = absurd (err_has_one records fault e (table_has_none records table))
