-- On the names of columns.
use Rattle.std.proofs.Common.{◌≡◌, ◌∙◌, ◌<◌, ◌≤◌, ◌+◌, ◌==◌, ◌||◌, ℕ, Bool, true, false, List, [], ◌∷◌, ◌++◌, Option, Some, None, length, drop, get_or, refl, ap, arith, map, string_bytes, Global, not, nat_lt, sym, add-one}
use Rattle.std.specs.List.{list_any, prefix_len}
use Rattle.std.specs.Str.{bytes_eq}
use Rattle.std.specs.String.{string_eq}
use Rattle.std.specs.Prelude.{Contains, IfNone, OnSome, String, is_some, position}
use Rattle.std.proofs.Math.Seq.{drop-cons}
use Rattle.std.proofs.lemmas.Bool.{lt-ltb, ltb-true, false_from_ne_true, false≢true, not-false, not-true}
use Rattle.std.proofs.lemmas.List.Folds.{list_any_at}
use Rattle.std.proofs.lemmas.List.Quantifiers.{position-Some}
use Rattle.std.proofs.lemmas.Slice.Eq.{bytes_eq-Decides}
use Rattle.std.proofs.lemmas.List.{length-map, map-append}
use Rattle.indexmap.specs.IndexSet.{insert_key}
use Rattle.data_frame.specs.Records.{Row, Text, are_text}
use Rattle.data_frame.specs.Columns.{cell_at}
use Rattle.data_frame.specs.Faults.{header_fault, name_fault, names_fault, names_of, set_aside}
use Rattle.data_frame.specs.declared.fault.TableFault.{TableFault}
use Rattle.data_frame.specs.declared.fault.TableFault.TheVariants.{DoubleName, EmptyName, TooManyColumns}

-- a set has a key with these bytes
any_text : (v : String Global) (ks : List (String Global)) → list_any (string_eq v) ks ≡ list_any (bytes_eq (string_bytes v)) (map string_bytes ks)
any_text v [] = refl
any_text v (k ∷ ks) = ap (λ (b : Bool). string_eq v k || b) (any_text v ks)

seen_is : (v : String Global) (ks : List (String Global)) (name : Text) (seen : List Text) → string_bytes v ≡ name → map string_bytes ks ≡ seen
    → list_any (string_eq v) ks ≡ list_any (bytes_eq name) seen
seen_is v ks name seen e keys = any_text v ks ∙ rw (e, keys) refl

pub empty_name : (column : ℕ) (seen : List Text) (name : Text) → (length name == 0) ≡ true → name_fault column seen name ≡ Some (EmptyName column)
unfolding name_fault
empty_name column seen name e = rw e refl

pub double_name : (column : ℕ) (seen : List Text) (name : Text) (v : String Global) (ks : List (String Global)) (new : Bool)
    → (length name == 0) ≡ false → string_bytes v ≡ name → map string_bytes ks ≡ seen
    → new ≡ not (list_any (string_eq v) ks) → new ≡ false → name_fault column seen name ≡ Some (DoubleName column)
unfolding name_fault
double_name column seen name v ks new some e keys added old =
    let there = sym (seen_is v ks name seen e keys) ∙ not-false (list_any (string_eq v) ks) (sym added ∙ old) in
    rw (some, there) refl

pub good_name : (column : ℕ) (seen : List Text) (name : Text) (v : String Global) (ks : List (String Global)) (new : Bool)
    → (length name == 0) ≡ false → string_bytes v ≡ name → map string_bytes ks ≡ seen
    → new ≡ not (list_any (string_eq v) ks) → new ≡ true → name_fault column seen name ≡ None
unfolding name_fault
good_name column seen name v ks new some e keys added fresh =
    let absent = sym (seen_is v ks name seen e keys) ∙ not-true (list_any (string_eq v) ks) (sym added ∙ fresh) in
    rw (some, absent) refl

pub key_added : (seen : List Text) (name : Text) (v : String Global) (ks : List (String Global)) (new : Bool)
    → string_bytes v ≡ name → map string_bytes ks ≡ seen → new ≡ not (list_any (string_eq v) ks) → new ≡ true
    → map string_bytes (insert_key string_eq ks v) ≡ seen ++ name ∷ []
key_added seen name v ks new e keys added fresh =
    rw (not-true (list_any (string_eq v) ks) (sym added ∙ fresh), ← e, ← keys) (map-append string_bytes ks (v ∷ []))

few_columns : (n : ℕ) → n ≤ 1024 → nat_lt 1024 n ≡ false
few_columns n h = false_from_ne_true (nat_lt 1024 n) (λ e. let more = ltb-true 1024 n e in absurd (omega arith))

pub named : (h : Row) → are_text h ≡ true → length h ≤ 1024 → header_fault h ≡ names_fault (set_aside h) [] (names_of h)
unfolding header_fault
named h text few = rw (text, few_columns (length h) few) refl

pub too_wide_header : (h : Row) → are_text h ≡ true → 1024 < length h → header_fault h ≡ Some TooManyColumns
unfolding header_fault
too_wide_header h text many = rw (text, lt-ltb 1024 (length h) many) refl

-- the field at a place stands first in what is left
pub next_field : (h : Row) (i : ℕ) → i < length h → drop i h ≡ cell_at i h ∷ drop (i + 1) h
next_field h i lt = rw add-one (drop-cons h i [] lt)

pub first_name_bad : (column : ℕ) (seen left : List Text) (name : Text) (rest : List Text) (fault : TableFault) → left ≡ name ∷ rest
    → name_fault column seen name ≡ Some fault → names_fault column seen left ≡ Some fault
unfolding names_fault
first_name_bad column seen left name rest fault e bad = rw (e, bad) refl

pub first_name_good : (column : ℕ) (seen left : List Text) (name : Text) (rest : List Text) → left ≡ name ∷ rest
    → name_fault column seen name ≡ None → names_fault column seen left ≡ names_fault (column + 1) (seen ++ name ∷ []) rest
unfolding names_fault
first_name_good column seen left name rest e good = rw (e, good) refl

pub no_names : (column : ℕ) (seen left : List Text) → left ≡ [] → names_fault column seen left ≡ None
unfolding names_fault
no_names column seen left e = rw e refl

-- the place of a name among keys is its place among their texts
prefix_map : {A B : Type 0} (q : B → Bool) (f : A → B) → (xs : List A) → prefix_len q (map f xs) ≡ prefix_len (λ x. q (f x)) xs
prefix_map q f [] = refl
prefix_map q f (x ∷ xs) = rw (prefix_map q f xs) refl

pub place_is : (name : Text) (ks : List (String Global)) (texts : List Text) → map string_bytes ks ≡ texts
    → position (λ k. bytes_eq name (string_bytes k)) ks ≡ position (bytes_eq name) texts
place_is name ks texts e = rw (← e, prefix_map (λ y. not (bytes_eq name y)) string_bytes ks, length-map) refl

-- a name has a place among the names exactly where it is one of them
place_known : (name : Text) (names : List Text) (i : ℕ) → position (bytes_eq name) names ≡ Some i → Contains names name
place_known name names i e =
    let found = position-Some (bytes_eq name) names i name e in
    (i, found.0, sym ((bytes_eq-Decides name (get_or names i name)).0 found.1))

place_unknown : (name : Text) (ks : List (String Global)) (names : List Text) → map string_bytes ks ≡ names
    → list_any (λ k. bytes_eq name (string_bytes k)) ks ≡ false → ¬ (Contains names name)
place_unknown name ks names e none there =
    let same : get_or names there.0 name ≡ name = there.2 in
    let passes : bytes_eq name (get_or names there.0 name) ≡ true = (bytes_eq-Decides name (get_or names there.0 name)).1 (sym same) in
    let any : list_any (bytes_eq name) names ≡ true = list_any_at (bytes_eq name) names there.0 name there.1 passes in
    let lone : list_any (bytes_eq name) names ≡ false = sym (any_of_map name ks names e) ∙ none in
    false≢true (sym lone ∙ any)
  where
    any_of_map : (name : Text) → (ks : List (String Global)) (names : List Text) → map string_bytes ks ≡ names
        → list_any (λ k. bytes_eq name (string_bytes k)) ks ≡ list_any (bytes_eq name) names
    any_of_map name [] names e = rw (← e) refl
    any_of_map name (k ∷ ks) names e = rw (← e) (ap (λ (b : Bool). bytes_eq name (string_bytes k) || b) (any_of_map name ks (map string_bytes ks) refl))

pub known_by : (place : Option ℕ) (name : Text) (names : List Text) → place ≡ position (bytes_eq name) names → OnSome place (Contains names name)
known_by None name names e = tt
known_by (Some i) name names e = place_known name names i (sym e)

pub unknown_by : (place : Option ℕ) (name : Text) (ks : List (String Global)) (names : List Text) → map string_bytes ks ≡ names
    → is_some place ≡ list_any (λ k. bytes_eq name (string_bytes k)) ks → IfNone place (¬ (Contains names name))
unknown_by None name ks names e found = place_unknown name ks names e (sym found)
unknown_by (Some i) name ks names e found = tt
