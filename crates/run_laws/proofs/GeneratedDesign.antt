-- Where all columns of a table are numbers in every record, and every term is one of them, there is nothing wrong with
-- the design.
use Rattle.std.proofs.Common.{◌≡◌, ◌≢◌, ℕ, zero, suc, ◌+◌, ◌/◌, ◌<◌, ◌≤◌, Bool, true, false, is_some, List, [], ◌∷◌, ◌++◌, Option, Some, None, map}
use Rattle.std.proofs.Common.{length, get_or, filter, codes, option_map, option_to_list, position, slice_get, unwrap_or, flat_map, nat_lt, pos, arith, inl, inr, refl, sym, ap, subst, ◌∙◌}
use Rattle.std.specs.List.{AllByRecursion, position_or_len, range_with_len}
use Rattle.std.specs.Ordering.{is_lt, is_ne}
use Rattle.std.specs.Str.{bytes_eq}
use Rattle.std.proofs.lemmas.Bool.{cases_Bool, false_from_ne_true, lt-ltb, ltb-true, ne_eqb}
use Rattle.std.proofs.lemmas.List.{length-append, length-map}
use Rattle.std.proofs.lemmas.List.Elements.{All-from_recursion, recursion_from_All}
use Rattle.std.proofs.lemmas.List.FromFn.{length-range_with_len}
use Rattle.std.proofs.lemmas.Option.{slice_get-get_or}
use Rattle.std.proofs.lemmas.Slice.Eq.{bytes_eq-Decides}
use Rattle.std.proofs.Math.ListN as seq
use Rattle.contrasts.specs.declared.Coding.{Coding}
use Rattle.rational_laws.specs.Rational.{le_ℚ, whole}
use Rattle.frac_core.specs.Limits.{most_columns}
use Rattle.frac_core.specs.declared.arith.Arith.{Arith}
use Rattle.frac_core.specs.declared.frac128.Frac128.{Frac128}
use Rattle.frac_core.specs.Values.{exact}
use Rattle.data_frame.specs.Cells.{ColumnOf, numbers, factor, too_wide}
use Rattle.data_frame.specs.Records.{Text}
use Rattle.data_frame.specs.Tables.{column_named}
use Rattle.data_frame.specs.Views.{exact_column}
use Rattle.formula_parser.specs.Held.{ariths_of, term_ariths}
use Rattle.formula_parser.specs.Scope.{name_at}
use Rattle.formula_parser.specs.declared.formula.Formula.{Formula}
use Rattle.formula_parser.specs.declared.formula.Term.{Term}
use Rattle.formula_parser.specs.declared.formula.Variable.{Variable}
use Rattle.design_matrix.specs.Cells.{Column, Table, column_of, is_complete, is_kept, is_present, kept, names_by, term_names, used_names, weight_sign}
use Rattle.design_matrix.specs.CodedVariable.{CodedVariable, coded_term, coded_terms, coded_variable, values_in, width, width_in}
use Rattle.design_matrix.specs.Computed.{arith_at, expressions, texts_once}
use Rattle.design_matrix.specs.Designs.{OverflowsFirst, OverflowsInRecord, OverflowsInRow, in_ariths, in_entries, in_response}
use Rattle.design_matrix.specs.Faults.{HasCause, ariths_fault, factor_fault, named_fault, fault_of, late_fault, levels_fault, rows_fault, terms_fault, used_fault, weight_fault, weights_fault, wide_fault, widths_fault}
use Rattle.design_matrix.specs.Lists.{each, first_some}
use Rattle.design_matrix.specs.Parts.{Part, chosen, columns_in, columns_of, count, term_columns}
use Rattle.design_matrix.specs.declared.fault.DesignFault.{DesignFault}
use Rattle.design_matrix.specs.declared.fault.DesignFault.TheVariants as designs
use Rattle.loss_model.specs.declared.spill.Spill.{Spill}
use Rattle.run_laws.proofs.GeneratedCells.{IsFull}
use Rattle.run_laws.proofs.GeneratedFormula.{AreColumns, IsColumn}

-- ---- columns as the program holds them

present_alike : (o : Option Frac128) → is_some (option_map exact o) ≡ is_some o
present_alike None = refl
present_alike (Some x) = refl

exact_full : (rows : ℕ) (c : ColumnOf Frac128) → IsFull rows (exact_column c) → IsFull rows c
exact_full rows (numbers cells) h = λ i l. sym (present_alike (get_or cells i None)) ∙ ap is_some (sym (seq.get_or-map (option_map exact) cells i None)) ∙ h i l
exact_full rows (factor cells) h = absurd h
exact_full rows (too_wide rec) h = absurd h

pub all_exact_full : (rows : ℕ) (cs : List (ColumnOf Frac128)) → AllByRecursion (IsFull rows) (map exact_column cs) → AllByRecursion (IsFull rows) cs
all_exact_full rows [] h = tt
all_exact_full rows (c ∷ cs) h = (exact_full rows c h.0, all_exact_full rows cs h.1)

-- where a name stands, a search for it ends
search_ends : (p : Text → Bool) (names : List Text) (i : ℕ) → i < length names → p (get_or names i []) ≡ true → position_or_len p names < length names
search_ends p [] i l h = absurd (omega (arith, l))
search_ends p (name ∷ names) zero l h = rw h (omega arith)
search_ends p (name ∷ names) (suc i) l h =
    let later = search_ends p names i (omega (arith, l)) h in
    elim (cases_Bool (p name)) [
      | inl is ↦ rw is (omega arith)
      | inr other ↦ rw other (omega (arith, later))
    ]

-- the weight of a record without weights isn't negative, and isn't 0
not_negative : (i : ℕ) → is_lt (weight_sign None i) ≡ false
unfolding le_ℚ whole
not_negative i = refl

not_zero : (i : ℕ) → is_ne (weight_sign None i) ≡ true
unfolding le_ℚ whole
not_zero i = refl

none_negative : (is : List ℕ) → first_some (weight_fault None) is ≡ None
none_negative [] = refl
none_negative (i ∷ is) = rw (not_negative i) (none_negative is)

present_first : (rows : ℕ) (c : Column) → 1 ≤ rows → IsFull rows c → is_present c 0 ≡ true
present_first rows (numbers cells) some h = h 0 some
present_first rows (factor cells) some h = absurd h
present_first rows (too_wide rec) some h = absurd h

not_factor : (rows : ℕ) (fault : DesignFault) (c : Column) → IsFull rows c → factor_fault fault c ≡ None
not_factor rows fault (numbers cells) h = refl
not_factor rows fault (factor cells) h = absurd h
not_factor rows fault (too_wide rec) h = absurd h

not_wide : (rows : ℕ) (name : Text) (c : Column) → IsFull rows c → wide_fault name c ≡ None
not_wide rows name (numbers cells) h = refl
not_wide rows name (factor cells) h = absurd h
not_wide rows name (too_wide rec) h = absurd h

one_wide : (rows : ℕ) (coding : Coding) (c : Column) (records : List ℕ) → IsFull rows c → width_in coding (values_in false c records) ≡ 1
one_wide rows coding (numbers cells) records h = refl
one_wide rows coding (factor cells) records h = absurd h
one_wide rows coding (too_wide rec) records h = absurd h

module _ (table : Table) (model : Formula) (coding : Coding) (rows : ℕ) (some : 1 ≤ rows) (recs : table.records ≡ rows) (full : AllByRecursion (IsFull rows) table.columns) (many : length table.columns ≡ length table.names)
    (first : get_or table.names 0 [] ≡ codes "y") (few : length table.names ≤ most_columns) (said : AreColumns table.names model) where
  -- a column of one of the table's names
  named : (i : ℕ) → i < length table.names → IsFull rows (column_of table (name_at table.names i))
  unfolding column_of
  named i l =
      let name = name_at table.names i in
      let place = position_or_len (bytes_eq name) table.names in
      let there : place < length table.names = search_ends (bytes_eq name) table.names i l ((bytes_eq-Decides name name).1 refl) in
      let found : position (bytes_eq name) table.names ≡ Some place = rw (lt-ltb place (length table.names) there) refl in
      let column : column_named name table ≡ Some (get_or table.columns place (factor [])) = rw found (slice_get-get_or table.columns place (factor []) (omega (arith, there, many))) in
      subst (IsFull rows) (sym (ap (λ o. unwrap_or o (factor [])) column)) (All-from_recursion (IsFull rows) table.columns full place (factor []) (omega (arith, there, many)))

  abbrev Named : Text → Type 0
  Named name = IsFull rows (column_of table name)

  -- ---- names that are used

  term_named : (t : Term) → IsColumn table.names t → AllByRecursion Named (term_names t)
  term_named t h = subst (λ vs. AllByRecursion Named (flat_map (λ v. names_by v.name v.arith) vs)) (sym h.2) (named h.0 h.1, tt)

  all_append : (xs ys : List Text) → AllByRecursion Named xs → AllByRecursion Named ys → AllByRecursion Named (xs ++ ys)
  all_append [] ys h k = k
  all_append (x ∷ xs) ys h k = (h.0, all_append xs ys h.1 k)

  terms_named : (ts : List Term) → AllByRecursion (IsColumn table.names) ts → AllByRecursion Named (flat_map term_names ts)
  terms_named [] h = tt
  terms_named (t ∷ ts) h = all_append (term_names t) (flat_map term_names ts) (term_named t h.0) (terms_named ts h.1)

  single : AllByRecursion (IsColumn table.names) model.terms
  single = recursion_from_All (IsColumn table.names) model.terms said.single

  named_first : 0 < length table.names
  named_first = omega (arith, said.number)

  response : Named model.response
  response = subst Named (sym (said.response ∙ sym first)) (named 0 named_first)

  used : AllByRecursion Named (used_names model None)
  unfolding used_names
  used = (
    response,
    all_append (flat_map term_names model.terms) (flat_map (λ a. a.names) model.offsets ++ map (λ s. s.name) model.smooths) (terms_named model.terms single)
        (all_append (flat_map (λ a. a.names) model.offsets) (map (λ s. s.name) model.smooths) (subst (λ (os : List Arith). AllByRecursion Named (flat_map (λ a. a.names) os)) (sym said.offsets) tt)
        (subst (λ ss. AllByRecursion Named (map (λ s. s.name) ss)) (sym said.smooths) tt)),
  )

  -- ---- arithmetics

  none_of_terms : (ts : List Term) → AllByRecursion (IsColumn table.names) ts → flat_map term_ariths ts ≡ []
  none_of_terms [] h = refl
  none_of_terms (t ∷ ts) h =
      ap (λ l. l ++ flat_map term_ariths ts) (ap (flat_map (λ v. option_to_list v.arith)) h.0.2) ∙ none_of_terms ts h.1

  no_ariths : ariths_of model ≡ []
  no_ariths = ap (λ l. l ++ model.offsets) (none_of_terms model.terms single) ∙ said.offsets

  no_expressions : expressions model ≡ []
  unfolding expressions
  no_expressions = ap (texts_once []) no_ariths

  no_arith_fault : ariths_fault table (ariths_of model) ≡ None
  unfolding ariths_fault
  no_arith_fault = ap (λ l. first_some (λ a. first_some (named_fault table) a.names) l) no_ariths

  none_wide : (names : List Text) → AllByRecursion Named names → first_some (λ name. wide_fault name (column_of table name)) names ≡ None
  none_wide [] h = refl
  none_wide (name ∷ names) h = rw (not_wide rows name (column_of table name) h.0) (none_wide names h.1)

  used_sound : used_fault table model None ≡ None
  unfolding used_fault widths_fault weights_fault
  used_sound = rw (not_factor rows designs.ResponseNotNumeric (column_of table model.response) response, no_arith_fault, none_wide (used_names model None) used) (none_negative (range_with_len 0 table.records))

  -- ---- records

  all_present : (names : List Text) → AllByRecursion Named names → is_complete (map (column_of table) names) 0 ≡ true
  all_present [] h = refl
  all_present (name ∷ names) h = rw (present_first rows (column_of table name) some h.0) (all_present names h.1)

  first_kept : is_kept (map (column_of table) (used_names model None)) None 0 ≡ true
  first_kept = rw (all_present (used_names model None) used) (not_zero 0)

  kept_from : (n : ℕ) → 1 ≤ n → 1 ≤ length (filter (is_kept (map (column_of table) (used_names model None)) None) (range_with_len 0 n))
  kept_from zero l = absurd (omega (arith, l))
  kept_from (suc n) l = rw first_kept (omega arith)

  pub one_kept : 1 ≤ length (kept table model None)
  unfolding kept
  one_kept = kept_from table.records (omega (arith, recs, some))

  few_kept : (p : ℕ → Bool) (ns : List ℕ) → length (filter p ns) ≤ length ns
  few_kept p [] = omega arith
  few_kept p (k ∷ ns) =
      let later = few_kept p ns in
      elim (cases_Bool (p k)) [
        | inl is ↦ rw is (omega (arith, later))
        | inr other ↦ rw other (omega (arith, later))
      ]

  pub kept_number : length (kept table model None) ≤ rows
  unfolding kept
  kept_number =
      let all = range_with_len 0 table.records in
      omega (arith, recs, few_kept (is_kept (map (column_of table) (used_names model None)) None) all, length-range_with_len 0 table.records)

  rows_sound : rows_fault (kept table model None) ≡ None
  rows_sound = rw (ne_eqb (length (kept table model None)) 0 (λ e. omega (arith, e, one_kept))) refl

  -- ---- terms

  -- the coded variables of a term are one, of one column
  record IsSingle (vs : List CodedVariable) : Type 0 where
    only : CodedVariable
    is : vs ≡ only ∷ []
    wide : width only ≡ 1

  one_coded : (records : List ℕ) (k : ℕ) (t : Term) → IsColumn table.names t → IsSingle (coded_term table model coding records k t)
  unfolding coded_variable
  one_coded records k t h =
      let v : Variable = record { name = name_at table.names h.0; as_factor = false; arith = None } in
      record {
        only = coded_variable table model coding records k (v ∷ []) 0 v;
        is = ap (λ vs. each (coded_variable table model coding records k vs) 0 vs) h.2;
        wide = one_wide rows _ (column_of table v.name) records (named h.0 h.1);
      }

  all_coded : (records : List ℕ) (k : ℕ) (ts : List Term) → AllByRecursion (IsColumn table.names) ts → AllByRecursion IsSingle (each (coded_term table model coding records) k ts)
  all_coded records k [] h = tt
  all_coded records k (t ∷ ts) h = (one_coded records k t h.0, all_coded records (k + 1) ts h.1)

  coded : (records : List ℕ) → AllByRecursion IsSingle (coded_terms table model coding records)
  unfolding coded_terms
  coded records = all_coded records 0 model.terms single

  each_number : {A B : Type 0} (f : ℕ → A → B) (k : ℕ) (xs : List A) → length (each f k xs) ≡ length xs
  each_number f k [] = refl
  each_number f k (x ∷ xs) = ap suc (each_number f (k + 1) xs)

  coded_number : (records : List ℕ) → length (coded_terms table model coding records) ≡ length model.terms
  unfolding coded_terms
  coded_number records = each_number (coded_term table model coding records) 0 model.terms

  some_wide : (vs : List CodedVariable) → IsSingle vs → levels_fault vs ≡ None
  unfolding levels_fault
  some_wide vs h = rw (h.is, ne_eqb (width h.only) 0 (λ e. absurd (omega (arith, e, h.wide)))) refl

  all_some : (terms : List (List CodedVariable)) → AllByRecursion IsSingle terms → first_some levels_fault terms ≡ None
  all_some [] h = refl
  all_some (vs ∷ terms) h = rw (some_wide vs h.0) (all_some terms h.1)

  -- ---- columns of the design

  one_column : (vs : List CodedVariable) → IsSingle vs → length (term_columns vs) ≡ 1
  one_column vs h = length-map (range_with_len 0 (count vs)) (chosen vs) ∙ length-range_with_len 0 (count vs) ∙ ap count h.is ∙ omega (arith, h.wide)

  column_number : (terms : List (List CodedVariable)) → AllByRecursion IsSingle terms → length (flat_map term_columns terms) ≡ length terms
  column_number [] h = refl
  column_number (vs ∷ terms) h = omega (arith, length-append (term_columns vs) (flat_map term_columns terms), one_column vs h.0, column_number terms h.1)

  columns_are : (records : List ℕ) → columns_of table model coding records ≡ [] ∷ flat_map term_columns (coded_terms table model coding records)
  unfolding columns_of
  columns_are records = ap (λ b. columns_in b (coded_terms table model coding records)) said.intercept

  pub columns_number : (records : List ℕ) → length (columns_of table model coding records) ≤ most_columns
  columns_number records = omega (arith, ap length (columns_are records), column_number (coded_terms table model coding records) (coded records), coded_number records, said.number, few)

  -- a column is the product of one part at most
  Short : List Part → Type 0
  Short parts = length parts ≤ 1

  chosen_number : (vs : List CodedVariable) (n : ℕ) → length (chosen vs n) ≡ length vs
  chosen_number [] n = refl
  chosen_number (v ∷ vs) n = ap suc (chosen_number vs (n / width v))

  short_columns : (vs : List CodedVariable) (ns : List ℕ) → length vs ≤ 1 → AllByRecursion Short (map (chosen vs) ns)
  unfolding Short
  short_columns vs [] l = tt
  short_columns vs (n ∷ ns) l = (omega (arith, l, chosen_number vs n), short_columns vs ns l)

  short_append : (xs ys : List (List Part)) → AllByRecursion Short xs → AllByRecursion Short ys → AllByRecursion Short (xs ++ ys)
  short_append [] ys h k = k
  short_append (x ∷ xs) ys h k = (h.0, short_append xs ys h.1 k)

  short_terms : (terms : List (List CodedVariable)) → AllByRecursion IsSingle terms → AllByRecursion Short (flat_map term_columns terms)
  short_terms [] h = tt
  short_terms (vs ∷ terms) h =
      let one : length vs ≡ 1 = ap length h.0.is in
      short_append (term_columns vs) (flat_map term_columns terms) (short_columns vs (range_with_len 0 (count vs)) (omega (arith, one))) (short_terms terms h.1)

  all_short : (records : List ℕ) → AllByRecursion Short (columns_of table model coding records)
  unfolding Short
  all_short records = subst (AllByRecursion Short) (sym (columns_are records)) (omega arith, short_terms (coded_terms table model coding records) (coded records))

  none_in_row : (records : List ℕ) (place rec : ℕ) (spill : Spill Frac128) → OverflowsInRow (columns_of table model coding records) place rec spill → ⊥
  unfolding Short
  none_in_row records place rec spill h =
      let columns = columns_of table model coding records in
      let parts = get_or columns h.column [] in
      let short : length parts ≤ 1 = All-from_recursion Short columns (all_short records) h.column [] h.there in
      let k = h.first in
      absurd (omega (arith, short, k.some, k.more, length-map parts (λ p. get_or p.entries place (whole (pos 0)))))

  none_in_record : (records : List ℕ) (place i : ℕ) (spill : Spill Frac128) → OverflowsInRecord table model (columns_of table model coding records) place i spill → ⊥
  none_in_record records place i spill (in_ariths h) = absurd (cc (sym (ap (λ l. slice_get l h.place) no_expressions) ∙ h.there))
  none_in_record records place i spill (in_response a h) = absurd (omega (arith, h.there, length-map model.offsets (λ a. arith_at table a i), ap length said.offsets))
  none_in_record records place i spill (in_entries a r h) = none_in_row records place (i + 1) spill h

  none_overflows : (records : List ℕ) (spill : Spill Frac128) → OverflowsFirst table model (columns_of table model coding records) records spill → ⊥
  none_overflows records spill h = none_in_record records h.place (get_or records h.place 0) spill h.here

  late_sound : (records : List ℕ) → late_fault table model coding records ≡ None
  unfolding late_fault terms_fault
  late_sound records =
      let narrow : nat_lt most_columns (length (columns_of table model coding records)) ≡ false =
      false_from_ne_true _ (λ e. absurd (omega (arith, columns_number records, ltb-true most_columns (length (columns_of table model coding records)) e))) in
      rw (all_some (coded_terms table model coding records) (coded records), narrow, said.intercept) refl

  pub sound : fault_of table model coding None ≡ None
  unfolding fault_of
  sound = rw (used_sound, rows_sound) (late_sound (kept table model None))

  pub no_design_fault : (fault : DesignFault) → fault ≢ designs.OutOfMemory → ¬ HasCause table model coding None fault
  no_design_fault fault named (inl memory) = named memory
  no_design_fault fault named (inr (inl found)) = absurd (cc (sym sound ∙ found))
  no_design_fault fault named (inr (inr late)) = none_overflows (kept table model None) late.1.spill late.1.first
