-- A design from its parts, and the first fault from those that are looked for before.
use Rattle.std.proofs.Common.{◌≡◌, ◌<◌, ◌≤◌, ◌-◌, ℕ, Bool, true, false, List, Option, Some, None, cond, length, map, nat_eq, lt-ltb, le-ltb, eq-eqb, inl, inr, refl, sym, ap, subst, ◌∙◌, arith, All, Vec, filter, ◌+◌, ◌^◌}
use Rattle.std.proofs.lemmas.Bool.{eqb-true}
use Rattle.std.proofs.lemmas.List.Elements.{All-weaker}
use Rattle.std.specs.List.{flat_map, range_with_len}
use Rattle.std.specs.declared.alloc.Global.{Global}
use Rattle.contrasts.specs.declared.Coding.{Coding}
use Rattle.data_frame.specs.Records.{Text}
use Rattle.formula_parser.specs.declared.formula.Formula.{Formula}
use Rattle.frac_core.specs.declared.frac128.Frac128.{Frac128}
use Rattle.loss_model.specs.declared.spill.Spill.{Spill}
use Rattle.design_matrix.specs.declared.design.Design.{Design}
use Rattle.design_matrix.specs.declared.fault.DesignFault.{DesignFault}
use Rattle.design_matrix.specs.declared.fault.DesignFault.TheVariants.{NoRows, NoColumns, TooManyColumns, Overflow}
use Rattle.design_matrix.specs.Cells.{Column, Table, column_of, is_kept, kept, used_names, weights_in}
use Rattle.design_matrix.specs.CodedVariable.{CodedVariable, coded_term, coded_terms}
use Rattle.design_matrix.specs.declared.coded.CodedVariable.{CodedVariable as Held}
use Rattle.design_matrix.specs.declared.used.UsedColumns.{UsedColumns}
use Rattle.data_frame.specs.Views.{lent_column}
use Rattle.design_matrix.specs.Views.{AreUsed, coded_seen, terms_seen, weights_seen}
use Rattle.design_matrix.specs.Widths.{IsUsable}
use Rattle.design_matrix.specs.Designs.{AllFit, OverflowsFirst, design_of, exact_design, exact_row, row_of}
use Rattle.design_matrix.specs.Faults.{HasCause, HasDesign, HasLateCause, IsDesign, IsOverflow, fault_of, lacks_columns, late_fault, rows_fault, terms_fault, used_fault}
use Rattle.design_matrix.specs.Lists.{each}
use Rattle.design_matrix.specs.Parts.{Part, column_name, columns_in, columns_of, count, term_columns}
use Rattle.design_matrix.proofs.Firsts.{or_first, or_second}
use Rattle.design_matrix.proofs.Lengths.{filtered_below, filtered_fewer, terms_part}
use Rattle.design_matrix.proofs.Usable.{terms_few, terms_usable}

made_is : (table : Table) (model : Formula) (coding : Coding) (weights : Option Column) (records : List ℕ) (columns : List (List Part)) (response : Column) (d : Design)
    → columns ≡ columns_of table model coding records → response ≡ column_of table model.response
    → d.names ≡ map column_name columns → map exact_row d.rows ≡ each (row_of table response model.offsets weights columns) 0 records → d.dropped ≡ table.records - length records
    → exact_design d ≡ design_of table model coding weights records
unfolding design_of
made_is table model coding weights records columns response d p r e f g =
    let names = e ∙ ap (map column_name) p in
    let rows = f
    ∙ ap (λ x. each (row_of table x model.offsets weights columns) 0 records) r
    ∙ ap (λ x. each (row_of table (column_of table model.response) model.offsets weights x) 0 records) p in
    λ i. record { names = names i; rows = rows i; dropped = g i }

pub made : (table : Table) (model : Formula) (coding : Coding) (weights : Option Column) (records : List ℕ) (columns : List (List Part)) (response : Column) (d : Design)
    → columns ≡ columns_of table model coding records → response ≡ column_of table model.response
    → d.names ≡ map column_name columns → map exact_row d.rows ≡ each (row_of table response model.offsets weights columns) 0 records → d.dropped ≡ table.records - length records
    → AllFit table model columns records → HasDesign table model coding weights records d
made table model coding weights records columns response d p r e f g fits =
    let P : List (List Part) → Type 0 = λ x. AllFit table model x records in
    record { exact = made_is table model coding weights records columns response d p r e f g; fits = subst P p fits }

pub overflowed : (table : Table) (model : Formula) (coding : Coding) (records : List ℕ) (columns : List (List Part)) (fault : DesignFault) (s : Spill Frac128)
    → columns ≡ columns_of table model coding records → fault ≡ Overflow s → OverflowsFirst table model columns records s
    → IsOverflow table model coding records fault
overflowed table model coding records columns fault s p e o =
    let P : List (List Part) → Type 0 = λ x. OverflowsFirst table model x records s in
    record { spill = s; is = e; first = subst P p o }

pub seen_columns : (table : Table) (model : Formula) (coding : Coding) (records : List ℕ) (columns : List (List Part)) (terms : List (List CodedVariable))
    → columns ≡ columns_in model.intercept terms → terms ≡ coded_terms table model coding records → columns ≡ columns_of table model coding records
unfolding columns_of
seen_columns table model coding records columns terms e f = e ∙ ap (columns_in model.intercept) f

pub coded_from : (table : Table) (model : Formula) (coding : Coding) (records : List ℕ) (terms : List (List CodedVariable))
    → terms ≡ each (coded_term table model coding records) 0 model.terms → terms ≡ coded_terms table model coding records
unfolding coded_terms
coded_from table model coding records terms e = e

-- the faults of the design's columns

module _ (table : Table) (model : Formula) (coding : Coding) (records : List ℕ) (terms : List (List CodedVariable)) (same : terms ≡ coded_terms table model coding records) where
  pub late_terms : (fault : DesignFault) → terms_fault terms ≡ Some fault → late_fault table model coding records ≡ Some fault
  unfolding late_fault
  late_terms fault f = or_first _ _ _ (ap terms_fault (sym same) ∙ f)

  pub late_empty : terms_fault terms ≡ None → lacks_columns model ≡ true → late_fault table model coding records ≡ Some NoColumns
  unfolding late_fault
  late_empty f h = or_second _ _ _ (ap terms_fault (sym same) ∙ f) (or_first _ _ _ (ap (λ b. cond b (Some NoColumns) None) h))

  pub late_many : terms_fault terms ≡ None → lacks_columns model ≡ false → 128 < length (columns_in model.intercept terms)
      → late_fault table model coding records ≡ Some TooManyColumns
  unfolding late_fault
  late_many f h k =
      let n : length (columns_in model.intercept terms) ≡ length (columns_of table model coding records) = ap length (seen_columns table model coding records _ terms refl same) in
      or_second _ _ _ (ap terms_fault (sym same) ∙ f)
      (or_second _ _ _ (ap (λ b. cond b (Some NoColumns) None) h)
      (ap (λ b. cond b (Some TooManyColumns) None) (lt-ltb 128 (length (columns_of table model coding records)) (omega arith))))

  pub late_none : terms_fault terms ≡ None → lacks_columns model ≡ false → length (columns_in model.intercept terms) ≤ 128
      → late_fault table model coding records ≡ None
  unfolding late_fault
  late_none f h k =
      let n : length (columns_in model.intercept terms) ≡ length (columns_of table model coding records) = ap length (seen_columns table model coding records _ terms refl same) in
      or_second _ _ _ (ap terms_fault (sym same) ∙ f)
      (or_second _ _ _ (ap (λ b. cond b (Some NoColumns) None) h)
      (ap (λ b. cond b (Some TooManyColumns) None) (le-ltb 128 (length (columns_of table model coding records)) (omega arith))))

-- the faults of the columns that are used come first, and those of the design's columns last

not_zero : (n : ℕ) → (n ≡ 0 → ⊥) → nat_eq n 0 ≡ false
not_zero n h = at (nat_eq n 0) refl
  where
    at : (b : Bool) → nat_eq n 0 ≡ b → nat_eq n 0 ≡ false
    at true e = absurd (h (eqb-true n 0 e))
    at false e = e

module _ (table : Table) (model : Formula) (coding : Coding) (weights : Option Text) where
  pub fault_used : (fault : DesignFault) → used_fault table model weights ≡ Some fault → fault_of table model coding weights ≡ Some fault
  unfolding fault_of
  fault_used fault h = or_first _ _ _ h

  module _ (sound : used_fault table model weights ≡ None) (records : List ℕ) (here : records ≡ kept table model weights) where
    pub fault_rows : length records ≡ 0 → fault_of table model coding weights ≡ Some NoRows
    unfolding fault_of
    fault_rows q =
        or_second _ _ _ sound
        (or_first _ _ _ (ap rows_fault (sym here) ∙ ap (λ b. cond b (Some NoRows) None) (eq-eqb (length records) 0 q)))

    pub fault_late : (late : Option DesignFault) → (length records ≡ 0 → ⊥) → late_fault table model coding records ≡ late
        → fault_of table model coding weights ≡ late
    unfolding fault_of
    fault_late late q l =
        or_second _ _ _ sound
        (or_second _ _ _ (ap rows_fault (sym here) ∙ ap (λ b. cond b (Some NoRows) None) (not_zero (length records) q))
        (ap (late_fault table model coding) (sym here) ∙ l))

-- the kept records by the columns that are used
pub kept_from : (table : Table) (model : Formula) (weights : Option Text) (used : UsedColumns) (records : List ℕ) (n : ℕ)
    → AreUsed table model weights used → n ≡ table.records
    → records ≡ filter (is_kept (map lent_column used.columns.items) (weights_seen used.weights)) (range_with_len 0 n) → records ≡ kept table model weights
unfolding kept
kept_from table model weights used records n are g h =
    h
    ∙ ap (λ c. filter (is_kept c (weights_seen used.weights)) (range_with_len 0 n)) are.columns
    ∙ ap (λ w. filter (is_kept (map (column_of table) (used_names model weights)) w) (range_with_len 0 n)) are.weights_are
    ∙ ap (λ m. filter (is_kept (map (column_of table) (used_names model weights)) (weights_in table weights)) (range_with_len 0 m)) g

-- the design, and the cause of a fault, by what the columns that are used give
module _ (table : Table) (model : Formula) (coding : Coding) (weights : Option Text) {records : List ℕ} (here : records ≡ kept table model weights) where
  pub designed : {used : UsedColumns} {design : Design} → AreUsed table model weights used → (length records ≡ 0 → ⊥) → used_fault table model weights ≡ None
      → late_fault table model coding records ≡ None → HasDesign table model coding (weights_seen used.weights) records design
      → IsDesign table model coding weights design
  designed {used} {design} are some sound late has =
      let P : Option Column → Type 0 = λ w. HasDesign table model coding w records design in
      let Q : List ℕ → Type 0 = λ r. HasDesign table model coding (weights_in table weights) r design in
      record { sound = fault_late table model coding weights sound records here None some late; design_is = subst Q here (subst P are.weights_are has) }

  pub caused : {fault : DesignFault} → (length records ≡ 0 → ⊥) → used_fault table model weights ≡ None → HasLateCause table model coding records fault
      → HasCause table model coding weights fault
  caused {fault} some sound cause =
      let P : List ℕ → Type 0 = λ r. IsOverflow table model coding r fault in
      elim cause [
        | inl memory ↦ inl memory
        | inr rest ↦ elim rest [
          | inl late ↦ inr (inl (fault_late table model coding weights sound records here (Some fault) some late))
          | inr both ↦ inr (inr (fault_late table model coding weights sound records here None some both.0, subst P here both.1))
        ]
      ]

pub usable_from : (terms : List (Vec Held Global)) (intercept : Bool) → terms_fault (terms_seen terms) ≡ None
    → length (columns_in intercept (terms_seen terms)) ≤ 128 → All (λ vs. All IsUsable vs.items) terms
unfolding terms_fault
usable_from terms intercept e h =
    let part : length (flat_map term_columns (terms_seen terms)) ≤ length (columns_in intercept (terms_seen terms)) = terms_part intercept (terms_seen terms) in
    terms_usable terms e (omega arith)

pub numbered_from : (test : ℕ → Bool) (n : ℕ) (records : List ℕ) → records ≡ filter test (range_with_len 0 n) → n < 2 ^ 32
    → All (λ i. i + 1 < 2 ^ 32) records
numbered_from test n records e h =
    let P : List ℕ → Type 0 = λ l. All (λ i. i + 1 < 2 ^ 32) l in
    subst P (sym e) (All-weaker (λ i. i < n) (λ i. i + 1 < 2 ^ 32) (λ i k. omega arith) (filter test (range_with_len 0 n)) (filtered_below test n))

pub fewer_from : (test : ℕ → Bool) (n : ℕ) (records : List ℕ) → records ≡ filter test (range_with_len 0 n) → length records ≤ n
fewer_from test n records e =
    let few : length (filter test (range_with_len 0 n)) ≤ n = filtered_fewer test n in
    let same : length records ≡ length (filter test (range_with_len 0 n)) = ap length e in
    omega arith

-- the terms that are held of a sound formula whose columns are few

module _ (table : Table) (model : Formula) (coding : Coding) (records : List ℕ) (terms : List (Vec Held Global))
    (told : terms_seen terms ≡ each (coded_term table model coding records) 0 model.terms) where
  -- their columns
  pub told_columns : columns_in model.intercept (terms_seen terms) ≡ columns_of table model coding records
  told_columns = seen_columns table model coding records _ (terms_seen terms) refl (coded_from table model coding records (terms_seen terms) told)

  module _ (few : length (columns_of table model coding records) ≤ 128) where
    few_here : length (columns_in model.intercept (terms_seen terms)) ≤ 128
    few_here = omega (arith, ap length told_columns, few)

    pub told_usable : terms_fault (coded_terms table model coding records) ≡ None → All (λ vs. All IsUsable vs.items) terms
    told_usable sound = usable_from terms model.intercept (ap terms_fault (coded_from table model coding records (terms_seen terms) told) ∙ sound) few_here

    pub told_few : All (λ vs. count (map coded_seen vs.items) ≤ 128) terms
    told_few = terms_few terms (omega (arith, terms_part model.intercept (terms_seen terms), few_here))
