-- What is known of a predicted record and of the design behind whose rows it is put.
use Rattle.std.proofs.Common.{◌≡◌, ◌<◌, ◌≤◌, ◌&&◌, ◌++◌, ◌+◌, ◌-◌, ℕ, zero, suc, not, Bool, true, false, cond, List, [], ◌∷◌, Option, Some, None, All, filter, length, map, get_or, arith, refl, sym, ap, subst, ◌∙◌, length-append}
use Rattle.std.specs.Prelude.{Contains, option_to_list}
use Rattle.std.specs.List.{range_with_len}
use Rattle.std.specs.Ordering.{is_ne}
use Rattle.std.proofs.lemmas.List.{length-map}
use Rattle.std.proofs.lemmas.List.Elements.{All-contains, All-map, filter_passes}
use Rattle.std.proofs.lemmas.List.FromFn.{get_or-range_with_len, length-range_with_len}
use Rattle.contrasts.specs.declared.Coding.{Coding}
use Rattle.rational_laws.specs.Rational.{ℚ}
use Rattle.frac_core.specs.declared.frac128.Frac128.{Frac128}
use Rattle.data_frame.specs.Records.{Text}
use Rattle.formula_parser.specs.declared.formula.Formula.{Formula}
use Rattle.formula_parser.specs.declared.formula.Variable.{Variable}
use Rattle.design_matrix.specs.declared.design.Design.{Design}
use Rattle.design_matrix.specs.declared.fault.DesignFault.TheVariants.{UnknownLevel}
use Rattle.frac_core.specs.declared.arith.Arith.{Arith}
use Rattle.frac_core.specs.Values.{exact}
use Rattle.design_matrix.specs.Cells.{Column, Table, column_of, is_complete, is_kept, is_present, kept, predictor_names, used_names, weight_sign, weights_in}
use Rattle.design_matrix.specs.CodedVariable.{coded_terms, printed_name}
use Rattle.design_matrix.specs.Designs.{RowOf, exact_row, row_of}
use Rattle.design_matrix.specs.Faults.{IsDesign, terms_fault}
use Rattle.design_matrix.specs.Lists.{each}
use Rattle.design_matrix.specs.Parts.{Part, column_name, columns_of}
use Rattle.design_matrix.specs.Predicted.{columns_with, is_predicted, kept_in, lacks_entry, predicted, unknown_fault, unknown_level}
use Rattle.design_matrix.proofs.Behind.{faults_alike, names_alike}
use Rattle.design_matrix.proofs.Lengths.{filtered_below, length-filter-le}
use Rattle.design_matrix.proofs.Shapes.{columns, names_are, rows_are, shaped}
use Rattle.design_matrix.proofs.Steps.{map_map}

-- predicted records

-- a record, counted from 1, is in the table and predicted
pub record IsAsked (table : Table) (model : Formula) (rec : ℕ) : Type 0 where
  pub some : 1 ≤ rec
  pub inside : rec - 1 < table.records
  pub asked : is_predicted table model (rec - 1) ≡ true

module _ (table : Table) (model : Formula) where
  next_asked : (i : ℕ) → i < table.records → is_predicted table model i ≡ true → IsAsked table model (i + 1)
  next_asked i lt e =
      let same : i ≡ i + 1 - 1 = omega arith in
      record { some = omega arith; inside = omega (arith, lt); asked = subst (λ k. is_predicted table model k ≡ true) same e }

  all_asked : All (IsAsked table model) (map (λ i. i + 1) (filter (is_predicted table model) (range_with_len 0 table.records)))
  all_asked =
      All-map (IsAsked table model) (λ i. i + 1) (filter (is_predicted table model) (range_with_len 0 table.records))
      (λ k d l. next_asked _ (filtered_below (is_predicted table model) table.records k d l) (filter_passes (is_predicted table model) (range_with_len 0 table.records) k d l))

  pub asked_from : {rec : ℕ} → Contains (predicted table model) rec → IsAsked table model rec
  unfolding predicted
  asked_from {rec} h = All-contains (IsAsked table model) _ rec all_asked h

missing : (b c : Bool) → (not b && c) ≡ true → b ≡ false
missing true c e = absurd (cc e)
missing false c e = refl

-- a predicted record isn't kept
not_kept : (table : Table) (model : Formula) (weights : Option Text) (i : ℕ) → is_predicted table model i ≡ true
    → is_kept (map (column_of table) (used_names model weights)) (weights_in table weights) i ≡ false
unfolding used_names
not_kept table model weights i e =
    ap (λ b. (b && is_complete (map (column_of table) (option_to_list weights ++ predictor_names model)) i) && is_ne (weight_sign (weights_in table weights) i))
    (missing (is_present (column_of table model.response) i) (is_complete (map (column_of table) (predictor_names model)) i) e)

filter_less : (test : ℕ → Bool) (xs : List ℕ) (k : ℕ) → k < length xs → test (get_or xs k 0) ≡ false → length (filter test xs) < length xs
filter_less test [] k h e = absurd (omega arith)
filter_less test (x ∷ xs) zero h e =
    let rest : length (filter test xs) ≤ length xs = length-filter-le test xs in
    let same : length (filter test (x ∷ xs)) ≡ length (filter test xs) = ap (λ b. length (cond b (x ∷ filter test xs) (filter test xs))) e in
    omega arith
filter_less test (x ∷ xs) (suc k) h e =
    let rest : length (filter test xs) < length xs = filter_less test xs k (omega (arith, h)) e in
    elim (test x) as (λ b. length (cond b (x ∷ filter test xs) (filter test xs)) < length (x ∷ xs)) [ true ↦ omega arith | false ↦ omega arith ]

-- so there are fewer kept records than records
pub fewer_kept : (table : Table) (model : Formula) (weights : Option Text) (rec : ℕ) → IsAsked table model rec → length (kept table model weights) < table.records
unfolding kept
fewer_kept table model weights rec is =
    let test : ℕ → Bool = is_kept (map (column_of table) (used_names model weights)) (weights_in table weights) in
    let n : length (range_with_len 0 table.records) ≡ table.records = length-range_with_len 0 table.records in
    let there : get_or (range_with_len 0 table.records) (rec - 1) 0 ≡ rec - 1 = omega (arith, get_or-range_with_len 0 table.records (rec - 1) 0 is.inside) in
    let less : length (filter test (range_with_len 0 table.records)) < length (range_with_len 0 table.records) =
    filter_less test (range_with_len 0 table.records) (rec - 1) (omega (arith, is.inside)) (ap test there ∙ not_kept table model weights (rec - 1) is.asked) in
    omega (arith, less)

-- designs

abbrev index_in : RowOf → ℕ
index_in row = row.rec - 1

indices : (table : Table) (response : Column) (offsets : List Arith) (weights : Option Column) (cs : List (List Part)) (k : ℕ) (records : List ℕ)
    → map index_in (each (row_of table response offsets weights cs) k records) ≡ records
indices table response offsets weights cs k [] = refl
indices table response offsets weights cs k (i ∷ is) =
    ap (λ j. j ∷ map index_in (each (row_of table response offsets weights cs) (k + 1) is)) (let same : i + 1 - 1 ≡ i = omega arith in same)
    ∙ ap (λ l. i ∷ l) (indices table response offsets weights cs (k + 1) is)

module _ (table : Table) (model : Formula) (coding : Coding) (weights : Option Text) (design : Design) (is : IsDesign table model coding weights design) where
  -- the records of the rows are those that are kept
  pub kept_are : kept_in design ≡ kept table model weights
  kept_are =
      sym (map_map index_in exact_row design.rows)
      ∙ ap (map index_in) (rows_are table model coding weights design is)
      ∙ indices table (column_of table model.response) model.offsets (weights_in table weights) (columns_of table model coding (kept table model weights)) 0 (kept table model weights)

  -- a predicted record behind them leaves them no more than the records of the table
  pub few_behind : (rec : ℕ) (all : List ℕ) → IsAsked table model rec → all ≡ kept_in design ++ (rec - 1) ∷ [] → length all ≤ table.records
  few_behind rec all asked e =
      omega (arith, ap length e, length-append (kept_in design) ((rec - 1) ∷ []), ap length kept_are, fewer_kept table model weights rec asked)

  module _ (i : ℕ) (known : unknown_level table model (kept_in design) i ≡ None) where
    pub sound_with : terms_fault (coded_terms table model coding (kept_in design ++ i ∷ [])) ≡ None
    sound_with =
        faults_alike table model coding (kept_in design) i known
        ∙ ap (λ r. terms_fault (coded_terms table model coding r)) kept_are
        ∙ (columns table model coding weights is.sound).0

    pub names_with : map column_name (columns_with table model coding (kept_in design) i) ≡ design.names
    names_with =
        names_alike table model coding (kept_in design) i known
        ∙ ap (λ r. map column_name (columns_of table model coding r)) kept_are
        ∙ sym (names_are table model coding weights design is)

    pub few_with : length (columns_with table model coding (kept_in design) i) ≤ 128
    few_with =
        let same : length (columns_with table model coding (kept_in design) i) ≡ length design.names =
        sym (length-map (columns_with table model coding (kept_in design) i) column_name) ∙ ap length names_with in
        omega (arith, same, (shaped table model coding weights design is).few)

    -- an entry for each of the design's columns
    pub wide_with : (f : List Part → ℚ) (x : List Frac128) → map exact x ≡ map f (columns_with table model coding (kept_in design) i) → length x ≡ length design.names
    wide_with f x e =
        sym (length-map x exact)
        ∙ ap length e
        ∙ length-map (columns_with table model coding (kept_in design) i) f
        ∙ sym (length-map (columns_with table model coding (kept_in design) i) column_name)
        ∙ ap length names_with

-- what holds at the last place of a list holds behind the records that it begins with
pub behind : (P : List ℕ → ℕ → Type 0) (records all : List ℕ) (i : ℕ) → all ≡ records ++ i ∷ [] → P all (length all - 1) → P (records ++ i ∷ []) (length records)
behind P records all i e h =
    let place : length all - 1 ≡ length records = omega (arith, ap length e, length-append records (i ∷ [])) in
    subst (λ l. P l (length records)) e (subst (P all) place h)

-- a variable's cell is no level, or is one

pub unknown_found : (table : Table) (records : List ℕ) (i : ℕ) (v : Variable) (name : Text) → lacks_entry table records i v ≡ true
    → name ≡ printed_name v.as_factor v.name → unknown_fault table records i v ≡ Some (UnknownLevel (i + 1) name)
unknown_found table records i v name e f =
    ap (λ b. cond b (Some (UnknownLevel (i + 1) (printed_name v.as_factor v.name))) None) e ∙ ap (λ n. Some (UnknownLevel (i + 1) n)) (sym f)

pub unknown_none : (table : Table) (records : List ℕ) (i : ℕ) (v : Variable) → lacks_entry table records i v ≡ false
    → unknown_fault table records i v ≡ None
unknown_none table records i v e = ap (λ b. cond b (Some (UnknownLevel (i + 1) (printed_name v.as_factor v.name))) None) e
