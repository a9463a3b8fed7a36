-- A record behind the kept ones whose cells are levels of theirs: it adds neither levels nor columns.
use Rattle.std.specs.Cmp.{IsTotalOrder}
use Rattle.std.specs.List.{cons_option, list_any}
use Rattle.std.specs.Option.{option_map_or}
use Rattle.std.proofs.Common.{◌≡◌, ◌+◌, ◌++◌, ◌&&◌, ℕ, is_none, Bool, true, false, List, [], ◌∷◌, Option, Some, None, is_eq, Ordering, map, refl, sym, ap, ◌∙◌}
use Rattle.std.proofs.lemmas.List.Elements.{filter_map-append}
use Rattle.std.proofs.lemmas.Bool.{not-false}
use Rattle.contrasts.specs.declared.Coding.{Coding}
use Rattle.data_frame.specs.Cells.{numbers, factor, too_wide}
use Rattle.frac_core.specs.declared.arith.Arith.{Arith}
use Rattle.formula_parser.specs.declared.formula.Formula.{Formula}
use Rattle.formula_parser.specs.declared.formula.Term.{Term}
use Rattle.formula_parser.specs.declared.formula.Variable.{Variable}
use Rattle.design_matrix.specs.declared.fault.DesignFault.TheVariants.{UnknownLevel}
use Rattle.design_matrix.specs.Cells.{Column, Table, cell_of, column_of, present}
use Rattle.design_matrix.specs.CodedVariable.{categorical, coded_term, coded_terms, coded_variable, coding_of, printed_name, values_by, values_in}
use Rattle.design_matrix.specs.Faults.{terms_fault}
use Rattle.design_matrix.specs.Levels.{levels_of, number_order, number_text, put_all, text_order}
use Rattle.design_matrix.specs.Lists.{first_some}
use Rattle.design_matrix.specs.Parts.{column_name, columns_in, columns_of}
use Rattle.design_matrix.specs.Predicted.{columns_with, is_level, is_unknown, unknown_fault, unknown_level}
use Rattle.design_matrix.proofs.Alike.{bare, bare_terms, bare_values, names_bare, terms_bare, told_alike}
use Rattle.design_matrix.proofs.Ascending.{numbers_total, texts_total}
use Rattle.design_matrix.proofs.Known.{levels_stay}
use Rattle.design_matrix.proofs.Shapes.{if_none, none_each}
use Rattle.design_matrix.proofs.Steps.{append_nothing}

module _ {K : Type 0} (order : K → K → Ordering) (total : IsTotalOrder order) where
  -- a cell of one more record, where it is missing or a level already
  one_more : (cells : List K) (o : Option K) → option_map_or (λ x. list_any (λ y. is_eq (order y x)) (levels_of order cells)) o true ≡ true
      → levels_of order (cells ++ cons_option o []) ≡ levels_of order cells
  unfolding levels_of
  one_more cells None h = ap (put_all order []) (append_nothing cells)
  one_more cells (Some x) h = levels_stay order total x cells h

  levels_alike : (cells : List (Option K)) (records : List ℕ) (i : ℕ) → is_level order cells records i ≡ true
      → levels_of order (present cells (records ++ i ∷ [])) ≡ levels_of order (present cells records)
  levels_alike cells records i h =
      ap (levels_of order) (filter_map-append (cell_of cells) records (i ∷ [])) ∙ one_more (present cells records) (cell_of cells i) h

module _ (table : Table) (model : Formula) (coding : Coding) (records : List ℕ) (i : ℕ) where
  values_alike : (as_factor : Bool) (column : Column) → is_unknown as_factor column records i ≡ false
      → bare_values (values_in as_factor column (records ++ i ∷ [])) ≡ bare_values (values_in as_factor column records)
  values_alike as_factor (factor cells) h = ap (λ l. categorical (map (λ text. text) l) []) (levels_alike text_order texts_total cells records i (not-false _ h))
  values_alike true (numbers cells) h = ap (λ l. categorical (map number_text l) []) (levels_alike number_order numbers_total cells records i (not-false _ h))
  values_alike false (numbers cells) h = refl
  values_alike as_factor (too_wide rec) h = refl

  by_alike : (v : Variable) (o : Option Arith) → (is_none o && is_unknown v.as_factor (column_of table v.name) records i) ≡ false
      → bare_values (values_by table v o (records ++ i ∷ [])) ≡ bare_values (values_by table v o records)
  by_alike v None h = values_alike v.as_factor (column_of table v.name) h
  by_alike v (Some a) h = refl

  variable_alike : (number : ℕ) (vs : List Variable) (place : ℕ) (v : Variable) → unknown_fault table records i v ≡ None
      → bare (coded_variable table model coding (records ++ i ∷ []) number vs place v) ≡ bare (coded_variable table model coding records number vs place v)
  unfolding coded_variable
  variable_alike number vs place v h =
      ap (λ s. record { name = printed_name v.as_factor v.name; coding = coding_of table model coding number vs place; values = s })
      (by_alike v v.arith (if_none _ (UnknownLevel (i + 1) (printed_name v.as_factor v.name)) h))

  term_alike : (number : ℕ) (t : Term) → first_some (unknown_fault table records i) t.variables ≡ None
      → map bare (coded_term table model coding (records ++ i ∷ []) number t) ≡ map bare (coded_term table model coding records number t)
  term_alike number t h =
      told_alike bare (coded_variable table model coding (records ++ i ∷ []) number t.variables) (coded_variable table model coding records number t.variables)
      (λ v. unknown_fault table records i v ≡ None) (variable_alike number t.variables) 0 t.variables (none_each (unknown_fault table records i) t.variables h)

  module _ (known : unknown_level table model records i ≡ None) where
    terms_alike : bare_terms (coded_terms table model coding (records ++ i ∷ [])) ≡ bare_terms (coded_terms table model coding records)
    unfolding coded_terms unknown_level
    terms_alike =
        told_alike (map bare) (coded_term table model coding (records ++ i ∷ [])) (coded_term table model coding records)
        (λ t. first_some (unknown_fault table records i) t.variables ≡ None) term_alike 0 model.terms
        (none_each (λ t. first_some (unknown_fault table records i) t.variables) model.terms known)

    -- no variable lacks a column that didn't before
    pub faults_alike : terms_fault (coded_terms table model coding (records ++ i ∷ [])) ≡ terms_fault (coded_terms table model coding records)
    faults_alike =
        sym (terms_bare (coded_terms table model coding (records ++ i ∷ []))) ∙ ap terms_fault terms_alike ∙ terms_bare (coded_terms table model coding records)

    -- the columns are called as before
    pub names_alike : map column_name (columns_with table model coding records i) ≡ map column_name (columns_of table model coding records)
    unfolding columns_of
    names_alike =
        sym (names_bare model.intercept (coded_terms table model coding (records ++ i ∷ [])))
        ∙ ap (λ ts. map column_name (columns_in model.intercept ts)) terms_alike
        ∙ names_bare model.intercept (coded_terms table model coding records)
