-- The bytes of a generated table have no fault by the formula that is fitted to them.
use Rattle.std.proofs.Common.{◌≡◌, ◌≢◌, ℕ, ◌≤◌, Bool, true, false, get_or, List, [], Option, None, map, length, codes, arith, inl, inr, refl, sym, ap, subst, ◌∙◌}
use Rattle.std.specs.List.{AllByRecursion, range_with_len}
use Rattle.std.proofs.lemmas.List.{length-map}
use Rattle.frac_core.specs.Limits.{most_columns, most_rows}
use Rattle.data_frame.specs.Tables.{table_of as table_of_bytes}
use Rattle.data_frame.specs.Views.{exact_column, exact_table}
use Rattle.table_maker.specs.Tables.{table_of}
use Rattle.formula_grammar.specs.Faults.{NoFormulaHasFaults}
use Rattle.formula_grammar.specs.Grammar.{OneFormula}
use Rattle.formula_parser.specs.Parsed.{IsFault, IsParsed}
use Rattle.formula_parser.specs.declared.formula.Formula.{Formula}
use Rattle.formula_parser.specs.declared.fault.FormulaFault.{FormulaFault}
use Rattle.formula_parser.specs.declared.fault.FormulaFault.TheVariants as formulas
use Rattle.contrasts.specs.declared.Coding.{Coding}
use Rattle.design_matrix.specs.Cells.{Column, Table, kept}
use Rattle.design_matrix.specs.Designs.{design_of, exact_row}
use Rattle.design_matrix.specs.Faults.{HasCause as HasDesignCause, IsDesign}
use Rattle.design_matrix.specs.Parts.{column_name, columns_of}
use Rattle.design_matrix.specs.declared.design.Design.{Design}
use Rattle.design_matrix.specs.declared.design.DesignRow.{DesignRow}
use Rattle.design_matrix.specs.declared.fault.DesignFault.{DesignFault}
use Rattle.design_matrix.specs.declared.fault.DesignFault.TheVariants as designs
use Rattle.design_matrix.proofs.Lengths.{length-each}
use Rattle.tv_penalty.specs.Faults.{IsFirstFault, setting_of}
use Rattle.tv_penalty.specs.Faults.{HasCause as HasPenaltyCause}
use Rattle.tv_penalty.specs.declared.fault.PenaltyFault.{PenaltyFault}
use Rattle.tv_penalty.specs.Smoothings.{exact_penalty, exact_smoothing, part_of, smoothing_of}
use Rattle.tv_penalty.specs.declared.Smoothing.{Smoothing}
use Rattle.rq_program.specs.Faults.{HasCause as HasProgramCause}
use Rattle.rq_program.specs.declared.fault.ProgramFault.{ProgramFault}
use Rattle.rq_program.specs.declared.fault.ProgramFault.TheVariants as programs
use Rattle.rq_words.specs.declared.job.FitJob.{FitJob}
use Rattle.report_text.specs.declared.report.Refusal.{Refusal}
use Rattle.report_text.specs.declared.report.Refusal.TheVariants as refusals
use Rattle.report_text.specs.declared.report.Halt.TheVariants.{Refused}
use Rattle.rq_input.specs.Inputs.{AreTable, HasInputCause, HasTableCause, LacksProblem, LacksSmoothing}
use Rattle.rq_input.specs.Models.{IsSmoothed}
use Rattle.run_laws.proofs.GeneratedRecords.{header_fields, name_field}
use Rattle.run_laws.proofs.GeneratedCells.{IsFull, all_full, columns_number, generated_table, header_length, is_table, table_names, table_records}
use Rattle.run_laws.proofs.GeneratedFormula.{AreColumns, dot_formula, no_formula_fault, said}
use Rattle.run_laws.proofs.GeneratedDesign.{all_exact_full, kept_number, no_design_fault}
use Rattle.run_laws.proofs.GeneratedDesign.{columns_number as columns_few}
use Rattle.run_laws.specs.Faults.{GeneratedTablesHaveNoFault}
use Rattle.run_laws.proofs.Faultless.{read_once}

rows_of : (table : Table) (model : Formula) (coding : Coding) (weights : Option Column) (records : List ℕ) → length (design_of table model coding weights records).rows ≡ length records
unfolding design_of
rows_of table model coding weights records = length-each _ 0 records

names_of : (table : Table) (model : Formula) (coding : Coding) (weights : Option Column) (records : List ℕ) → length (design_of table model coding weights records).names ≡ length (columns_of table model coding records)
unfolding design_of
names_of table model coding weights records = length-map (columns_of table model coding records) column_name

-- no smooths add no rows and no columns
no_rows : (smoothing : Smoothing) (intercept : Bool) (rows : List DesignRow) → exact_smoothing smoothing ≡ smoothing_of intercept rows [] → length smoothing.rows ≡ 0
unfolding smoothing_of
no_rows smoothing intercept rows is = sym (length-map smoothing.rows exact_penalty) ∙ ap (λ s. length s.rows) is

no_names : (smoothing : Smoothing) (intercept : Bool) (rows : List DesignRow) → exact_smoothing smoothing ≡ smoothing_of intercept rows [] → length smoothing.names ≡ 0
unfolding smoothing_of
no_names smoothing intercept rows is = ap (λ s. length s.names) is

module _ (one : OneFormula) (none : NoFormulaHasFaults) (job : FitJob) (formula : job.formula ≡ dot_formula) (unweighted : job.weights ≡ None) (number rows n : ℕ) (some : 1 ≤ rows) (few : rows ≤ most_rows) (narrow : n ≤ 100) where
  module _ (table : Table) (is : AreTable (table_of number rows n) table) where
    same : exact_table table ≡ generated_table number rows n
    same = read_once (table_of_bytes (table_of number rows n)) (exact_table table) (generated_table number rows n) is (is_table number rows n few narrow)

    names : table.names ≡ header_fields n
    names = ap (λ t. t.names) same ∙ table_names number rows n

    full : AllByRecursion (IsFull rows) table.columns
    full = all_exact_full rows table.columns (subst (AllByRecursion (IsFull rows)) (sym (ap (λ t. t.columns) same)) (all_full number rows n))

    many : length table.columns ≡ length table.names
    many = sym (length-map table.columns exact_column) ∙ ap (λ t. length t.columns) same ∙ columns_number number rows n ∙ ap length (sym names)

    -- the formula that is fitted
    columns : (model : Formula) → IsParsed job.formula table.names model → AreColumns table.names model
    columns model parsed =
        subst (λ ns. AreColumns ns model) (sym names) (said (map name_field (range_with_len 1 n)) one model (subst (λ ns. IsParsed dot_formula ns model) names (subst (λ t. IsParsed t table.names model) formula parsed)))

    no_formula : (fault : FormulaFault) → fault ≢ formulas.OutOfMemory → ¬ IsFault job.formula table.names fault
    no_formula fault named h =
        no_formula_fault (map name_field (range_with_len 1 n)) one none fault named (subst (λ ns. IsFault dot_formula ns fault) names (subst (λ t. IsFault t table.names fault) formula h))

    records : table.records ≡ rows
    records = ap (λ t. t.records) same ∙ table_records number rows n

    first : get_or table.names 0 [] ≡ codes "y"
    first = ap (λ ns. get_or ns 0 []) names

    small : length table.names ≤ most_columns
    small = omega (arith, ap length names, header_length n, narrow)

    module _ (model : Formula) (parsed : IsParsed job.formula table.names model) where
      no_design : (fault : DesignFault) → fault ≢ designs.OutOfMemory → ¬ HasDesignCause table model job.coding job.weights fault
      no_design fault named h =
          no_design_fault table model job.coding rows some records full many first small (columns model parsed) fault named
          (subst (λ w. HasDesignCause table model job.coding w fault) unweighted h)

      no_smooth : (fault : PenaltyFault) → ¬ LacksSmoothing job table model fault
      no_smooth fault h = by h.cause
        where
          by : HasPenaltyCause true table h.design model fault → ⊥
          by (inl memory) = h.named memory
          by (inr found) = subst (λ ss. IsFirstFault (setting_of true table h.design model) 0 (length h.design.names) ss fault) (columns model parsed).smooths found

      module _ (design : Design) (smoothing : Smoothing) (designed : IsDesign table model job.coding None design) (smoothed : IsSmoothed table model design smoothing) where
        row_number : length design.rows ≤ most_rows
        row_number =
            let of = designed.design_is.exact in
            omega (
              arith,
              few,
              sym (length-map design.rows exact_row) ∙ ap (λ d. length d.rows) of
                  ∙ rows_of table model job.coding None (kept table model None),
              kept_number table model job.coding rows some records full many first small (columns model parsed),
            )

        column_number : length design.names ≤ most_columns
        column_number =
            let of = designed.design_is.exact in
            omega (arith, ap (λ d. length d.names) of ∙ names_of table model job.coding None (kept table model None), columns_few table model job.coding rows some records full many first small (columns model parsed) (kept table model None))

        nothing_added : exact_smoothing smoothing ≡ smoothing_of model.intercept design.rows []
        nothing_added = smoothed.added ∙ ap (λ ss. smoothing_of model.intercept design.rows (map (part_of true table design.rows) ss)) (columns model parsed).smooths

        no_program : (fault : ProgramFault) → fault ≢ programs.OutOfMemory → ¬ HasProgramCause design smoothing fault
        no_program programs.OutOfMemory named h = named refl
        no_program programs.TooManyRows named h = let added = no_rows smoothing model.intercept design.rows nothing_added in absurd (omega (arith, h, row_number, added))
        no_program programs.TooManyColumns named h = let added = no_names smoothing model.intercept design.rows nothing_added in absurd (omega (arith, h.1, column_number, added))

      no_problem : (fault : ProgramFault) → ¬ LacksProblem job table model fault
      no_problem fault h = no_program h.design h.smoothing (subst (λ w. IsDesign table model job.coding w h.design) unweighted h.designed) h.smoothed fault h.named h.cause

    no_table_cause : (refusal : Refusal) → ¬ HasTableCause job false table (Refused refusal)
    no_table_cause (refusals.Formula fault) h = no_formula fault h.0 h.1
    no_table_cause refusals.RankWithPenalty h = absurd (cc h.0)
    no_table_cause (refusals.Design fault) h = no_design h.model h.stated.parsed fault h.cause.0 h.cause.1
    no_table_cause (refusals.Penalty fault) h = no_smooth h.model h.stated.parsed fault h.cause
    no_table_cause (refusals.Program fault) h = no_problem h.model h.stated.parsed fault h.cause
    no_table_cause refusal h = h.cause

  pub none_wrong : (refusal : Refusal) → ¬ HasInputCause job false (table_of number rows n) (Refused refusal)
  none_wrong refusals.TooLong h = h
  none_wrong (refusals.Table fault) h = absurd (cc (sym h ∙ is_table number rows n few narrow))
  none_wrong refusal h = no_table_cause h.0 h.1 refusal h.2

-- a generated table of at least one record
pub no_fault : OneFormula → NoFormulaHasFaults → GeneratedTablesHaveNoFault
no_fault one none job number rows n refusal formula unweighted some few narrow = none_wrong one none job formula unweighted number rows n some few narrow refusal
