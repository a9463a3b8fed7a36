-- Stated. Why a table, a formula and weights have no design: the faults in the order in which they are looked for.
use Rattle.std.specs.Prelude.{◌≡◌, ◌⊎◌, ◌==◌, ◌&&◌, ◌+◌, ℕ, not, Bool, List, Option, Some, None, is_some, length, option_and_then, nat_lt, if◌then◌else◌}
use Rattle.std.specs.List.{range_with_len}
use Rattle.std.specs.Option.{option_or}
use Rattle.std.specs.Ordering.{is_lt}
use Rattle.contrasts.specs.declared.Coding.{Coding}
use Rattle.frac_core.specs.declared.frac128.Frac128.{Frac128}
use Rattle.frac_core.specs.Limits.{most_columns}
use Rattle.loss_model.specs.declared.spill.Spill.{Spill}
use Rattle.data_frame.specs.Cells.{numbers, factor, too_wide}
use Rattle.data_frame.specs.Records.{Text}
use Rattle.data_frame.specs.Tables.{column_named}
use Rattle.frac_core.specs.declared.arith.Arith.{Arith}
use Rattle.formula_arith.specs.declared.fault.ArithFault.{ArithFault}
use Rattle.formula_arith.specs.declared.fault.ArithFault.TheVariants as arith_fault
use Rattle.formula_parser.specs.Held.{ariths_of}
use Rattle.formula_parser.specs.declared.formula.Formula.{Formula}
use Rattle.design_matrix.specs.declared.design.Design.{Design}
use Rattle.design_matrix.specs.declared.fault.DesignFault.{DesignFault}
use Rattle.design_matrix.specs.declared.fault.DesignFault.TheVariants.{OutOfMemory, UnknownWeights, ResponseNotNumeric, WeightNotNumeric}
use Rattle.design_matrix.specs.declared.fault.DesignFault.TheVariants.{ArithNotNumeric, NumberTooWide, NegativeWeight, NoRows}
use Rattle.design_matrix.specs.declared.fault.DesignFault.TheVariants.{OneLevel, NoColumns, TooManyColumns, Overflow}
use Rattle.design_matrix.specs.Cells.{Column, Table, column_of, kept, used_names, weight_sign, weights_in}
use Rattle.design_matrix.specs.CodedVariable.{CodedVariable, coded_terms, is_text, width}
use Rattle.design_matrix.specs.Designs.{AllFit, OverflowsFirst, arith_site, design_of, exact_design}
use Rattle.design_matrix.specs.Lists.{first_some}
use Rattle.design_matrix.specs.Parts.{columns_of}

-- no column has the name of the weights
abbrev pub name_fault : Table → Text → Option DesignFault
name_fault table name = if is_some (column_named name table) then None else Some UnknownWeights

-- a column of numbers, the response or the weights, is a factor
abbrev pub factor_fault : DesignFault → Column → Option DesignFault
factor_fault fault column = if is_text column then Some fault else None

-- a name of an arithmetic is that of a factor
abbrev pub named_fault : Table → Text → Option DesignFault
named_fault table name = factor_fault (ArithNotNumeric name) (column_of table name)

-- the first such name, by arithmetics and then by their names
unfoldable pub ariths_fault : Table → List Arith → Option DesignFault
ariths_fault table ariths = first_some (λ a. first_some (named_fault table) a.names) ariths

-- a column has a number that is too wide
abbrev pub wide_fault : Text → Column → Option DesignFault
wide_fault name (numbers cells) = None
wide_fault name (factor cells) = None
wide_fault name (too_wide rec) = Some (NumberTooWide rec name)

-- the first of these columns with a number that is too wide
unfoldable pub widths_fault : Table → List Text → Option DesignFault
widths_fault table names = first_some (λ name. wide_fault name (column_of table name)) names

-- the weight of a record is below 0
abbrev pub weight_fault : Option Column → ℕ → Option DesignFault
weight_fault weights i = if is_lt (weight_sign weights i) then Some (NegativeWeight (i + 1)) else None

-- the first such record of so many, kept or not
unfoldable pub weights_fault : Option Column → ℕ → Option DesignFault
weights_fault weights records = first_some (weight_fault weights) (range_with_len 0 records)

-- the first fault of the columns that are used
unfoldable pub used_fault : Table → Formula → Option Text → Option DesignFault
used_fault table model weights =
    option_or (option_and_then (name_fault table) weights)
    (option_or (factor_fault ResponseNotNumeric (column_of table model.response))
    (option_or (option_and_then (factor_fault WeightNotNumeric) (weights_in table weights))
    (option_or (ariths_fault table (ariths_of model))
    (option_or (widths_fault table (used_names model weights)) (weights_fault (weights_in table weights) table.records)))))

-- no record is kept
abbrev pub rows_fault : List ℕ → Option DesignFault
rows_fault records = if length records == 0 then Some NoRows else None

-- a variable without a column: a factor of one level that is coded by contrasts
abbrev pub level_fault : CodedVariable → Option DesignFault
level_fault v = if width v == 0 then Some (OneLevel v.name) else None

-- the first such variable, by terms and then by variables
unfoldable pub levels_fault : List CodedVariable → Option DesignFault
levels_fault vs = first_some level_fault vs

-- the first of all variables without a column
unfoldable pub terms_fault : List (List CodedVariable) → Option DesignFault
terms_fault terms = first_some levels_fault terms

-- there is neither intercept nor terms nor smooths
abbrev pub lacks_columns : Formula → Bool
lacks_columns model = not model.intercept && ((length model.terms == 0) && (length model.smooths == 0))

-- so there is nothing to fit
abbrev pub empty_fault : Formula → Option DesignFault
empty_fault model = if lacks_columns model then Some NoColumns else None

-- there are more than 128 columns
abbrev pub columns_fault : ℕ → Option DesignFault
columns_fault columns = if nat_lt most_columns columns then Some TooManyColumns else None

-- the first fault of the design's columns, at the records that are kept
unfoldable pub late_fault : Table → Formula → Coding → List ℕ → Option DesignFault
late_fault table model coding records =
    option_or (terms_fault (coded_terms table model coding records))
    (option_or (empty_fault model) (columns_fault (length (columns_of table model coding records))))

-- the first fault but for operations that overflow
unfoldable pub fault_of : Table → Formula → Coding → Option Text → Option DesignFault
fault_of table model coding weights =
    option_or (used_fault table model weights)
    (option_or (rows_fault (kept table model weights)) (late_fault table model coding (kept table model weights)))

-- the fault of the arithmetic at a place that has no value in a record
abbrev pub refusal : ℕ → ℕ → ArithFault → DesignFault
refusal i place arith_fault.OutOfMemory = OutOfMemory
refusal i place (arith_fault.Overflow term op) = Overflow (record { site = arith_site (i + 1) place term op.kind; left = op.left; right = op.right })

-- an operation overflows: the first by record, and in a record by the arithmetics, then the response, then the entries by
-- column and by the number of their factors
pub record IsOverflow (table : Table) (model : Formula) (coding : Coding) (records : List ℕ) (fault : DesignFault) : Type 0 where
  pub spill : Spill Frac128
  pub is : fault ≡ Overflow spill
  pub first : OverflowsFirst table model (columns_of table model coding records) records spill

-- the design is that of these records with these weights, and no operation overflows
pub record HasDesign (table : Table) (model : Formula) (coding : Coding) (weights : Option Column) (records : List ℕ) (design : Design) : Type 0 where
  pub exact : exact_design design ≡ design_of table model coding weights records
  pub fits : AllFit table model (columns_of table model coding records) records

-- the design is that of the table, the formula and the weights, and nothing is wrong with these
pub record IsDesign (table : Table) (model : Formula) (coding : Coding) (weights : Option Text) (design : Design) : Type 0 where
  pub sound : fault_of table model coding weights ≡ None
  pub design_is : HasDesign table model coding (weights_in table weights) (kept table model weights) design

-- Why there is no design. Want of memory has no cause here; an overflow is looked for last.
abbrev pub HasCause : Table → Formula → Coding → Option Text → DesignFault → Type 0
HasCause table model coding weights fault =
    (fault ≡ OutOfMemory)
    ⊎ ((fault_of table model coding weights ≡ Some fault)
    ⊎ ((fault_of table model coding weights ≡ None) × IsOverflow table model coding (kept table model weights) fault))

-- the same where the faults before those of the design's columns are ruled out
abbrev pub HasLateCause : Table → Formula → Coding → List ℕ → DesignFault → Type 0
HasLateCause table model coding records fault =
    (fault ≡ OutOfMemory)
    ⊎ ((late_fault table model coding records ≡ Some fault)
    ⊎ ((late_fault table model coding records ≡ None) × IsOverflow table model coding records fault))
