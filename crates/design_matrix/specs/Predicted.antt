-- Stated. The records that are predicted, and their rows by the levels of the kept records.
use Rattle.std.specs.Prelude.{◌≡◌, ◌⊎◌, ◌+◌, ◌-◌, ◌++◌, ◌&&◌, ℕ, Bool, true, false, not}
use Rattle.std.specs.Prelude.{List, [], ◌∷◌, Option, Some, None, is_none, filter, length, map, if◌then◌else◌}
use Rattle.std.specs.List.{list_any, range_with_len}
use Rattle.std.specs.Option.{option_map_or}
use Rattle.std.specs.Ordering.{is_eq}
use Rattle.std.specs.declared.cmp.Ordering.{Ordering}
use Rattle.contrasts.specs.declared.Coding.{Coding}
use Rattle.frac_core.specs.declared.frac128.Frac128.{Frac128}
use Rattle.frac_core.specs.Values.{exact}
use Rattle.loss_model.specs.declared.spill.Spill.{Spill}
use Rattle.data_frame.specs.Cells.{numbers, factor, too_wide}
use Rattle.formula_parser.specs.declared.formula.Formula.{Formula}
use Rattle.formula_parser.specs.declared.formula.Variable.{Variable}
use Rattle.design_matrix.specs.declared.design.Design.{Design}
use Rattle.design_matrix.specs.declared.design.PredictRow.{PredictRow}
use Rattle.design_matrix.specs.declared.fault.DesignFault.{DesignFault}
use Rattle.design_matrix.specs.declared.fault.DesignFault.TheVariants.{OutOfMemory, Overflow, UnknownLevel}
use Rattle.design_matrix.specs.Cells.{Column, Table, cell_of, column_of, is_complete, is_present, predictor_names, present}
use Rattle.design_matrix.specs.CodedVariable.{printed_name}
use Rattle.design_matrix.specs.Designs.{ArithsFit, OverflowsInAriths, OverflowsInRow, RowFits}
use Rattle.design_matrix.specs.Computed.{expressions, offsets_at}
use Rattle.design_matrix.specs.Levels.{levels_of, number_order, text_order}
use Rattle.design_matrix.specs.Lists.{first_some}
use Rattle.design_matrix.specs.Parts.{Part, column_name, columns_of, factors}
use Rattle.design_matrix.specs.Products.{product}

-- a response is missing, and none of the columns that explain it misses its cell
abbrev pub is_asked : Column → List Column → ℕ → Bool
is_asked response columns i = not (is_present response i) && is_complete columns i

-- so the record is predicted; records are counted from 0 here
abbrev pub is_predicted : Table → Formula → ℕ → Bool
is_predicted table model i = is_asked (column_of table model.response) (map (column_of table) (predictor_names model)) i

-- the records that are predicted, counted from 1
unfoldable pub predicted : Table → Formula → List ℕ
predicted table model = map (λ i. i + 1) (filter (is_predicted table model) (range_with_len 0 table.records))

-- the records of a design's rows, counted from 0
abbrev pub kept_in : Design → List ℕ
kept_in design = map (λ r. r.rec - 1) design.rows

-- a cell that is there is a level of these records
abbrev pub is_level : {K : Type 0} → (K → K → Ordering) → List (Option K) → List ℕ → ℕ → Bool
is_level order cells records i = option_map_or (λ x. list_any (λ y. is_eq (order y x)) (levels_of order (present cells records))) (cell_of cells i) true

-- the cell of record i is no level of these records: a column of numbers has levels where `factor` was written
abbrev pub is_unknown : Bool → Column → List ℕ → ℕ → Bool
is_unknown as_factor (factor cells) records i = not (is_level text_order cells records i)
is_unknown true (numbers cells) records i = not (is_level number_order cells records i)
is_unknown false (numbers cells) records i = false
is_unknown as_factor (too_wide rec) records i = false

-- so it has no entry in the columns of this variable, which is no arithmetic
abbrev pub lacks_entry : Table → List ℕ → ℕ → Variable → Bool
lacks_entry table records i v = is_none v.arith && is_unknown v.as_factor (column_of table v.name) records i

-- the fault of a variable of which a record has no entry
abbrev pub unknown_fault : Table → List ℕ → ℕ → Variable → Option DesignFault
unknown_fault table records i v = if lacks_entry table records i v then Some (UnknownLevel (i + 1) (printed_name v.as_factor v.name)) else None

-- the first such variable, by terms and then by variables
unfoldable pub unknown_level : Table → Formula → List ℕ → ℕ → Option DesignFault
unknown_level table model records i = first_some (λ t. first_some (unknown_fault table records i) t.variables) model.terms

-- the columns of the design of these records, with record i behind them: its cells are levels of theirs, so it adds none
abbrev pub columns_with : Table → Formula → Coding → List ℕ → ℕ → List (List Part)
columns_with table model coding records i = columns_of table model coding (records ++ i ∷ [])

-- The row of a record, counted from 1: its columns are called as those of the records' design, the entry of each is the product
-- of its parts at the record, the offsets are as they are valued there, and no operation overflows.
pub record IsPredictRow (table : Table) (model : Formula) (coding : Coding) (records : List ℕ) (rec : ℕ) (row : PredictRow) : Type 0 where
  pub known : unknown_level table model records (rec - 1) ≡ None
  pub named : row.rec ≡ rec
  pub columns : map column_name (columns_with table model coding records (rec - 1)) ≡ map column_name (columns_of table model coding records)
  pub entries : map exact row.x ≡ map (λ column. product (factors column (length records))) (columns_with table model coding records (rec - 1))
  pub offsets : map exact row.offsets ≡ offsets_at table model.offsets (rec - 1)
  pub computed : ArithsFit table (expressions model) (rec - 1)
  pub fits : RowFits (columns_with table model coding records (rec - 1)) (length records)

-- an operation of the row overflows: the first, by arithmetics and then by entries
pub data OverflowsInPrediction (table : Table) (model : Formula) (coding : Coding) (records : List ℕ) (rec : ℕ) (s : Spill Frac128) : Type 0 where
  in_ariths : OverflowsInAriths table (expressions model) (rec - 1) s → OverflowsInPrediction table model coding records rec s
  in_entries : ArithsFit table (expressions model) (rec - 1) → OverflowsInRow (columns_with table model coding records (rec - 1)) (length records) rec s
      → OverflowsInPrediction table model coding records rec s

-- Why a record has no row. Want of memory has no cause here; an overflow is looked for last.
abbrev pub HasRowCause : Table → Formula → Coding → List ℕ → ℕ → DesignFault → Type 0
HasRowCause table model coding records rec fault =
    (fault ≡ OutOfMemory)
    ⊎ ((unknown_level table model records (rec - 1) ≡ Some fault)
    ⊎ ((unknown_level table model records (rec - 1) ≡ None)
    × ((s : Spill Frac128) × (fault ≡ Overflow s) × OverflowsInPrediction table model coding records rec s)))
