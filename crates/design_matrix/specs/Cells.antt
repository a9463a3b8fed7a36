-- Stated. The columns that a formula and weights use, and the records that are kept. Records are counted from 0 here.
use Rattle.std.specs.Prelude.{ℕ, ◌++◌, ◌&&◌, Bool, false, List, [], ◌∷◌, Option, Some}
use Rattle.std.specs.Prelude.{None, is_some, map, option_map, option_to_list, pos, filter, slice_index_or, unwrap_or}
use Rattle.std.specs.List.{filter_map, flat_map, list_all, range_with_len}
use Rattle.std.specs.Option.{option_map_or}
use Rattle.std.specs.Ordering.{is_ne}
use Rattle.std.specs.declared.cmp.Ordering.{Ordering}
use Rattle.rational_laws.specs.Order.{cmp_ℚ}
use Rattle.rational_laws.specs.Rational.{ℚ, whole}
use Rattle.frac_core.specs.declared.frac128.Frac128.{Frac128}
use Rattle.data_frame.specs.Cells.{ColumnOf, numbers, factor, too_wide}
use Rattle.data_frame.specs.Records.{Text}
use Rattle.data_frame.specs.Tables.{TableOf, column_named}
use Rattle.frac_core.specs.declared.arith.Arith.{Arith}
use Rattle.frac_core.specs.Values.{exact}
use Rattle.formula_parser.specs.declared.formula.Formula.{Formula}
use Rattle.formula_parser.specs.declared.formula.Term.{Term}

-- a table as the program holds it
abbrev pub Table : Type 0
Table = TableOf Frac128

-- one of its columns
abbrev pub Column : Type 0
Column = ColumnOf Frac128

-- the column of a name; one that the table hasn't is a factor without cells
unfoldable pub column_of : Table → Text → Column
column_of table name = unwrap_or (column_named name table) (factor [])

-- the cell of a record
abbrev pub cell_of : {K : Type 0} → List (Option K) → ℕ → Option K
cell_of cells i = slice_index_or cells i None

-- the cell of a record isn't missing
abbrev pub is_present : Column → ℕ → Bool
is_present (numbers cells) i = is_some (cell_of cells i)
is_present (factor cells) i = is_some (cell_of cells i)
is_present (too_wide rec) i = false

-- the number of a record, or 0 where there is none
abbrev pub number_in : List (Option Frac128) → ℕ → ℚ
number_in cells i = option_map_or exact (cell_of cells i) (whole (pos 0))

-- the same in a column, where a factor has no numbers
abbrev pub number_at : Column → ℕ → ℚ
number_at (numbers cells) i = number_in cells i
number_at (factor cells) i = whole (pos 0)
number_at (too_wide rec) i = whole (pos 0)

-- the cells of these records, without those that are missing
abbrev pub present : {K : Type 0} → List (Option K) → List ℕ → List K
present cells records = filter_map (cell_of cells) records

-- the name of a variable's column, or the names of its arithmetic
abbrev pub names_by : Text → Option Arith → List Text
names_by name None = name ∷ []
names_by name (Some a) = a.names

-- the names of the columns of a term's variables
abbrev pub term_names : Term → List Text
term_names t = flat_map (λ v. names_by v.name v.arith) t.variables

-- the names of the columns that explain: the variables by terms and then by variables, the offsets, and the smooths
abbrev pub predictor_names : Formula → List Text
predictor_names model = flat_map term_names model.terms ++ (flat_map (λ a. a.names) model.offsets ++ map (λ s. s.name) model.smooths)

-- the names of the columns that are used: the response, the weights, and those that explain
unfoldable pub used_names : Formula → Option Text → List Text
used_names model weights = model.response ∷ option_to_list weights ++ predictor_names model

-- the column of the weights, where there are weights
abbrev pub weights_in : Table → Option Text → Option Column
weights_in table weights = option_map (column_of table) weights

-- the weight of a record, which is 1 without weights
abbrev pub weight_at : Option Column → ℕ → ℚ
weight_at None i = whole (pos 1)
weight_at (Some column) i = number_at column i

-- how it compares with 0
abbrev pub weight_sign : Option Column → ℕ → Ordering
weight_sign weights i = cmp_ℚ (weight_at weights i) (whole (pos 0))

-- none of these columns misses the cell of the record
abbrev pub is_complete : List Column → ℕ → Bool
is_complete columns i = list_all (λ column. is_present column i) columns

-- so it is kept, unless its weight is 0
abbrev pub is_kept : List Column → Option Column → ℕ → Bool
is_kept columns weights i = is_complete columns i && is_ne (weight_sign weights i)

-- the records that are kept
unfoldable pub kept : Table → Formula → Option Text → List ℕ
kept table model weights =
    filter (is_kept (map (column_of table) (used_names model weights)) (weights_in table weights)) (range_with_len 0 table.records)
