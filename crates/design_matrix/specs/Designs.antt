-- Stated. The design of a table and a formula.
use Rattle.std.specs.Prelude.{◌≡◌, ◌<◌, ◌≤◌, ℕ, ◌+◌, ◌-◌, ◌^◌, List, [], ◌∷◌, Option, Some, length, map, min, pos, All, slice_get, slice_index_or, take}
use Rattle.rational_laws.specs.Rational.{ℚ, ◌-ℚ◌, whole}
use Rattle.contrasts.specs.declared.Coding.{Coding}
use Rattle.frac_core.specs.declared.arith.Arith.{Arith}
use Rattle.frac_core.specs.declared.exact.Op.{Op}
use Rattle.frac_core.specs.declared.exact.OpKind.{OpKind}
use Rattle.frac_core.specs.declared.exact.OpKind.TheVariants.{Mul, Sub}
use Rattle.frac_core.specs.declared.frac128.Frac128.{Frac128}
use Rattle.frac_core.specs.Values.{exact, value}
use Rattle.loss_model.specs.declared.spill.Quantity.TheVariants.{ArithValue, DesignEntry, OffsetResponse}
use Rattle.loss_model.specs.declared.spill.Site.{Site}
use Rattle.loss_model.specs.declared.spill.Spill.{Spill}
use Rattle.loss_model.specs.Spill.{IsOperation}
use Rattle.data_frame.specs.Records.{Text}
use Rattle.formula_arith.specs.Evaluations.{IsFirstOverflow, NoneOverflows}
use Rattle.formula_arith.specs.Values.{Operation}
use Rattle.formula_parser.specs.declared.formula.Formula.{Formula}
use Rattle.design_matrix.specs.declared.design.Design.{Design}
use Rattle.design_matrix.specs.declared.design.DesignRow.{DesignRow}
use Rattle.design_matrix.specs.Lists.{each}
use Rattle.design_matrix.specs.Cells.{Column, Table, column_of, number_at, weight_at}
use Rattle.design_matrix.specs.Computed.{arith_operations, expressions, less, offsets_at}
use Rattle.design_matrix.specs.Parts.{Part, column_name, columns_of, factors}
use Rattle.design_matrix.specs.Products.{Fits, FitUpTo, product}

-- a row of a design: the number of its record, its entries, its response and its weight
pub record RowOf : Type 0 where
  pub rec : ℕ
  pub x : List ℚ
  pub y : ℚ
  pub weight : ℚ

-- a design: the names of its columns, its rows, and the number of the records that are no rows
pub record DesignOf : Type 0 where
  pub names : List Text
  pub rows : List RowOf
  pub dropped : ℕ

-- the response of a record: its number less the value of each offset in turn
abbrev pub response_at : Table → Column → List Arith → ℕ → ℚ
response_at table response offsets i = less (number_at response i) (offsets_at table offsets i)

-- the row of a kept record, at its place among those
abbrev pub row_of : Table → Column → List Arith → Option Column → List (List Part) → ℕ → ℕ → RowOf
row_of table response offsets weights columns place i = record {
  rec = i + 1;
  x = map (λ column. product (factors column place)) columns;
  y = response_at table response offsets i;
  weight = weight_at weights i;
}

-- the design of a table and a formula under a coding, with these weights, where these records are kept
unfoldable pub design_of : Table → Formula → Coding → Option Column → List ℕ → DesignOf
design_of table model coding weights records = record {
  names = map column_name (columns_of table model coding records);
  rows = each (row_of table (column_of table model.response) model.offsets weights (columns_of table model coding records)) 0 records;
  dropped = table.records - length records;
}

-- a design with the values of its numbers
abbrev pub exact_row : DesignRow → RowOf
exact_row row = record { rec = row.rec; x = map exact row.x; y = exact row.y; weight = exact row.weight }

-- the same of a whole design
abbrev pub exact_design : Design → DesignOf
exact_design design = record { names = design.names; rows = map exact_row design.rows; dropped = design.dropped }

-- no product of the row at a place overflows
abbrev pub RowFits : List (List Part) → ℕ → Type 0
RowFits columns place = All (λ column. Fits (factors column place)) columns

-- the site of the product of the first factors of an entry, as many as the term, and the next one
abbrev pub entry_site : ℕ → ℕ → ℕ → Site
entry_site rec column term = record { quantity = DesignEntry; first = rec; second = column; third = 0; term = term; kind = Mul }

-- the first product of a column's parts that overflows at a place, at the record and the column of these numbers
pub record OverflowsInColumn (parts : List Part) (place rec column : ℕ) (spill : Spill Frac128) : Type 0 where
  pub term : ℕ
  pub some : 1 ≤ term
  pub more : term < length (factors parts place)
  pub first : FitUpTo (factors parts place) term
  pub operation : IsOperation value (2 ^ 127 - 1) (entry_site rec column term) (product (take term (factors parts place)))
      (slice_index_or (factors parts place) term (whole (pos 0))) spill

-- a product of the row at a place overflows, and it is of the first such column
pub record OverflowsInRow (columns : List (List Part)) (place rec : ℕ) (spill : Spill Frac128) : Type 0 where
  pub column : ℕ
  pub there : column < length columns
  pub first : OverflowsInColumn (slice_index_or columns column []) place rec column spill
  pub before : RowFits (take column columns) place

-- no operation of these arithmetics overflows in a record
abbrev pub ArithsFit : Table → List Arith → ℕ → Type 0
ArithsFit table ariths i = All (λ a. NoneOverflows (arith_operations table a i)) ariths

-- the site of an operation of the arithmetic at a place
abbrev pub arith_site : ℕ → ℕ → ℕ → OpKind → Site
arith_site rec place term kind = record { quantity = ArithValue; first = rec; second = min place (2 ^ 32 - 1); third = 0; term = term; kind = kind }

-- an operation of the arithmetics overflows in a record: the first, by arithmetics
pub record OverflowsInAriths (table : Table) (ariths : List Arith) (i : ℕ) (spill : Spill Frac128) : Type 0 where
  pub place : ℕ
  pub arith : Arith
  pub there : slice_get ariths place ≡ Some arith
  pub before : ArithsFit table (take place ariths) i
  pub term : ℕ
  pub op : Op Frac128
  pub first : IsFirstOverflow (arith_operations table arith i) term op
  pub is : spill ≡ record { site = arith_site (i + 1) place term op.kind; left = op.left; right = op.right }

-- a subtraction by its operands
abbrev pub subtraction : ℚ → ℚ → Operation
subtraction left right = record { kind = Sub; left = left; right = right }

-- those of a number less others, in turn
abbrev pub subtractions : ℚ → List ℚ → List Operation
subtractions y [] = []
subtractions y (x ∷ xs) = subtraction y x ∷ subtractions (y -ℚ x) xs

-- no subtraction of a response overflows
abbrev pub ResponseFits : ℚ → List ℚ → Type 0
ResponseFits y xs = NoneOverflows (subtractions y xs)

-- the site of the subtraction of an offset's value, by its place
abbrev pub offset_site : ℕ → ℕ → Site
offset_site rec place = record { quantity = OffsetResponse; first = rec; second = 0; third = 0; term = min (place + 1) (2 ^ 32 - 1); kind = Sub }

-- a subtraction of a response overflows: the first
pub record OverflowsInResponse (y : ℚ) (xs : List ℚ) (rec : ℕ) (spill : Spill Frac128) : Type 0 where
  pub place : ℕ
  pub there : place < length xs
  pub before : ResponseFits y (take place xs)
  pub operation : IsOperation value (2 ^ 127 - 1) (offset_site rec place) (less y (take place xs)) (slice_index_or xs place (whole (pos 0))) spill

-- no operation of a record overflows, at its place among those that are kept
pub record RecordFits (table : Table) (model : Formula) (columns : List (List Part)) (place i : ℕ) : Type 0 where
  pub ariths : ArithsFit table (expressions model) i
  pub response : ResponseFits (number_at (column_of table model.response) i) (offsets_at table model.offsets i)
  pub entries : RowFits columns place

-- an operation of a record overflows: the first, by its arithmetics, then the response, then the entries
pub data OverflowsInRecord (table : Table) (model : Formula) (columns : List (List Part)) (place i : ℕ) (spill : Spill Frac128) : Type 0 where
  in_ariths : OverflowsInAriths table (expressions model) i spill → OverflowsInRecord table model columns place i spill
  in_response : ArithsFit table (expressions model) i
      → OverflowsInResponse (number_at (column_of table model.response) i) (offsets_at table model.offsets i) (i + 1) spill
      → OverflowsInRecord table model columns place i spill
  in_entries : ArithsFit table (expressions model) i
      → ResponseFits (number_at (column_of table model.response) i) (offsets_at table model.offsets i)
      → OverflowsInRow columns place (i + 1) spill → OverflowsInRecord table model columns place i spill

-- the same of the kept records, and it is the first such record
pub record OverflowsFirst (table : Table) (model : Formula) (columns : List (List Part)) (records : List ℕ) (spill : Spill Frac128) : Type 0 where
  pub place : ℕ
  pub there : place < length records
  pub here : OverflowsInRecord table model columns place (slice_index_or records place 0) spill
  pub before : (q : ℕ) → q < place → RecordFits table model columns q (slice_index_or records q 0)

-- no operation of the kept records overflows
abbrev pub AllFit : Table → Formula → List (List Part) → List ℕ → Type 0
AllFit table model columns records = (q : ℕ) → q < length records → RecordFits table model columns q (slice_index_or records q 0)
