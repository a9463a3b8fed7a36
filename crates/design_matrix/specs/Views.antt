-- Inner. How contracts see what the code holds of variables and columns.
use Rattle.std.specs.Prelude.{◌≡◌, List, Option, Vec, map, option_map}
use Rattle.std.specs.declared.alloc.Global.{Global}
use Rattle.design_matrix.specs.declared.coded.Values.{Values as Held}
use Rattle.design_matrix.specs.declared.coded.Values.TheVariants as held
use Rattle.design_matrix.specs.declared.coded.CodedVariable.{CodedVariable as HeldCoded}
use Rattle.design_matrix.specs.declared.part.Part.{Part as HeldPart}
use Rattle.design_matrix.specs.declared.used.UsedColumns.{UsedColumns}
use Rattle.design_matrix.specs.declared.weights.Weights.{Weights}
use Rattle.data_frame.specs.Records.{Text}
use Rattle.data_frame.specs.Views.{lent_column}
use Rattle.formula_parser.specs.declared.formula.Formula.{Formula}
use Rattle.design_matrix.specs.Cells.{Column, Table, column_of, number_in, used_names, weights_in}
use Rattle.design_matrix.specs.Computed.{arith_at}
use Rattle.design_matrix.specs.CodedVariable.{CodedVariable, Values, categorical, numeric}
use Rattle.design_matrix.specs.Parts.{Part, part_of}

-- the values of a variable
abbrev pub values_seen : Held → Values
values_seen (held.Numbers cells records) = numeric (map (number_in cells.now) records.now)
values_seen (held.Levels levels) = categorical levels.texts.items levels.places.items
values_seen (held.Computed c) = numeric (map (arith_at c.frame.now c.arith.now) c.records.now)

-- a variable of a term
abbrev pub coded_seen : HeldCoded → CodedVariable
coded_seen v = record { name = v.name; coding = v.coding; values = values_seen v.values }

-- one of its columns
abbrev pub part_seen : HeldPart → Part
part_seen p = part_of (coded_seen p.variable.now) p.column

-- the terms, variable by variable
abbrev pub terms_seen : List (Vec HeldCoded Global) → List (List CodedVariable)
terms_seen terms = map (λ vs. map coded_seen vs.items) terms

-- the columns of the design, part by part
abbrev pub columns_seen : List (Vec HeldPart Global) → List (List Part)
columns_seen columns = map (λ parts. map part_seen parts.items) columns

-- the column of the weights
abbrev pub weights_seen : Weights → Option Column
weights_seen weights = option_map lent_column weights.column

-- these are the columns that the formula and the weights use
pub record AreUsed (table : Table) (model : Formula) (weights : Option Text) (used : UsedColumns) : Type 0 where
  pub response : lent_column used.response ≡ column_of table model.response
  pub weights_are : weights_seen used.weights ≡ weights_in table weights
  pub columns : map lent_column used.columns.items ≡ map (column_of table) (used_names model weights)
