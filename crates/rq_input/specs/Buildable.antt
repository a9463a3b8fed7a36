-- Inner. What a formula that was read for the names of a table keeps, so that its design can be built.
use Rattle.std.specs.Prelude.{List, All}
use Rattle.data_frame.specs.Records.{Text}
use Rattle.formula_parser.specs.Held.{IsHeld, ariths_of}
use Rattle.formula_parser.specs.Laws.{IsCountable}
use Rattle.formula_parser.specs.declared.formula.Formula.{Formula}

-- its parts can be counted, and its arithmetics can be evaluated and have these names
pub record IsBuildable (names : List Text) (model : Formula) : Type 0 where
  pub counted : IsCountable model
  pub held : All (IsHeld names) (ariths_of model)
