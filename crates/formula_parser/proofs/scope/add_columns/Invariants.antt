use Rattle.std.proofs.Common.{◌≡◌, drop, false, map}
use Rattle.formula_parser.specs.Scope.{each_once, variable}
use Rattle.formula_parser.proofs.scope.add_columns.Given as goal

abbrev pub invariant-loop-column : goal.invariant-loop-column
invariant-loop-column l = each_once l.found.items (map (λ c. variable c false) (drop l.column-index l.columns)) ≡ each_once l.fn.found.items (map (λ c. variable c false) l.columns)
