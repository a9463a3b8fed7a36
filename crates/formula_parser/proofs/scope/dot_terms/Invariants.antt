use Rattle.std.proofs.Common.{◌≡◌, ◌++◌, drop}
use Rattle.formula_parser.specs.Scope.{dot_terms}
use Rattle.formula_parser.proofs.scope.dot_terms.Given as goal

abbrev pub invariant-loop-column : goal.invariant-loop-column
invariant-loop-column l = l.all ++ dot_terms l.variables (drop l.column-index l.others) ≡ dot_terms l.variables l.others
