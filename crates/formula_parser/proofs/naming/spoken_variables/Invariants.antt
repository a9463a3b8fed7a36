use Rattle.std.proofs.Common.{◌≡◌, ◌++◌, drop, map}
use Rattle.formula_parser.specs.Parsed.{spoken_variable}
use Rattle.formula_parser.proofs.naming.spoken_variables.Given as goal

abbrev pub invariant-loop-one : goal.invariant-loop-one
invariant-loop-one l = l.all ++ map (spoken_variable l.names l.ariths) (drop l.one-index l.variables) ≡ map (spoken_variable l.names l.ariths) l.variables
