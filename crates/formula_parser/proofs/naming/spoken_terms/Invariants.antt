use Rattle.std.proofs.Common.{◌≡◌, ◌++◌, drop, map}
use Rattle.formula_parser.specs.Parsed.{spoken_term}
use Rattle.formula_parser.proofs.naming.spoken_terms.Given as goal

abbrev pub invariant-loop-term : goal.invariant-loop-term
invariant-loop-term l = l.all ++ map (spoken_term l.scope.names.now l.scope.ariths.now l.variables) (drop l.term-index l.terms) ≡ map (spoken_term l.scope.names.now l.scope.ariths.now l.variables) l.terms
