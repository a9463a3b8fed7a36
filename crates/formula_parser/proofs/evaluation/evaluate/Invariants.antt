use Rattle.std.proofs.Common.{◌≡◌, [], drop}
use Rattle.formula_parser.specs.Scope.{arith_term, dot_terms, named_term}
use Rattle.formula_parser.specs.Stack.{exec}
use Rattle.formula_parser.proofs.evaluation.evaluate.Given as goal

abbrev pub invariant-loop-step : goal.invariant-loop-step
invariant-loop-step l =
    exec (named_term l.scope.text.now l.scope.names.now l.variables) (arith_term l.scope.text.now l.scope.names.now l.scope.ariths.now l.variables) (dot_terms l.variables l.scope.others.now) (drop l.step-index l.steps) l.stack
    ≡ exec (named_term l.scope.text.now l.scope.names.now l.variables) (arith_term l.scope.text.now l.scope.names.now l.scope.ariths.now l.variables) (dot_terms l.variables l.scope.others.now) l.steps []
