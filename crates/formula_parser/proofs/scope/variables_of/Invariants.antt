use Rattle.std.proofs.Common.{◌≡◌, [], drop, flat_map}
use Rattle.formula_parser.specs.Scope.{each_once, loaded}
use Rattle.formula_parser.proofs.scope.variables_of.Given as goal

abbrev pub invariant-loop-step : goal.invariant-loop-step
invariant-loop-step l =
    each_once l.found.items (flat_map (loaded l.scope.text.now l.scope.names.now l.scope.others.now l.scope.ariths.now) (drop l.step-index l.steps))
    ≡ each_once [] (flat_map (loaded l.scope.text.now l.scope.names.now l.scope.others.now l.scope.ariths.now) l.steps)
