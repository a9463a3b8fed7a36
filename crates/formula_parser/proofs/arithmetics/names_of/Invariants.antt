use Rattle.std.proofs.Common.{◌≡◌, [], drop}
use Rattle.formula_parser.specs.Arithmetics.{names_from}
use Rattle.formula_parser.proofs.arithmetics.names_of.Given as goal

abbrev pub invariant-loop-step : goal.invariant-loop-step
invariant-loop-step l =
    names_from l.source.text.now l.source.names.now l.found (drop l.step-index l.steps) ≡ names_from l.source.text.now l.source.names.now [] l.steps
