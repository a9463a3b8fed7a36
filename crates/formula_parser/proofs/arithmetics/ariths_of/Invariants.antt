use Rattle.std.proofs.Common.{◌≡◌, [], drop}
use Rattle.formula_parser.specs.Arithmetics.{ariths_from}
use Rattle.formula_parser.proofs.arithmetics.ariths_of.Given as goal

abbrev pub invariant-loop-step : goal.invariant-loop-step
invariant-loop-step l =
    ariths_from l.source.text.now l.source.names.now l.found (drop l.step-index l.steps) ≡ ariths_from l.source.text.now l.source.names.now [] l.steps
