use Rattle.std.proofs.Common.{◌≡◌, ◌++◌, drop, map}
use Rattle.formula_parser.specs.Arithmetics.{op_of}
use Rattle.formula_parser.proofs.arithmetics.code_of.Given as goal

abbrev pub invariant-loop-step : goal.invariant-loop-step
invariant-loop-step l =
    l.code ++ map (op_of l.source.text.now l.source.names.now l.names) (drop l.step-index l.steps) ≡ map (op_of l.source.text.now l.source.names.now l.names) l.steps
