use Rattle.std.proofs.Common.{◌≡◌, map, take}
use Rattle.predict_steps.specs.Predictions.{along, pieces}
use Rattle.predict_steps.proofs.prediction.steps.Given as goal

abbrev pub invariant-loop-number : goal.invariant-loop-number
invariant-loop-number g l = pieces l.made ≡ map (along g.F.Exact.value l.x l.offsets) (take l.number l.segments)
