use Rattle.std.proofs.Common.{All, take}
use Rattle.predict_steps.specs.LowestSteps.{IsLowestStep}
use Rattle.predict_steps.proofs.lowest.all_lowest_steps.Given as goal

abbrev pub invariant-loop-step : goal.invariant-loop-step
invariant-loop-step l = All IsLowestStep (take l.step-index l.steps)
