use Rattle.tableau_model.specs.Slopes.{IsLeast}
use Rattle.whole_steps.specs.Stations.{model, at_of, inverse_at}
use Rattle.whole_steps.specs.Quantiles.{theta_of, number_over}
use Rattle.whole_steps.specs.Leavings.{scale_of, leaving_of}
use Rattle.whole_steps.proofs.leaving.steepest.Given as goal

abbrev pub invariant-loop-position : goal.invariant-loop-position
invariant-loop-position l = IsLeast (number_over (scale_of l.station l.theta)) (model l.station) (at_of l.station) (inverse_at l.station) (theta_of l.theta) l.position (leaving_of l.least)
