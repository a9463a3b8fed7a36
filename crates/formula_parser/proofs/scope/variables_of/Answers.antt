use Rattle.formula_parser.proofs.Mentions.{step_loaded}
use Rattle.formula_parser.proofs.scope.variables_of.Goals as goal

pub loop-step-preserved : goal.loop-step-preserved
loop-step-preserved c = step_loaded _ _ _ _ _ _ _ c.loop-step-test.true c.step-item.is c.in_ok-found.ensures c.loop-step.invariant
