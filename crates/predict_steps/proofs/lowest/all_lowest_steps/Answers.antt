use Rattle.std.proofs.Common.{All, subst, take_all}
use Rattle.std.proofs.lemmas.List.Elements.{All-more}
use Rattle.predict_steps.specs.LowestSteps.{IsLowestStep}
use Rattle.predict_steps.proofs.lowest.all_lowest_steps.Goals as goal

pub loop-step-preserved : goal.loop-step-preserved
loop-step-preserved c =
    All-more IsLowestStep c.args.steps.now _ c.step-item.result c.loop-step-test.true c.loop-step.invariant (subst IsLowestStep c.step-item.is c.lowest_step.ensures)

pub returns : goal.returns
returns c = subst (λ l. All IsLowestStep l) (take_all _ _ c.loop-step-test.false) c.loop-step.invariant
