use Rattle.std.proofs.Common.{ap, length, ◌∙◌}
use Rattle.design_matrix.specs.CodedVariable.{coded_variable}
use Rattle.design_matrix.specs.Lists.{each}
use Rattle.design_matrix.specs.Views.{coded_seen}
use Rattle.design_matrix.proofs.Lengths.{each_length}
use Rattle.design_matrix.proofs.Steps.{each_all, each_told}
use Rattle.design_matrix.proofs.coded.Coder.term.Goals as goal

pub loop-place-preserved : goal.loop-place-preserved
loop-place-preserved c =
    each_told coded_seen
    (coded_variable c.args.self.now.frame.now c.args.self.now.model.now c.args.self.now.contrasts c.args.self.now.records.now c.args.number c.as_slice-variables.result.now)
    _ _ _ _ _ _ c.loop-place-test.true c.index-variables-place.is c.loop-place.invariant c.in_ok-push.ensures.items c.in_ok-variable.ensures

pub returns-clause-coded : goal.returns-clause-coded
returns-clause-coded c =
    each_all _ _ _ _ c.loop-place-test.false c.loop-place.invariant
    ∙ ap (λ l. each (coded_variable c.args.self.now.frame.now c.args.self.now.model.now c.args.self.now.contrasts c.args.self.now.records.now c.args.number l) 0 l) c.as_slice-variables.ensures

pub returns-clause-counted : goal.returns-clause-counted
returns-clause-counted c =
    each_length coded_seen
    (coded_variable c.args.self.now.frame.now c.args.self.now.model.now c.args.self.now.contrasts c.args.self.now.records.now c.args.number c.as_slice-variables.result.now)
    _ _ (each_all _ _ _ _ c.loop-place-test.false c.loop-place.invariant)
    ∙ ap length c.as_slice-variables.ensures
