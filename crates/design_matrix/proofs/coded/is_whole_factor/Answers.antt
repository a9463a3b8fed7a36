use Rattle.std.proofs.Common.{ap, length, ◌∙◌}
use Rattle.std.specs.List.{list_all}
use Rattle.design_matrix.specs.CodedVariable.{is_factor, is_whole_factor}
use Rattle.design_matrix.proofs.Steps.{one_no, one_yes}
use Rattle.design_matrix.proofs.coded.is_whole_factor.Goals as goal

pub returns-then-variables-ne1 : goal.returns-then-variables-ne1
unfolding is_whole_factor
returns-then-variables-ne1 c = one_no _ _ _ (ap length c.as_slice-variables.ensures) c.if-variables-ne1.true

pub returns : goal.returns
unfolding is_whole_factor
returns c =
    one_yes _ _ _ _ (ap length c.as_slice-variables.ensures) c.if-variables-ne1.false
    (c.are_factors.ensures ∙ ap (list_all (is_factor c.args.frame.now)) c.as_slice-variables.ensures)
