use Rattle.std.proofs.Common.{ap, inr, sym, ◌∙◌}
use Rattle.design_matrix.specs.CodedVariable.{printed_name}
use Rattle.design_matrix.specs.Predicted.{unknown_fault}
use Rattle.design_matrix.proofs.Firsts.{next_found, next_none}
use Rattle.design_matrix.proofs.Predicting.{unknown_found, unknown_none}
use Rattle.design_matrix.proofs.predicted_row.check_variables.Goals as goal

pub returns-then-branch-clause-fault : goal.returns-then-branch-clause-fault
returns-then-branch-clause-fault c =
    inr (next_found (unknown_fault c.args.frame.now c.args.kept.now c.args.index) c.args.variables.now _ _ _ c.loop-variable-test.true c.variable-item.is c.loop-variable.invariant
    (unknown_found c.args.frame.now c.args.kept.now c.args.index c.variable-item.result _ (sym c.in_ok-is_unknown.ensures ∙ c.if-branch.true)
    (c.in_ok-print_name.ensures ∙ ap (printed_name c.variable-item.result.as_factor) c.as_str.ensures)))

pub loop-variable-preserved : goal.loop-variable-preserved
loop-variable-preserved c =
    next_none (unknown_fault c.args.frame.now c.args.kept.now c.args.index) c.args.variables.now _ _ c.loop-variable-test.true c.variable-item.is c.loop-variable.invariant
    (unknown_none c.args.frame.now c.args.kept.now c.args.index c.variable-item.result (sym c.in_ok-is_unknown.ensures ∙ c.if-branch.false))
