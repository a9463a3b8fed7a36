use Rattle.std.proofs.Common.{subst}
use Rattle.design_matrix.specs.Faults.{IsDesign}
use Rattle.rq_input.specs.declared.input.Input.{Input}
use Rattle.rq_input.proofs.Inputs.{has_rows, no_rows, together}
use Rattle.rq_input.proofs.Intercepts.{has_intercept}
use Rattle.rq_input.proofs.input.model_input.Goals as goal

pub problem-requires : goal.problem-requires
problem-requires c = together c.args.model.now c.in-Ok.design c.in-Ok-qss_rows.smoothing c.in-Ok.ensures.shape c.in-Ok-qss_rows.ensures.shape

pub returns-in-Ok-problem-clause-rows : goal.returns-in-Ok-problem-clause-rows
returns-in-Ok-problem-clause-rows c =
    let input : Input = record { design = c.in-Ok.design; smoothing = c.in-Ok-qss_rows.smoothing; problem = c.in-Ok-problem.problem } in
    let both = together c.args.model.now c.in-Ok.design c.in-Ok-qss_rows.smoothing c.in-Ok.ensures.shape c.in-Ok-qss_rows.ensures.shape in
    has_rows input both c.in-Ok-problem.ensures.shaped c.in-Ok-problem.ensures.data_rows c.in-Ok.ensures.shape.weighted c.in-Ok-qss_rows.ensures.shape.weighted

pub returns-in-Ok-problem-clause-unpenalised : goal.returns-in-Ok-problem-clause-unpenalised
returns-in-Ok-problem-clause-unpenalised c =
    λ none. no_rows c.args.frame.now c.in-Ok.design c.args.model.now c.in-Ok-qss_rows.smoothing c.in-Ok-qss_rows.ensures.rows none

pub returns-in-Ok-problem-clause-intercept : goal.returns-in-Ok-problem-clause-intercept
returns-in-Ok-problem-clause-intercept c =
    let input : Input = record { design = c.in-Ok.design; smoothing = c.in-Ok-qss_rows.smoothing; problem = c.in-Ok-problem.problem } in
    let both = together c.args.model.now c.in-Ok.design c.in-Ok-qss_rows.smoothing c.in-Ok.ensures.shape c.in-Ok-qss_rows.ensures.shape in
    let rows = has_rows input both c.in-Ok-problem.ensures.shaped c.in-Ok-problem.ensures.data_rows c.in-Ok.ensures.shape.weighted c.in-Ok-qss_rows.ensures.shape.weighted in
    has_intercept c.args.job.now c.args.frame.now c.args.model.now input (subst (λ weights. IsDesign c.args.frame.now c.args.model.now c.args.job.now.coding weights input.design) c.weights_of.ensures c.in-Ok.ensures.design)
    c.in-Ok-problem.ensures.rows rows c.in-Ok.ensures.shape.rows
