use Rattle.std.proofs.Common.{ap, zip, ◌∙◌}
use Rattle.rational_laws.specs.Rational.{◌+ℚ◌}
use Rattle.tv_penalty.specs.Variation.{penalty}
use Rattle.rq_program.specs.Losses.{records_loss, smooth_part}
use Rattle.rq_input.proofs.laws.loss_is_variation.Goals as goal

pub returns : goal.returns
returns c job ranked table model input theta b stated is rows =
    let smooth = smooth_part input.design b in
    c.loss_is_penalised.ensures input.design input.smoothing input.problem theta b rows.together rows.shaped is.problem.rows
    ∙ ap (λ z. records_loss (zip input.design.rows input.smoothing.columns) theta b smooth +ℚ z)
    (ap (λ s. penalty s.rows smooth) is.smoothed.added ∙ c.penalty_is_variation.ensures table input.design model smooth (c.lambdas_are_not_negative.ensures job.formula table.names model stated.parsed))
