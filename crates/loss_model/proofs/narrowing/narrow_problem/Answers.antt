use Rattle.std.proofs.Common.{◌≡◌, map, ap, ◌∙◌}
use Rattle.frac_core.specs.Values.{narrow_value, value as wide_value}
use Rattle.loss_model.specs.Widths.{row_by}
use Rattle.loss_model.proofs.Narrowed.{shaped_alike, rows_fit}
use Rattle.loss_model.proofs.narrowing.narrow_problem.Goals as goal

pub returns-in-Ok-clause-shaped : goal.returns-in-Ok-clause-shaped
returns-in-Ok-clause-shaped c =
    let same : map (row_by narrow_value) c.in-Ok.rows ≡ map (row_by wide_value) c.args.problem.now.rows = (c.in-Ok.ensures {u = tt}).same ∙ ap (map (row_by wide_value)) c.as_slice.ensures in
    shaped_alike c.args.problem.now c.in-Ok.rows same c.requires

pub returns-in-Ok-clause-refused : goal.returns-in-Ok-clause-refused
returns-in-Ok-clause-refused c =
    let same : map (row_by narrow_value) c.in-Ok.rows ≡ map (row_by wide_value) c.args.problem.now.rows = (c.in-Ok.ensures {u = tt}).same ∙ ap (map (row_by wide_value)) c.as_slice.ensures in
    (λ e all. cc e, λ refused. absurd (refused (rows_fit c.args.problem.now.rows c.in-Ok.rows same)))
