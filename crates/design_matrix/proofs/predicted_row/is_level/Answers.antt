use Rattle.std.proofs.Common.{ap, map, ◌∙◌}
use Rattle.design_matrix.proofs.Known.{level_is}
use Rattle.design_matrix.proofs.predicted_row.is_level.Goals as goal

pub returns : goal.returns
returns g c =
    level_is g.T.Cell.order (λ r. r.now) c.deref.result.now c.args.cells.now c.args.kept.now c.args.index c.in-Some.wanted.now _
    (ap (map (λ r. r.now)) c.deref.ensures.value ∙ c.in_ok-levels.ensures) c.in-Some.ensures c.is_among.ensures
