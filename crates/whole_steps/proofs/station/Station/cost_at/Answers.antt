-- The cost of the row that was read.
use Rattle.std.proofs.Common.{rules, ◌≡◌, length, to_z, of_z, w64, ap, ◌∙◌}
use Rattle.whole_steps.specs.Stations.{model, cost_part}
use Rattle.whole_steps.proofs.Parts.{cost_read}
use Rattle.whole_steps.proofs.station.Station.cost_at.Goals as goal

pub returns : goal.returns
returns c =
    let b = c.args.self.now.basis.now in
    let plain : to_z w64 (of_z w64 c.cost.result) ≡ c.cost.result = search rules in
    rw (plain) (c.cost.ensures
    ∙ cost_read (length b.inverse.now.columns) b.rows.now c.row_at-row.result c.index-rows-row.result c.args.part c.args.direction c.row_at-row.ensures.within c.index-rows-row.is
    ∙ ap (cost_part (model c.args.self.now) c.args.part c.args.direction) c.row_at-row.ensures.row)
