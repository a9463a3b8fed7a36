use Rattle.std.proofs.Common.{◌-◌, length, map, ap, ◌∙◌}
use Rattle.nested_test.specs.Restricted.{restricted_row}
use Rattle.nested_test.proofs.Restrictions.{restricted_shaped, short_rows}
use Rattle.nested_test.proofs.restriction.restricted.Goals as goal

pub restricted_rows-requires-after_bounds : goal.restricted_rows-requires-after_bounds
restricted_rows-requires-after_bounds g c κs within = short_rows c.args.full.now _ c.requires.shaped c.as_slice.ensures

pub returns-clause-shaped : goal.returns-clause-shaped
returns-clause-shaped g c =
    restricted_shaped c.args.tested.now c.args.full.now _ c.requires.shaped c.requires.tested c.requires.left
    (λ i. record {
      columns = c.args.full.now.columns - length c.args.tested.now;
      rows = (c.in_ok-rows.ensures {u = tt} ∙ ap (map (restricted_row c.args.tested.now)) c.as_slice.ensures) i;
    })
