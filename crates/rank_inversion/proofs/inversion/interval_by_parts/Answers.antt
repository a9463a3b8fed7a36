use Rattle.rank_inversion.proofs.inversion.interval_by_parts.Goals as goal

pub by_parts-requires-clause-asked : goal.by_parts-requires-clause-asked
by_parts-requires-clause-asked g c κs within =
    record { shaped = c.requires.shaped; column = c.requires.column; tau_above = c.requires.tau_above; tau_below = c.requires.tau_below; crit = c.requires.crit; data_rows = c.requires.data }
