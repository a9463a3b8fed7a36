use Rattle.rank_inversion.proofs.Inverted.{fall_limit, fall_spill}
use Rattle.rank_inversion.proofs.inversion.Inversion.fall_stop.Goals as goal

pub limit_stop-requires-after_bounds : goal.limit_stop-requires-after_bounds
limit_stop-requires-after_bounds g c κs within =
    let h = c.requires.halted in
    fall_limit g.F.Exact.value c.args.self.now c.requires.ready c.args.rise c.requires.risen c.in-PivotLimit.steps h.left h.count (rw c.in-PivotLimit.is at h.halted) g.F.Exact.range

pub spill_stop-requires-after_bounds : goal.spill_stop-requires-after_bounds
spill_stop-requires-after_bounds g c κs within =
    let h = c.requires.halted in
    fall_spill g.F.Exact.value c.args.self.now c.requires.ready c.args.rise c.requires.risen c.in-Overflow.steps h.left c.in-Overflow.spill g.F.Exact.range h.count (rw c.in-Overflow.is at h.halted)
