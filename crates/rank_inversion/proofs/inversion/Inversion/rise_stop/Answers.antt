use Rattle.rank_inversion.proofs.Inverted.{rise_limit, rise_spill}
use Rattle.rank_inversion.proofs.inversion.Inversion.rise_stop.Goals as goal

pub limit_stop-requires-after_bounds : goal.limit_stop-requires-after_bounds
limit_stop-requires-after_bounds g c κs within =
    let h = c.requires.halted in
    rise_limit g.F.Exact.value c.args.self.now c.requires.ready c.in-PivotLimit.steps c.new.result h.left c.new.ensures h.count (rw c.in-PivotLimit.is at h.halted) g.F.Exact.range

pub spill_stop-requires-after_bounds : goal.spill_stop-requires-after_bounds
spill_stop-requires-after_bounds g c κs within =
    let h = c.requires.halted in
    rise_spill g.F.Exact.value c.args.self.now c.requires.ready c.in-Overflow.steps c.new-in-Overflow.result h.left c.in-Overflow.spill g.F.Exact.range c.new-in-Overflow.ensures h.count (rw c.in-Overflow.is at h.halted)
