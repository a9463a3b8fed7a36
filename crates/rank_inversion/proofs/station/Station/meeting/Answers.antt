use Rattle.std.proofs.Common.{refl, sym, ap, ◌∙◌}
use Rattle.std.proofs.lemmas.Result.{err_from_is_err_and}
use Rattle.rank_walk_model.specs.Crossings.{bound_towards}
use Rattle.rank_steps.specs.Ways.{way_of}
use Rattle.rank_inversion.specs.Courses.{tau_of}
use Rattle.rank_inversion.specs.Stations.{sample_at, entries_at}
use Rattle.rank_steps.proofs.Directions.{moving_some}
use Rattle.rank_inversion.proofs.StationLaws.{dual_read, meeting_is, gap_spill, quotient_spill}
use Rattle.rank_inversion.proofs.station.Station.meeting.Goals as goal

pub returns-in_err-gap-clause-spill : goal.returns-in_err-gap-clause-spill
returns-in_err-gap-clause-spill g c =
    let value = g.F.Exact.value in
    let v = c.args.self.now in
    let bound_is = (c.in_ok-bound.ensures {u = tt}).exact ∙ ap (λ i. bound_towards (sample_at value v) (tau_of value v.course) i c.args.direction) c.row_at.ensures.row in
    let dual_is = dual_read value v c.requires.station c.args.position c.index-as_slice-position.result c.requires.position (rw c.as_slice.ensures at c.index-as_slice-position.is) in
    let returned = err_from_is_err_and c.from_residual-in_err-gap.result c.from_residual-in_err-gap.ensures.1 in
    let refused = c.in_err-gap.ensures {u = tt} in
    let operands = rw (c.new-site.ensures, c.number_of.ensures) at refused.operands in
    rw (returned.1, returned.2)
    (gap_spill value v c.requires.station c.args.position c.args.direction c.in_ok-bound.bound c.index-as_slice-position.result c.args.entry bound_is dual_is c.requires.entry g.F.Exact.range _ operands (refused.refused.0 refl))

pub over_at-requires-after_bounds : goal.over_at-requires-after_bounds
over_at-requires-after_bounds g c κs within =
    let value = g.F.Exact.value in
    let v = c.args.self.now in
    λ e. moving_some (way_of v.course.way) (entries_at value v v.course.column c.args.position) c.args.direction c.requires.moves (sym c.requires.entry ∙ e)

pub returns-in_err-weight-clause-spill : goal.returns-in_err-weight-clause-spill
returns-in_err-weight-clause-spill g c =
    let value = g.F.Exact.value in
    let v = c.args.self.now in
    let bound_is = (c.in_ok-bound.ensures {u = tt}).exact ∙ ap (λ i. bound_towards (sample_at value v) (tau_of value v.course) i c.args.direction) c.row_at.ensures.row in
    let dual_is = dual_read value v c.requires.station c.args.position c.index-as_slice-position.result c.requires.position (rw c.as_slice.ensures at c.index-as_slice-position.is) in
    let returned = err_from_is_err_and c.from_residual-in_err-weight.result c.from_residual-in_err-weight.ensures.1 in
    let refused = c.in_err-weight.ensures {u = tt} in
    let operands = rw (c.new-site.ensures, c.number_of.ensures) at refused.operands in
    rw (returned.1, returned.2)
    (quotient_spill value v c.requires.station c.args.position c.args.direction c.in_ok-bound.bound c.index-as_slice-position.result c.args.entry bound_is dual_is c.requires.entry
    c.in_ok-gap.gap (c.in_ok-gap.ensures {u = tt}).exact c.requires.moves g.F.Exact.range _ operands (refused.refused.0 refl))

pub returns-clause-exact : goal.returns-clause-exact
returns-clause-exact g c =
    let value = g.F.Exact.value in
    let v = c.args.self.now in
    let bound_is = (c.in_ok-bound.ensures {u = tt}).exact ∙ ap (λ i. bound_towards (sample_at value v) (tau_of value v.course) i c.args.direction) c.row_at.ensures.row in
    let dual_is = dual_read value v c.requires.station c.args.position c.index-as_slice-position.result c.requires.position (rw c.as_slice.ensures at c.index-as_slice-position.is) in
    meeting_is value v c.requires.station c.args.position c.args.direction c.in_ok-bound.bound c.index-as_slice-position.result c.args.entry bound_is dual_is c.requires.entry
    c.in_ok-gap.gap c.in_ok-weight.weight c.turned.result (c.in_ok-gap.ensures {u = tt}).exact (c.in_ok-weight.ensures {u = tt}).exact c.turned.ensures
