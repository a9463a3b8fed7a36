use Rattle.std.specs.Ordering.{is_gt}
use Rattle.std.proofs.Common.{refl, ap, ◌∙◌}
use Rattle.std.proofs.lemmas.Result.{err_from_is_err_and}
use Rattle.gram_matrix.proofs.Rows.{operation}
use Rattle.frac_core.specs.declared.exact.OpKind.TheVariants.{Mul}
use Rattle.loss_model.specs.declared.spill.Quantity.TheVariants.{Statistic}
use Rattle.loss_model.specs.Spill.{site_of}
use Rattle.fraction_tableau.specs.Lines.{IsOrderSpill}
use Rattle.fraction_tableau.proofs.Refusals.{short_weaker}
use Rattle.rank_inversion.specs.Nexts.{IsSpillHere}
use Rattle.rank_inversion.specs.Stations.{sample_at, rows_at, entries_at}
use Rattle.rank_inversion.proofs.StationLaws.{crossings_spill, square_spill, past_here, stuck_here, step_here, order_spill}
use Rattle.rank_inversion.proofs.station.Station.found.Goals as goal

pub returns-in-Err-clause-spill : goal.returns-in-Err-clause-spill
returns-in-Err-clause-spill g c =
    crossings_spill g.F.Exact.value c.args.self.now c.requires.station c.args.from g.F.Exact.range c.in-Err.spill (c.in-Err.ensures {u = tt}).spill

pub returns-in_err-square-clause-spill : goal.returns-in_err-square-clause-spill
returns-in_err-square-clause-spill g c =
    let value = g.F.Exact.value in
    let weight = c.turned-weight.result in
    let returned = err_from_is_err_and c.from_residual.result c.from_residual.ensures.1 in
    let refused = c.in_err-square.ensures {u = tt} in
    let operands = rw c.new.ensures at refused.operands in
    rw (returned.1, returned.2)
    (square_spill value c.args.self.now c.requires.station c.args.from c.in-Ok.next (c.in-Ok.ensures {u = tt}).exact weight weight c.turned-weight.ensures g.F.Exact.range _
    (operation value g.F.Exact.range (site_of Statistic 0 0 1) Mul weight weight _ _ _ operands (refused.refused.0 refl) refl refl))

pub returns-then-is_gt-clause-found : goal.returns-then-is_gt-clause-found
returns-then-is_gt-clause-found g c =
    past_here g.F.Exact.value c.args.self.now c.requires.station c.args.from c.in-Ok.next (c.in-Ok.ensures {u = tt}).exact c.turned-weight.result c.in_ok-square.square c.turned-weight.ensures
    (c.in_ok-square.ensures {u = tt}).exact c.is_gt.result (c.is_gt.ensures ∙ ap is_gt c.compare.ensures) c.if-is_gt.true

pub returns-in-Ok-Some-clause-found : goal.returns-in-Ok-Some-clause-found
returns-in-Ok-Some-clause-found g c =
    step_here g.F.Exact.value c.args.self.now c.requires.station c.args.from c.in-Ok.next (c.in-Ok.ensures {u = tt}).exact c.turned-weight.result c.in_ok-square.square c.turned-weight.ensures
    (c.in_ok-square.ensures {u = tt}).exact c.is_gt.result (c.is_gt.ensures ∙ ap is_gt c.compare.ensures) c.if-is_gt.false c.in-Ok-Some.row
    (rw c.in-Ok-Some.field-0-is at (c.in-Ok-Some.ensures {u = tt}).first)

pub returns-in-Ok-None-clause-found : goal.returns-in-Ok-None-clause-found
returns-in-Ok-None-clause-found g c =
    stuck_here g.F.Exact.value c.args.self.now c.requires.station c.args.from c.in-Ok.next (c.in-Ok.ensures {u = tt}).exact c.turned-weight.result c.in_ok-square.square c.turned-weight.ensures
    (c.in_ok-square.ensures {u = tt}).exact c.is_gt.result (c.is_gt.ensures ∙ ap is_gt c.compare.ensures) c.if-is_gt.false
    (rw c.in-Ok-None.field-0-is at (c.in-Ok-None.ensures {u = tt}).first)

pub returns-in-Err-first_mover-clause-spill : goal.returns-in-Err-first_mover-clause-spill
returns-in-Err-first_mover-clause-spill g c =
    let value = g.F.Exact.value in
    let range = g.F.Exact.range in
    let v = c.args.self.now in
    short_weaker (IsOrderSpill value range (sample_at value v) (rows_at value v) (entries_at value v) c.in-Ok.next.position c.in-Ok.next.direction) (IsSpillHere value range v c.args.from)
    (order_spill value v c.requires.station c.args.from c.in-Ok.next (c.in-Ok.ensures {u = tt}).exact c.turned-weight.result c.in_ok-square.square c.turned-weight.ensures
    (c.in_ok-square.ensures {u = tt}).exact c.is_gt.result (c.is_gt.ensures ∙ ap is_gt c.compare.ensures) c.if-is_gt.false range) _ (c.in-Err-first_mover.ensures {u = tt}).spill
