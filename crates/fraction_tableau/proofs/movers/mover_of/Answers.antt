use Rattle.std.proofs.Common.{rules, ◌<◌, length, refl, sym, subst}
use Rattle.std.proofs.lemmas.Result.{err_from_is_err_and}
use Rattle.tableau_model.proofs.Lists.{value_read}
use Rattle.fraction_tableau.proofs.Moving.{mover_is, ratio_spill, size_some}
use Rattle.fraction_tableau.proofs.movers.mover_of.Goals as goal

pub over_at-requires : goal.over_at-requires
over_at-requires g c = (search rules, (search rules, size_some g.F.Exact.value c.args.line.now c.args.candidate.row c.args.candidate.coord c.absolute-size.result c.requires.coord c.requires.moves c.absolute-size.ensures))

pub returns-clause-mover : goal.returns-clause-mover
returns-clause-mover g c =
    let value = g.F.Exact.value in
    let l = c.args.line.now in
    let within : c.args.candidate.row < length l.residuals.now = subst (λ n. c.args.candidate.row < n) (sym c.requires.line.size) c.requires.row in
    let read = value_read value l.residuals.now c.args.candidate.row c.index-line-row.result within c.index-line-row.is in
    mover_is value l c.args.candidate.row c.args.candidate.side c.args.candidate.coord c.index-line-row.result c.in_ok-ratio.ratio c.on_side.result c.absolute-size.result
    c.requires.line c.requires.row c.requires.side c.requires.coord c.requires.moves read c.absolute-size.ensures (rw (← c.index-line-row.is) at (c.in_ok-ratio.ensures {u = tt}).exact) c.on_side.ensures

pub returns-in_err-ratio-clause-spill : goal.returns-in_err-ratio-clause-spill
returns-in_err-ratio-clause-spill g c =
    let value = g.F.Exact.value in
    let l = c.args.line.now in
    let within : c.args.candidate.row < length l.residuals.now = subst (λ n. c.args.candidate.row < n) (sym c.requires.line.size) c.requires.row in
    let read = value_read value l.residuals.now c.args.candidate.row c.index-line-row.result within c.index-line-row.is in
    let returned = err_from_is_err_and c.from_residual.result c.from_residual.ensures.1 in
    let refused = c.in_err-ratio.ensures {u = tt} in
    let operands = rw (c.new-site.ensures, ← c.index-line-row.is) at refused.operands in
    let over = rw (← c.index-line-row.is) at (refused.refused.0 refl) in
    rw (returned.1, returned.2)
    (ratio_spill value l g.F.Exact.range c.args.candidate.row c.args.candidate.coord c.index-line-row.result c.absolute-size.result c.in_err-ratio.field-0.0 c.requires.line c.requires.row c.requires.coord c.requires.moves read
    c.absolute-size.ensures operands over)
