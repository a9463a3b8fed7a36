use Rattle.std.proofs.Common.{sym, ap, ◌∙◌}
use Rattle.pivot_model.specs.Steps.{is_towards}
use Rattle.fraction_tableau.proofs.Moving.{moving_is, below_skip, below_more}
use Rattle.fraction_tableau.proofs.movers.offer.Goals as goal

pub mover_of-requires-clause-moves : goal.mover_of-requires-clause-moves
mover_of-requires-clause-moves g c κs within =
    moving_is g.F.Exact.value c.args.line.now c.args.candidate.row c.args.candidate.side c.args.candidate.coord c.requires.side c.requires.coord ∙ sym (c.goes_towards.ensures ∙ ap (is_towards c.args.candidate.side) c.change.ensures)
    ∙ c.if-goes_towards.true

pub returns-else-goes_towards-clause-found : goal.returns-else-goes_towards-clause-found
returns-else-goes_towards-clause-found g c =
    below_skip g.F.Exact.value c.args.line.now c.args.candidate.row c.args.found.now.items c.requires.found
    (moving_is g.F.Exact.value c.args.line.now c.args.candidate.row c.args.candidate.side c.args.candidate.coord c.requires.side c.requires.coord ∙ sym (c.goes_towards.ensures ∙ ap (is_towards c.args.candidate.side) c.change.ensures)
    ∙ c.if-goes_towards.false)

pub returns-in-Ok-clause-found : goal.returns-in-Ok-clause-found
returns-in-Ok-clause-found g c =
    let made = c.in_ok-mover.ensures {u = tt} in
    below_more g.F.Exact.value c.args.line.now c.args.candidate.row c.args.found.now.items c.push.new.self.items c.in_ok-mover.mover c.requires.found made.mover made.row (c.in-Ok.ensures {u = tt}).items
