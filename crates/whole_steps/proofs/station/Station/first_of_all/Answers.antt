-- The row that moves at the station moves on the line.
use Rattle.std.proofs.Common.{◌<◌, length, sym, subst, ◌∙◌, ℤ}
use Rattle.whole_inverse.specs.Squares.{WholeSquare}
use Rattle.whole_solution.specs.declared.basis.WholeBasis.{WholeBasis}
use Rattle.whole_steps.proofs.Lines.{moving_is}
use Rattle.whole_steps.proofs.station.Station.first_of_all.Goals as goal

pub first_mover-requires-clause-some : goal.first_mover-requires-clause-some
first_mover-requires-clause-some c =
    let row = c.requires.some in (
      row.0,
      subst (λ (b : WholeBasis ℤ WholeSquare). row.0 < length b.rows.now) (sym c.line.ensures.basis) row.1,
      moving_is c.args.self.now c.args.position c.args.direction c.line.result c.line.ensures row.0 ∙ row.2,
    )
