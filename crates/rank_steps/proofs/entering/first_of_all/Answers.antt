-- The line has the numbers of the station, and its rows move as they do there.
use Rattle.std.proofs.Common.{◌<◌, length, sym, subst, ◌∙◌, ℤ}
use Rattle.whole_inverse.specs.Squares.{WholeSquare}
use Rattle.whole_solution.specs.declared.basis.WholeBasis.{WholeBasis}
use Rattle.whole_steps.proofs.Lines.{full_line, moving_is}
use Rattle.rank_steps.proofs.entering.first_of_all.Goals as goal

pub some_mover-requires : goal.some_mover-requires
some_mover-requires c = full_line c.args.station.now c.args.position c.args.direction c.in_ok-numbers.numbers _ c.line.ensures (c.in_ok-numbers.ensures {u = tt}) c.as_slice.ensures c.as_slice-2.ensures

pub first_mover-requires-clause-full : goal.first_mover-requires-clause-full
first_mover-requires-clause-full c = full_line c.args.station.now c.args.position c.args.direction c.in_ok-numbers.numbers _ c.line.ensures (c.in_ok-numbers.ensures {u = tt}) c.as_slice.ensures c.as_slice-2.ensures

pub first_mover-requires-clause-some : goal.first_mover-requires-clause-some
first_mover-requires-clause-some c =
    let moving = rw (c.in-Some.is) at c.some_mover.ensures in
    (c.in-Some.field-0, moving.0, moving.1)

pub returns-in-None : goal.returns-in-None
returns-in-None c i li =
    let none = rw (c.in-None.is) at c.some_mover.ensures in
    sym (moving_is c.args.station.now c.args.position c.args.direction c.line.result c.line.ensures i) ∙ none i (subst (λ (b : WholeBasis ℤ WholeSquare). i < length b.rows.now) (sym c.line.ensures.basis) li)
