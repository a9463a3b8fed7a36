use Rattle.fraction_tableau.proofs.Inverses.{has_basis}
use Rattle.fraction_tableau.proofs.fractions.FractionTableau.solution.Goals as goal

pub basic_solution-requires-clause-basis : goal.basic_solution-requires-clause-basis
basic_solution-requires-clause-basis g c κs within =
    let t = c.self.inside in
    has_basis g.F.Exact.value t.problem.now t.basis.rows t.inverse c.self.invariant.inverse

pub returns-clause-spill : goal.returns-clause-spill
returns-clause-spill g c = rw (← c.self.view_is) c.basic_solution.ensures.spill
