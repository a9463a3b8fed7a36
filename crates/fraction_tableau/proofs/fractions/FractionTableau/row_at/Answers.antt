use Rattle.fraction_tableau.proofs.Inverses.{basis_of}
use Rattle.fraction_tableau.proofs.fractions.FractionTableau.row_at.Goals as goal

pub returns-clause-within : goal.returns-clause-within
returns-clause-within g c =
    let t = c.self.inside in
    rw (c.as_slice.ensures, ← c.self.view_is)
    ((basis_of g.F.Exact.value t.problem.now t.basis.rows t.inverse c.self.invariant.inverse).distinct.within c.args.position (rw (← c.self.view_is) at c.requires))
