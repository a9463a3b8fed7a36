use Rattle.fraction_tableau.proofs.Places.{kept_is_place}
use Rattle.tableau.proofs.bodies.Tableau.basis.Goals as goal

pub returns-in-Fractions-clause-place : goal.returns-in-Fractions-clause-place
returns-in-Fractions-clause-place g c = rw c.in-Fractions.is (kept_is_place g.F.Exact.value c.in-Fractions.body c.basis.ensures.kept)
