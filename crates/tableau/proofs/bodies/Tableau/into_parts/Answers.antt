use Rattle.std.proofs.Common.{refl}
use Rattle.tableau.specs.Bodies.{place_of}
use Rattle.tableau.proofs.bodies.Tableau.into_parts.Goals as goal

pub returns-in-Err-clause-refused : goal.returns-in-Err-clause-refused
returns-in-Err-clause-refused g c = λ asked. c.failure.ensures (place_of g.F.Exact.value c.args.self) (rw c.in-Wholes.is refl) asked
