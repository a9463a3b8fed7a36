use Rattle.std.proofs.Common.{subst, IfErr}
use Rattle.rational_laws.specs.Fraction.{rational}
use Rattle.tableau_model.specs.Places.{Task}
use Rattle.tableau.specs.Bodies.{place_of}
use Rattle.tableau.specs.Walking.{IsWalkHalted}
use Rattle.tableau.proofs.Walks.{walk_begins}
use Rattle.tableau.proofs.walking.walk_range.Goals as goal

pub walk_over-requires-clause-begun : goal.walk_over-requires-clause-begun
walk_over-requires-clause-begun g c κs within =
    let value = g.F.Exact.value in
    rw c.new.ensures (walk_begins value (place_of value c.args.from.tableau).task (rational (value c.args.hi)) c.args.limit c.args.from c.args.lo c.requires.ordered c.requires.solved)

pub returns-in-Ok-clause-halted : goal.returns-in-Ok-clause-halted
returns-in-Ok-clause-halted g c =
    let value = g.F.Exact.value in
    let walked = (c.in-Ok.ensures {u = tt}).end in
    subst (λ (t : Task _). IfErr c.end_walk.result (IsWalkHalted value g.F.Exact.range t (rational (value c.args.lo)) (rational (value c.args.hi)) c.args.limit)) walked.walking.same c.end_walk.ensures.halted
