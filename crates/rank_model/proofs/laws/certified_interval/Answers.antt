use Rattle.rank_model.proofs.Certified.{shows, bounds}
use Rattle.rank_model.proofs.laws.certified_interval.Goals as goal

pub returns : goal.returns
returns g c = record { shows = shows g.F.Exact.value c.args.problem.now c.args.proof.now; bounds = bounds g.F.Exact.value c.args.problem.now }
