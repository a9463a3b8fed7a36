use Rattle.whole_model.proofs.Denominators as law
use Rattle.whole_model.proofs.laws.minima_in_integers.Goals as goal

pub returns : goal.returns
returns g c =
    let laws = g.met.F.Exact g.world.𝓛 g.world.𝓜 g.world.𝓡 ((λ s x. x), (λ x. x), (λ x. x), λ x. x) in
    record {
      loss = law.losses g.F.Exact.value (λ x. (laws.within x).positive) c.args.problem.now;
      minimum = law.minimises g.F.Exact.value (λ x. (laws.within x).positive) c.args.problem.now;
      dual = law.dual g.F.Exact.value (λ x. (laws.within x).positive) c.args.problem.now;
    }
