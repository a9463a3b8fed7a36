use Rattle.whole_model.proofs.WholeRanks as law
use Rattle.whole_model.proofs.laws.ranks_in_integers.Goals as goal

pub returns : goal.returns
returns g c =
    let laws = g.met.F.Exact g.world.𝓛 g.world.𝓜 g.world.𝓡 ((λ s x. x), (λ x. x), (λ x. x), λ x. x) in
    record {
      holds = law.holds_in_integers g.F.Exact.value (λ x. (laws.within x).positive) c.args.problem.now;
      exact = law.exact_in_integers g.F.Exact.value (λ x. (laws.within x).positive) c.args.problem.now;
    }
