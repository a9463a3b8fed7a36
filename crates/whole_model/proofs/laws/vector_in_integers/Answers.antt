use Rattle.whole_model.proofs.Denominators.{list_is_over}
use Rattle.whole_model.proofs.laws.vector_in_integers.Goals as goal

pub returns : goal.returns
returns g c =
    let laws = g.met.F.Exact g.world.𝓛 g.world.𝓜 g.world.𝓡 ((λ s x. x), (λ x. x), (λ x. x), λ x. x) in
    list_is_over g.F.Exact.value (λ x. (laws.within x).positive) c.args.values.now
