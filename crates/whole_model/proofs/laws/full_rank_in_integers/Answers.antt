use Rattle.loss_model.specs.Problem.{sample}
use Rattle.whole_model.specs.Scaled.{unit, scaled}
use Rattle.whole_model.proofs.Denominators.{unit_positive, scales}
use Rattle.whole_model.proofs.Ranks as law
use Rattle.whole_model.proofs.laws.full_rank_in_integers.Goals as goal

pub returns : goal.returns
returns g c =
    let laws = g.met.F.Exact g.world.𝓛 g.world.𝓜 g.world.𝓡 ((λ s x. x), (λ x. x), (λ x. x), λ x. x) in
    let value = g.F.Exact.value in
    let p = c.args.problem.now in
    law.full_ranks (unit value p) (sample value p) (scaled value p)
    (scales value (λ x. (laws.within x).positive) p) (unit_positive value (λ x. (laws.within x).positive) p)
