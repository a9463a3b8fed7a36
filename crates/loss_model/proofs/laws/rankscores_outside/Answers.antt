use Rattle.loss_model.proofs.Rankscores.{above, below, outside}
use Rattle.loss_model.proofs.laws.rankscores_outside.Goals as goal

pub returns : goal.returns
returns g c =
    record { above = above; below = below; vertex = outside g.F.Exact.value c.args.problem.now c.args.vertex.now }
