use Rattle.walk_model.proofs.Loops.{steps_more, after_more, reached_more}
use Rattle.walk_model.proofs.laws.longer_walk.Goals as goal

pub returns : goal.returns
returns g c when f reach from basis steps x walk step =
    (steps_more when f reach from basis steps x walk step, after_more when f reach basis steps x, reached_more when f reach from steps x)
