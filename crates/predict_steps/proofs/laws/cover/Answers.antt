use Rattle.predict_steps.proofs.Covered.{steps_cover}
use Rattle.predict_steps.proofs.laws.cover.Goals as goal

pub returns : goal.returns
returns g c = steps_cover g.F.Exact.value c.args.problem.now c.args.process.now.segments
