-- A row that moves is a mover.
use Rattle.whole_steps.proofs.Passed.{mover_some}
use Rattle.whole_steps.proofs.passing.Descent.mover.Goals as goal

pub returns : goal.returns
returns c = mover_some c.args.self.now.full.line c.args.row c.mover_at.result c.mover_at.ensures
