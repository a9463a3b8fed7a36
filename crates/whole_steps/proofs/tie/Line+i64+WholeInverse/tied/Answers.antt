-- The side that was read, and the coordinate of the mover.
use Rattle.whole_steps.proofs.Movers.{tied_here}
use Rattle.whole_steps.proofs.tie.Line+i64+WholeInverse.tied.Goals as goal

pub returns-clause-tied : goal.returns-clause-tied
returns-clause-tied c = tied_here c.args.self.now c.requires.line c.args.mover c.requires.mover
