use Rattle.std.proofs.Common.{refl}
use Rattle.rank_inversion.proofs.walking.Walk.advance.Goals as goal

pub make_step-requires-clause-step : goal.make_step-requires-clause-step
make_step-requires-clause-step g c κs within = rw c.in-Ok-Step.field-0-is at (c.in-Ok-Step.ensures {u = tt}).next

pub returns-in-Ok-End-clause-next : goal.returns-in-Ok-End-clause-next
returns-in-Ok-End-clause-next g c = (refl, rw c.in-Ok-End.field-0-is at (c.in-Ok-End.ensures {u = tt}).next)
