use Rattle.std.proofs.Common.{refl}
use Rattle.rank_inversion.proofs.asks.RankProblem.interval.Goals as goal

pub returns-in-Err : goal.returns-in-Err
returns-in-Err g c = record { same = refl; cause = c.in-Err.ensures.cause }
