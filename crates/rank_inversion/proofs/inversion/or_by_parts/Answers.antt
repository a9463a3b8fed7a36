use Rattle.rank_inversion.proofs.Inverted.{right_is}
use Rattle.rank_inversion.proofs.inversion.or_by_parts.Goals as goal

pub returns-in-Some : goal.returns-in-Some
returns-in-Some g c =
    right_is g.F.Exact.value c.args.problem.now c.args.asked c.args.limit c.requires.asked c.in-Some.interval (rw c.in-Some.is at c.requires.quick)
