use Rattle.ratio.specs.Sums.{total}
use Rattle.rankscores.proofs.Areas.{IsCrossedTo}
use Rattle.rankscores.proofs.integral.crosses.Given as goal

abbrev pub invariant-loop-number : goal.invariant-loop-number
invariant-loop-number g l = IsCrossedTo g.F.Exact.value l.problem l.segments l.row l.number (total l.terms) l.is_open
