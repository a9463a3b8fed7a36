use Rattle.std.proofs.Common.{ap, ◌∙◌}
use Rattle.ratio.specs.Sums.{total}
use Rattle.ratio.proofs.Totals.{total_push}
use Rattle.rankscores.proofs.integral.put.Goals as goal

pub returns : goal.returns
returns c = ap total c.in_ok-add.ensures.added ∙ total_push c.args.terms.now c.args.term
