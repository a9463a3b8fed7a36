-- Equal numbers over equal scales.
use Rattle.cert_sums.specs.Ends.{low_dual, high_dual}
use Rattle.cert_sums.proofs.Losses.{same_duals}
use Rattle.cert_sums.proofs.ends.duals_meet.Goals as goal

pub returns-in-Some-low_duals : goal.returns-in-Some-low_duals
returns-in-Some-low_duals c =
    let p = c.args.whole.problem.now in
    λ h. same_duals p c.args.whole.table.now c.requires c.in-Some.left c.in-Some-low_duals.right (c.agree.ensures.scale h) (c.agree.ensures.values h)
    (high_dual p c.args.segment.now) (low_dual p c.args.next.now) (c.in-Some.ensures {u = tt}) (c.in-Some-low_duals.ensures {u = tt})
