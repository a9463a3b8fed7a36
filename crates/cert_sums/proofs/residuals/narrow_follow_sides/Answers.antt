-- Each residual is a positive part of a whole number that lies on the side.
use Rattle.std.proofs.Common.{rules, ◌≡◌, length, arith, ap, subst}
use Rattle.wide_int.specs.Numbers.{total}
use Rattle.cert_sums.specs.Duals.{side_in}
use Rattle.cert_sums.specs.Residuals.{AreMultipliers, IsWholeOn}
use Rattle.cert_sums.proofs.Balanced.{wide_rows}
use Rattle.cert_sums.proofs.Follow.{follow}
use Rattle.cert_sums.proofs.RowsOf.{row_narrow}
use Rattle.cert_sums.proofs.residuals.narrow_follow_sides.Goals as goal

pub all_follow-requires-clause-same : goal.all_follow-requires-clause-same
all_follow-requires-clause-same c =
    let same : length c.as_slice-coef.result.now ≡ c.args.problem.now.columns = search rules in
    let many = (c.in-Some.ensures {u = tt}).size in
    let read = ap length c.as_slice-numbers.ensures in
    let narrow = c.requires.narrow c.if-not-table.false in
    λ k d l. let wide = wide_rows c.args.problem.now c.args.table.now c.requires k d l in let all = ap length (narrow k d l) in omega (arith, wide, same, many, read, all)

pub returns-else-not-has_room : goal.returns-else-not-has_room
returns-else-not-has_room c =
    let v = c.args.vertex.now in
    let by = c.in-Some.by in
    let same : length v.coef ≡ c.args.problem.now.columns = search rules in
    let are : AreMultipliers v.coef by = subst (λ xs. AreMultipliers xs by) c.as_slice-coef.ensures (c.in-Some.ensures {u = tt}) in
    let follows = rw (c.as_slice-numbers.ensures) at c.all_follow.ensures in
    let t = c.args.table.now in
    let narrow = c.requires.narrow c.if-not-table.false in
    λ h. follow c.args.problem.now t c.requires v.coef by are same v
    (λ i w at. subst (λ xs. IsWholeOn (side_in v i) (total xs by.numbers)) (row_narrow t.rows narrow i w at) (follows h i w at))
