-- Each residual is a positive part of a whole number that lies on the side.
use Rattle.std.proofs.Common.{rules, ◌≡◌, length, arith, ap, subst}
use Rattle.cert_sums.specs.Residuals.{AreMultipliers}
use Rattle.cert_sums.specs.declared.residuals.Multipliers.{Multipliers}
use Rattle.cert_sums.proofs.Balanced.{wide_rows}
use Rattle.cert_sums.proofs.Follow.{follow}
use Rattle.cert_sums.proofs.long_rows.long_follow_sides.Goals as goal

pub long_rows_follow-requires : goal.long_rows_follow-requires
long_rows_follow-requires c =
    let same : length c.as_slice-coef.result.now ≡ c.args.problem.now.columns = search rules in
    let many = (c.in-Some.ensures {u = tt}).size in
    let read = ap length c.as_slice.ensures in
    λ k d l. let wide = wide_rows c.args.problem.now c.args.table.now c.requires k d l in omega (arith, wide, same, many, read)

pub returns-in-Some : goal.returns-in-Some
returns-in-Some c =
    let v = c.args.vertex.now in
    let by : Multipliers = record { scale = c.in-Some.by.scale; numbers = c.in-Some.by.numbers } in
    let same : length v.coef ≡ c.args.problem.now.columns = search rules in
    let are : AreMultipliers v.coef by = subst (λ xs. AreMultipliers xs by) c.as_slice-coef.ensures (c.in-Some.ensures {u = tt}) in
    let follows = rw (c.as_slice.ensures) at c.long_rows_follow.ensures in
    λ h. follow c.args.problem.now c.args.table.now c.requires v.coef by are same v (follows h)
