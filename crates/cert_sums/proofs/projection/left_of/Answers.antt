-- What is left in whole numbers.
use Rattle.std.proofs.Common.{rules, ◌≡◌, ◌<◌, ◌*◌, ap, subst, length, arith}
use Rattle.rational_laws.specs.Rational.{◌*ℚ◌}
use Rattle.frac_core.specs.Values.{value as value128}
use Rattle.loss_model.specs.Problem.{number_at, sample}
use Rattle.rank_model.specs.Restricted.{projected}
use Rattle.cert_sums.specs.declared.duals.Duals.{Duals}
use Rattle.cert_sums.specs.Duals.{IsDuals}
use Rattle.cert_sums.proofs.Balanced.{wide_rows}
use Rattle.cert_sums.proofs.Left.{left_duals}
use Rattle.cert_sums.proofs.projection.left_of.Goals as goal

pub left_values-requires-clause-same : goal.left_values-requires-clause-same
left_values-requires-clause-same c =
    let same : length c.as_slice-factors.result.now ≡ c.args.problem.now.columns = search rules in
    let many = (c.in_ok-numbers.ensures {u = tt}).size in
    let read = ap length c.as_slice-2.ensures in
    let narrow = c.requires.narrow c.if-not-table.false in
    λ k d l. let wide = wide_rows c.args.problem.now c.args.table.now c.requires k d l in let all = ap length (narrow k d l) in omega (arith, wide, same, many, read, all)

pub returns : goal.returns
returns c =
    let p = c.args.problem.now in
    let t = c.args.table.now in
    let factors = c.as_slice-factors.result.now in
    let j = c.args.interval.now.column in
    let scale = c.in_ok-scale.scale in
    let all = c.in_ok-scale-2.scale in
    let values = c.in_ok-values.values in
    let same : length factors ≡ p.columns = search rules in
    let within : j < length factors = omega arith in
    let product : all ≡ scale * t.scale * t.cost_scale = c.in_ok-scale-2.ensures {u = tt} in
    let numbers = c.in_ok-numbers.ensures {u = tt} in
    let made = rw (c.as_slice-2.ensures) at (c.in_ok-values.ensures {u = tt}) in
    let d : Duals = record { scale = all; values = values } in
    subst (λ xs. IsDuals p t (λ i. (sample value128 p).up1 i *ℚ projected (sample value128 p) j (number_at xs) i) d) c.as_slice-factors.ensures
    (left_duals p t c.requires factors j same within scale c.in_ok-numbers.numbers numbers.size numbers.each numbers.last d (c.in_ok-scale.ensures {u = tt}) product made.size made.each)
