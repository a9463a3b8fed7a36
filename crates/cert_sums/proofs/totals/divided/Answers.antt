-- The sum of whole numbers, over both scales.
use Rattle.std.proofs.Common.{rules, ◌≡◌, ◌*◌, pos, length, to_z, of_z, arith, ap, ◌∙◌}
use mir.Syntax.{w128}
use Rattle.rational_laws.specs.Fraction.{rational}
use Rattle.rational_laws.specs.Rational.{◌*ℚ◌, whole, inverse}
use Rattle.frac_core.specs.Values.{value as value128}
use Rattle.rational_laws.specs.WholeLists.{whole_at}
use Rattle.cert_sums.specs.Sums.{column_total}
use Rattle.cert_sums.proofs.Balanced.{wide_rows, divided_from}
use Rattle.cert_sums.proofs.totals.divided.Goals as goal

pub column_product-total-requires-clause-wide : goal.column_product-total-requires-clause-wide
column_product-total-requires-clause-wide c =
    let rows = c.args.table.now.rows in
    let wide = wide_rows c.args.problem.now c.args.table.now c.requires.table in
    let narrow = c.requires.table.narrow c.if-not-table.false in
    rw (c.as_slice.ensures) (λ k d l. let e = wide k d l in let same = ap length (narrow k d l) in omega (arith, e, same, c.requires.place))

pub column_product-total-requires-clause-narrow : goal.column_product-total-requires-clause-narrow
column_product-total-requires-clause-narrow c = rw (c.as_slice.ensures) (c.requires.table.narrow c.if-not-table.false)

pub returns : goal.returns
returns c =
    let p = c.args.problem.now in
    let t = c.args.table.now in
    let d = c.args.duals.now in
    let total = c.column_product-total.result in
    let sum : whole total ≡ column_total t.rows c.args.place d.values = rw (c.as_slice.ensures, c.as_slice-values.ensures) at c.column_product-total.ensures in
    let plain : to_z w128 (of_z w128 total) ≡ total = search rules in
    let made : rational (value128 c.in_ok-found.found) ≡ whole total *ℚ inverse (whole (pos (d.scale * t.cost_scale * t.scale))) = rw (plain) at (c.in_ok-found.ensures {u = tt}) in
    λ e f k cells. divided_from p t c.requires.table e d.scale k.scale (whole_at d.values) k.each c.args.place f cells (rational (value128 c.in_ok-found.found)) (made
    ∙ ap (λ z. z *ℚ inverse (whole (pos (d.scale * t.cost_scale * t.scale)))) sum)
