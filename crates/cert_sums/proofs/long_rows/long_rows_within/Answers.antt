-- The value of a row more is within its costs.
use Rattle.std.proofs.Common.{rules, arith, ◌≡◌, length, refl, below_more}
use Rattle.std.specs.Prelude.{slice_get, Some}
use Rattle.std.proofs.lemmas.Option.{slice_get_read}
use Rattle.rational_laws.specs.Fraction.{rational}
use Rattle.frac_core.specs.Values.{value as value128}
use Rattle.loss_model.specs.Problem.{sample}
use Rattle.loss_model.specs.Vertex.{basic_value}
use Rattle.cert_sums.specs.Duals.{side_in}
use Rattle.cert_sums.specs.Within.{IsWithinCosts}
use Rattle.cert_sums.proofs.Costs.{within_costs}
use Rattle.cert_sums.proofs.long_rows.long_rows_within.Goals as goal

pub loop-i-preserved : goal.loop-i-preserved
loop-i-preserved c =
    let p = c.args.whole.problem.now in
    let t = c.args.whole.table.now in
    let v = c.args.end.vertex.now in
    let theta = rational c.args.end.theta.now in
    let basic = basic_value v c.args.end.basic.now in
    let rows = c.as_slice-rows.result.now in
    let r = c.args.reach.now in
    let i = c.loop-i.i in
    let w = c.index-rows-i.result in
    let read : slice_get rows i ≡ Some w = slice_get_read rows (length rows) i w refl c.loop-i-test.true c.index-rows-i.is in
    let here : slice_get t.rows i ≡ Some w = rw (← c.as_slice-rows.ensures) read in
    below_more (λ i. IsWithinCosts (sample value128 p) theta (side_in v i) (basic i) i) i c.loop-i.invariant
    (within_costs p t c.requires.table theta i w here (record { scale = r.scale; at = r.at }) c.requires.reach (side_in v i) (basic i) (c.long_row_within.ensures c.if-not-long_row_within.false))

pub returns : goal.returns
returns c =
    let size = c.requires.table.size in
    let all : c.loop-i.i ≡ length c.args.whole.table.now.rows = search rules in
    λ h i l. c.loop-i.invariant i (omega (arith, l, size, all))
