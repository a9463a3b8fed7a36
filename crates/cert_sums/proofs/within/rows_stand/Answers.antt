-- No cost of a row more is negative.
use Rattle.std.proofs.Common.{rules, arith, ◌≡◌, length, refl, to_z, of_z, below_more}
use Rattle.std.specs.Prelude.{slice_get, Some}
use mir.Syntax.{w128}
use Rattle.std.proofs.lemmas.Option.{slice_get_read}
use Rattle.rational_laws.specs.Fraction.{rational}
use Rattle.frac_core.specs.Values.{value as value128}
use Rattle.loss_model.specs.Problem.{sample}
use Rattle.cert_sums.specs.Within.{HasCosts}
use Rattle.cert_sums.proofs.Costs.{has_costs}
use Rattle.cert_sums.proofs.within.rows_stand.Goals as goal

pub loop-i-preserved : goal.loop-i-preserved
loop-i-preserved c =
    let p = c.args.whole.problem.now in
    let t = c.args.whole.table.now in
    let theta = rational (value128 c.args.theta) in
    let rows = c.as_slice-rows.result.now in
    let r = c.args.reach.now in
    let i = c.loop-i.i in
    let w = c.index-rows-i.result in
    let read : slice_get rows i ≡ Some w = slice_get_read rows (length rows) i w refl c.loop-i-test.true c.index-rows-i.is in
    let here : slice_get t.rows i ≡ Some w = rw (← c.as_slice-rows.ensures) read in
    let plain : to_z w128 (of_z w128 r.at) ≡ r.at = search rules in
    below_more (HasCosts (sample value128 p) theta) i c.loop-i.invariant
    (has_costs p t c.requires.table theta i w here r (record { some = c.requires.reach.some; at_theta = c.requires.reach.at_theta }) (rw (plain) at (c.is_between.ensures c.if-not-is_between.false)))

pub returns : goal.returns
returns c =
    let size = c.requires.table.size in
    let all : c.loop-i.i ≡ length c.args.whole.table.now.rows = search rules in
    λ h i l. c.loop-i.invariant i (omega (arith, l, size, all))
