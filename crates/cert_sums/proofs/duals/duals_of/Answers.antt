-- A value more.
use Rattle.std.proofs.Common.{rules, ◌≡◌, ◌++◌, ◌∷◌, [], length, refl, pos, to_z, of_z}
use Rattle.std.specs.Prelude.{slice_get, Some}
use mir.Syntax.{w128}
use Rattle.std.proofs.lemmas.Option.{slice_get_read}
use Rattle.rational_laws.specs.Fraction.{rational}
use Rattle.rational_laws.specs.Rational.{◌*ℚ◌, whole}
use Rattle.rational_laws.proofs.Lists.{length_pushed}
use Rattle.frac_core.specs.Values.{value as value128}
use Rattle.loss_model.specs.Problem.{sample}
use Rattle.loss_model.specs.Vertex.{basic_value}
use Rattle.cert_sums.specs.Duals.{side_in, dual_of, IsRowDual}
use Rattle.rational_laws.proofs.WholeLists.{whole_pushed}
use Rattle.cert_sums.proofs.RowsOf.{row_value}
use Rattle.cert_sums.proofs.duals.duals_of.Goals as goal

pub loop-i-preserved : goal.loop-i-preserved
loop-i-preserved c =
    let p = c.args.problem.now in
    let t = c.args.table.now in
    let v = c.args.end.vertex.now in
    let basic = c.args.end.basic.now in
    let rows = c.as_slice-rows.result.now in
    let made = c.loop-i.values in
    let e = c.in_ok-value.value in
    let i = c.loop-i.i in
    let w = c.index-rows-i.result in
    let scale = c.in_ok-reach.reach.scale in
    let at = c.in_ok-reach.reach.at in
    let grown : c.push.new.self ≡ made ++ e ∷ [] = search rules in
    let read : slice_get rows i ≡ Some w = slice_get_read rows (length rows) i w refl c.loop-i-test.true c.index-rows-i.is in
    let here : slice_get t.rows i ≡ Some w = rw (← c.as_slice-rows.ensures) read in
    let is_at : whole at ≡ whole (pos scale) *ℚ rational c.args.end.theta.now = (c.in_ok-reach.ensures {u = tt}).at_theta in
    let plain : to_z w128 (of_z w128 at) ≡ at = search rules in
    let is_dual : IsRowDual (side_in v i) w scale at ((whole (pos scale) *ℚ whole (pos t.cost_scale)) *ℚ basic_value v basic i) e = rw (plain) at (c.in_ok-value.ensures {u = tt}) in
    rw (grown) (record {
      size = length_pushed made e i c.loop-i.invariant.size;
      each = whole_pushed made e i (λ i. (whole (pos scale) *ℚ whole (pos t.cost_scale)) *ℚ dual_of (sample value128 p) (rational c.args.end.theta.now) v basic i) c.loop-i.invariant.size c.loop-i.invariant.each
          (row_value p t c.requires (rational c.args.end.theta.now) (basic_value v basic) i w here scale at is_at (side_in v i) e is_dual);
    })
