-- By the side of the row.
use Rattle.std.proofs.Common.{rules, ◌≡◌, ◌<◌, length, pos, refl, to_z, of_z}
use Rattle.std.specs.Prelude.{slice_get, Some}
use mir.Syntax.{w128}
use Rattle.std.proofs.lemmas.Option.{slice_get_read}
use Rattle.rational_laws.specs.Fraction.{rational}
use Rattle.rational_laws.specs.Rational.{◌*ℚ◌, whole}
use Rattle.loss_model.specs.Vertex.{basic_value}
use Rattle.cert_sums.specs.Duals.{side_in, IsRowDual}
use Rattle.cert_sums.proofs.RowsOf.{row_value}
use Rattle.cert_sums.proofs.segment_sums.dual_at.Goals as goal

pub returns : goal.returns
returns c =
    let t = c.args.table.now in
    let r = c.args.reach.now in
    let v = c.args.end.vertex.now in
    let b = basic_value v c.args.end.basic.now in
    let i = c.args.row in
    let rows = c.as_slice-rows.result.now in
    let w = c.index-rows-row.result in
    let e = c.in_ok-value.value in
    let within : i < length rows = search rules in
    let read : slice_get rows i ≡ Some w = slice_get_read rows (length rows) i w refl within c.index-rows-row.is in
    let here : slice_get t.rows i ≡ Some w = rw (← c.as_slice-rows.ensures) read in
    let plain : to_z w128 (of_z w128 e) ≡ e = search rules in
    let at : to_z w128 (of_z w128 r.at) ≡ r.at = search rules in
    let is_dual : IsRowDual (side_in v i) w r.scale r.at ((whole (pos r.scale) *ℚ whole (pos t.cost_scale)) *ℚ b i) e = rw (at) at (c.in_ok-value.ensures {u = tt}) in
    rw (plain) (row_value c.args.problem.now t c.requires.table (rational c.args.end.theta.now) b i w here r.scale r.at c.requires.reach.at_theta (side_in v i) e is_dual)
