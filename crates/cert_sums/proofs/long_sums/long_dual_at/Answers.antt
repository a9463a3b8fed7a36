-- By the side of the row.
use Rattle.std.proofs.Common.{rules, ◌≡◌, ◌<◌, length, refl}
use Rattle.std.specs.Prelude.{slice_get, Some}
use Rattle.std.proofs.lemmas.Option.{slice_get_read}
use Rattle.rational_laws.specs.Fraction.{rational}
use Rattle.loss_model.specs.Vertex.{basic_value}
use Rattle.cert_sums.specs.Duals.{side_in}
use Rattle.cert_sums.proofs.RowsOf.{row_value}
use Rattle.cert_sums.proofs.long_sums.long_dual_at.Goals as goal

pub returns : goal.returns
returns c =
    let t = c.args.table.now in
    let r = c.args.reach.now in
    let v = c.args.end.vertex.now in
    let b = basic_value v c.args.end.basic.now in
    let i = c.args.row in
    let rows = c.as_slice-rows.result.now in
    let w = c.index-rows-row.result in
    let within : i < length rows = search rules in
    let read : slice_get rows i ≡ Some w = slice_get_read rows (length rows) i w refl within c.index-rows-row.is in
    let here : slice_get t.rows i ≡ Some w = rw (← c.as_slice-rows.ensures) read in
    row_value c.args.problem.now t c.requires.table (rational c.args.end.theta.now) b i w here r.scale r.at c.requires.reach.at_theta (side_in v i) c.in_ok-value.value (c.in_ok-value.ensures {u = tt})
