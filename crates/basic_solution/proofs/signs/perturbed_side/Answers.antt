use Rattle.std.proofs.Common.{◌≡◌, slice_index, pos, sym, ap₂, refl, ◌∙◌}
use Rattle.std.specs.declared.cmp.Ordering.TheVariants.{Less, Greater}
use Rattle.rational_laws.specs.Rational.{whole}
use Rattle.rational_laws.specs.Order.{cmp_ℚ}
use Rattle.loss_model.specs.Problem.{sample}
use Rattle.basis_inverse.specs.Square.{inverse_entry}
use Rattle.basis_model.specs.Perturbed.{nonbasic}
use Rattle.basis_model.proofs.Signs.{perturbed_side-same}
use Rattle.basis_model.specs.Basis.{outside_row}
use Rattle.basic_solution.proofs.RowSides.{side_above, side_below}
use Rattle.basic_solution.proofs.signs.perturbed_side.Goals as goal

pub returns-in-Greater-clause-side : goal.returns-in-Greater-clause-side
returns-in-Greater-clause-side g c =
    let p = sample g.F.Exact.value c.args.station.now.problem.now in
    let at = slice_index c.args.station.now.basis.now.rows in
    let u = outside_row p at (inverse_entry g.F.Exact.value c.args.station.now.inverse.now) c.args.row in
    let above : cmp_ℚ u.residual (whole (pos 0)) ≡ Greater = ap₂ cmp_ℚ (sym c.requires.residual) (sym c.zero.ensures) ∙ sym (c.in-Greater.ensures {u = tt}) in
    side_above p.rows p.columns at u above

pub returns-in-Less-clause-side : goal.returns-in-Less-clause-side
returns-in-Less-clause-side g c =
    let p = sample g.F.Exact.value c.args.station.now.problem.now in
    let at = slice_index c.args.station.now.basis.now.rows in
    let u = outside_row p at (inverse_entry g.F.Exact.value c.args.station.now.inverse.now) c.args.row in
    let below : cmp_ℚ u.residual (whole (pos 0)) ≡ Less = ap₂ cmp_ℚ (sym c.requires.residual) (sym c.zero.ensures) ∙ sym (c.in-Less.ensures {u = tt}) in
    side_below p.rows p.columns at u below

pub returns-in_ok-coords-in-Equal-clause-side : goal.returns-in_ok-coords-in-Equal-clause-side
returns-in_ok-coords-in-Equal-clause-side g c =
    let value = g.F.Exact.value in
    let p = sample value c.args.station.now.problem.now in
    let at = slice_index c.args.station.now.basis.now.rows in
    let u = outside_row p at (inverse_entry value c.args.station.now.inverse.now) c.args.row in
    let v = nonbasic value c.args.row c.args.residual c.in_ok-coords-in-Equal.coords in
    let signed = rw (c.requires.basis.same, c.as_slice.ensures) at (c.lex_sign.ensures p.rows c.requires.row) in
    signed ∙ perturbed_side-same p.columns at v u refl c.requires.residual (c.in_ok-coords-in-Equal.ensures {u = tt}).each p.rows
