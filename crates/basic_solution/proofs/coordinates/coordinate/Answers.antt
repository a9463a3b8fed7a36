use Rattle.std.proofs.Common.{◌≡◌, length, get_or, IfOk, IfErr, arith, ap, sym, ◌∙◌}
use Rattle.rational_laws.specs.Fraction.{rational}
use Rattle.rational_laws.specs.Matrices.{coordinate}
use Rattle.loss_model.specs.Quantities.{IsCoordinateSpill}
use Rattle.basis_inverse.specs.Square.{inverse_entry}
use Rattle.basic_solution.proofs.Rows.{row_wide, at_entries}
use Rattle.basic_solution.proofs.coordinates.coordinate.Goals as goal

pub coordinate-requires-clause-size : goal.coordinate-requires-clause-size
coordinate-requires-clause-size g c κs within =
    let r = c.index-as_slice-row.result in
    let read : r ≡ get_or c.args.problem.now.rows c.args.row r = rw c.as_slice.ensures at c.index-as_slice-row.is in
    let same : c.as_slice-x.result.now ≡ r.x = rw (← c.index-as_slice-row.is) at c.as_slice-x.ensures in
    ap length same ∙ row_wide g.F.Exact.value c.args.problem.now c.args.row r c.requires.row read c.requires.shaped ∙ sym c.requires.size

pub coordinate-requires-clause-within : goal.coordinate-requires-clause-within
coordinate-requires-clause-within g c κs within =
    let r = c.index-as_slice-row.result in
    let read : r ≡ get_or c.args.problem.now.rows c.args.row r = rw c.as_slice.ensures at c.index-as_slice-row.is in
    let same : c.as_slice-x.result.now ≡ r.x = rw (← c.index-as_slice-row.is) at c.as_slice-x.ensures in
    omega (arith, ap length same, row_wide g.F.Exact.value c.args.problem.now c.args.row r c.requires.row read c.requires.shaped, c.requires.position)

pub returns-clause-exact : goal.returns-clause-exact
returns-clause-exact g c =
    let r = c.index-as_slice-row.result in
    let read : r ≡ get_or c.args.problem.now.rows c.args.row r = rw c.as_slice.ensures at c.index-as_slice-row.is in
    let same : c.as_slice-x.result.now ≡ r.x = rw (← c.index-as_slice-row.is) at c.as_slice-x.ensures in
    at_entries g.F.Exact.value c.args.problem.now c.args.row r c.requires.row read c.requires.shaped c.as_slice-x.result.now same
    (λ n f. IfOk c.coordinate.result (λ v. rational (g.F.Exact.value v) ≡ coordinate n (inverse_entry g.F.Exact.value c.args.inverse.now) f c.args.position)) c.coordinate.ensures.value

pub returns-clause-spilled : goal.returns-clause-spilled
returns-clause-spilled g c =
    let r = c.index-as_slice-row.result in
    let read : r ≡ get_or c.args.problem.now.rows c.args.row r = rw c.as_slice.ensures at c.index-as_slice-row.is in
    let same : c.as_slice-x.result.now ≡ r.x = rw (← c.index-as_slice-row.is) at c.as_slice-x.ensures in
    at_entries g.F.Exact.value c.args.problem.now c.args.row r c.requires.row read c.requires.shaped c.as_slice-x.result.now same
    (λ n f. IfErr c.coordinate.result (IsCoordinateSpill g.F.Exact.value g.F.Exact.range n (inverse_entry g.F.Exact.value c.args.inverse.now) f c.args.row c.args.position)) c.coordinate.ensures.spill
