use Rattle.std.proofs.Common.{◌<◌, length, slice_index}
use Rattle.std.proofs.lemmas.Result.{err_from_is_err_and}
use Rattle.pivot_model.specs.declared.direction.Direction.TheVariants.{Upward, Downward}
use Rattle.walk_model.specs.SlopeLaws.{crossing_of}
use Rattle.fraction_tableau.specs.Views.{sample_at, rows_at, entries_at}
use Rattle.tableau_model.specs.Crossings.{passes_at}
use Rattle.fraction_tableau.proofs.Inverses.{basis_of}
use Rattle.fraction_tableau.proofs.Crossed.{met_here, crossing_here, crossing_spill}
use Rattle.tableau_model.proofs.Soonest.{one_position}
use Rattle.fraction_tableau.proofs.view.BasisView.crossing_at.Goals as goal

pub returns-in_err-up-clause-spill : goal.returns-in_err-up-clause-spill
returns-in_err-up-clause-spill g c =
    let value = g.F.Exact.value in
    let view = c.args.self.now in
    let inside : slice_index view.tableau.now.rows c.args.position < length view.tableau.now.problem.rows =
    (basis_of value view.tableau.now.problem view.tableau.now.rows view.tableau.now.square c.requires.view.kept.inverse).distinct.within c.args.position c.requires.position in
    let row_is = rw (c.as_slice.ensures, c.problem.ensures, c.row_at-row.ensures.row) at c.index-as_slice-row.is in
    let constant_is = rw c.as_slice-2.ensures at c.index-as_slice-position.is in
    let linear_is = rw c.as_slice-3.ensures at c.index-as_slice-position-2.is in
    let returned = err_from_is_err_and c.from_residual.result c.from_residual.ensures.1 in
    rw (returned.1, returned.2) (
      Upward,
      crossing_spill value (sample_at value view) (rows_at value view) (entries_at value view) c.args.position Upward c.bound_towards-above.result
          (record { constant = c.index-as_slice-position.result; linear = c.index-as_slice-position-2.result })
          (met_here value view.tableau.now.problem view.tableau.now.rows (entries_at value view) view.solution.now c.args.position Upward c.index-as_slice-row.result c.index-as_slice-position.result c.index-as_slice-position-2.result
          c.bound_towards-above.result c.requires.view.solution c.requires.position inside row_is constant_is linear_is c.bound_towards-above.ensures.constant c.bound_towards-above.ensures.linear)
          g.F.Exact.range _ (c.in_err-up.ensures {u = tt}).spill,
    )

pub returns-in_err-down-clause-spill : goal.returns-in_err-down-clause-spill
returns-in_err-down-clause-spill g c =
    let value = g.F.Exact.value in
    let view = c.args.self.now in
    let inside : slice_index view.tableau.now.rows c.args.position < length view.tableau.now.problem.rows =
    (basis_of value view.tableau.now.problem view.tableau.now.rows view.tableau.now.square c.requires.view.kept.inverse).distinct.within c.args.position c.requires.position in
    let row_is = rw (c.as_slice.ensures, c.problem.ensures, c.row_at-row.ensures.row) at c.index-as_slice-row.is in
    let constant_is = rw c.as_slice-2.ensures at c.index-as_slice-position.is in
    let linear_is = rw c.as_slice-3.ensures at c.index-as_slice-position-2.is in
    let returned = err_from_is_err_and c.from_residual-in_err-down.result c.from_residual-in_err-down.ensures.1 in
    rw (returned.1, returned.2) (
      Downward,
      crossing_spill value (sample_at value view) (rows_at value view) (entries_at value view) c.args.position Downward c.bound_towards-below.result
          (record { constant = c.index-as_slice-position.result; linear = c.index-as_slice-position-2.result })
          (met_here value view.tableau.now.problem view.tableau.now.rows (entries_at value view) view.solution.now c.args.position Downward c.index-as_slice-row.result c.index-as_slice-position.result c.index-as_slice-position-2.result
          c.bound_towards-below.result c.requires.view.solution c.requires.position inside row_is constant_is linear_is c.bound_towards-below.ensures.constant c.bound_towards-below.ensures.linear)
          g.F.Exact.range _ (c.in_err-down.ensures {u = tt}).spill,
    )

pub returns-clause-exact : goal.returns-clause-exact
returns-clause-exact g c =
    let value = g.F.Exact.value in
    let view = c.args.self.now in
    let inside : slice_index view.tableau.now.rows c.args.position < length view.tableau.now.problem.rows =
    (basis_of value view.tableau.now.problem view.tableau.now.rows view.tableau.now.square c.requires.view.kept.inverse).distinct.within c.args.position c.requires.position in
    let row_is = rw (c.as_slice.ensures, c.problem.ensures, c.row_at-row.ensures.row) at c.index-as_slice-row.is in
    let constant_is = rw c.as_slice-2.ensures at c.index-as_slice-position.is in
    let linear_is = rw c.as_slice-3.ensures at c.index-as_slice-position-2.is in
    one_position value (passes_at (sample_at value view) (rows_at value view) (entries_at value view))
    (crossing_of (sample_at value view) (rows_at value view) (entries_at value view)) c.args.position c.in_ok-up.up c.in_ok-down.down c.sooner.result
    (crossing_here value (sample_at value view) (rows_at value view) (entries_at value view) c.args.position Upward c.bound_towards-above.result
    (record { constant = c.index-as_slice-position.result; linear = c.index-as_slice-position-2.result })
    (met_here value view.tableau.now.problem view.tableau.now.rows (entries_at value view) view.solution.now c.args.position Upward c.index-as_slice-row.result c.index-as_slice-position.result c.index-as_slice-position-2.result
    c.bound_towards-above.result c.requires.view.solution c.requires.position inside row_is constant_is linear_is c.bound_towards-above.ensures.constant c.bound_towards-above.ensures.linear)
    c.in_ok-up.up (c.in_ok-up.ensures {u = tt}).exact)
    (crossing_here value (sample_at value view) (rows_at value view) (entries_at value view) c.args.position Downward c.bound_towards-below.result
    (record { constant = c.index-as_slice-position.result; linear = c.index-as_slice-position-2.result })
    (met_here value view.tableau.now.problem view.tableau.now.rows (entries_at value view) view.solution.now c.args.position Downward c.index-as_slice-row.result c.index-as_slice-position.result c.index-as_slice-position-2.result
    c.bound_towards-below.result c.requires.view.solution c.requires.position inside row_is constant_is linear_is c.bound_towards-below.ensures.constant c.bound_towards-below.ensures.linear)
    c.in_ok-down.down (c.in_ok-down.ensures {u = tt}).exact)
    c.sooner.ensures
