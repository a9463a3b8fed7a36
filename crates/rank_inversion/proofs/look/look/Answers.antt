use Rattle.std.proofs.Common.{◌≡◌, length, sym, ◌∙◌, arith}
use Rattle.std.proofs.lemmas.Result.{err_from_is_err_and}
use Rattle.rank_inversion.proofs.LookLaws.{basis_short, dual_short, duals_are}
use Rattle.rank_inversion.proofs.look.look.Goals as goal

pub duals_of-requires-clause-same : goal.duals_of-requires-clause-same
duals_of-requires-clause-same g c κs within =
    let h = (c.in_ok-solution.ensures {u = tt}).solution in
    h.linears ∙ sym h.constants

pub duals_of-requires-clause-few : goal.duals_of-requires-clause-few
duals_of-requires-clause-few g c κs within =
    let solved = c.in_ok-solution.ensures {u = tt} in
    let wide : length c.in_ok-solution.solution.constant ≡ c.args.tableau.now.problem.columns = solved.solution.constants in
    omega (arith, wide, solved.kept.shaped.columns)

pub returns-in_err-solution-clause-spill : goal.returns-in_err-solution-clause-spill
returns-in_err-solution-clause-spill g c =
    let returned = err_from_is_err_and c.from_residual.result c.from_residual.ensures.1 in
    rw (returned.1, returned.2) (basis_short g.F.Exact.value c.args.tableau.now c.args.course.now c.args.from g.F.Exact.range _ (c.in_err-solution.ensures {u = tt}).spill)

pub returns-in_err-duals-clause-spill : goal.returns-in_err-duals-clause-spill
returns-in_err-duals-clause-spill g c =
    let returned = err_from_is_err_and c.from_residual-in_err-duals.result c.from_residual-in_err-duals.ensures.1 in
    rw (returned.1, returned.2)
    (dual_short g.F.Exact.value c.args.tableau.now c.args.course.now c.in_ok-solution.solution (c.in_ok-solution.ensures {u = tt}).solution c.args.from g.F.Exact.range _ (c.in_err-duals.ensures {u = tt}).spill)

pub next-requires-clause-station : goal.next-requires-clause-station
next-requires-clause-station g c κs within =
    let stands = c.in_ok-solution.ensures {u = tt} in
    let made = c.in_ok-duals.ensures {u = tt} in
    record {
      kept = stands.kept;
      solution = stands.solution;
      duals = duals_are g.F.Exact.value c.args.tableau.now c.args.course.now c.in_ok-solution.solution stands.solution c.in_ok-duals.duals made.size made.each;
      column = c.requires.column;
    }
