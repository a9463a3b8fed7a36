use Rattle.std.proofs.lemmas.Result.{IfOk-weaker, IfErr-weaker, err_from_is_err_and}
use Rattle.fraction_tableau.proofs.Passed.{pass_exact, up_spill, down_spill, sum_spill, pass_spill}
use Rattle.fraction_tableau.proofs.search.pass.Goals as goal

pub returns-in_err-up-clause-spill : goal.returns-in_err-up-clause-spill
returns-in_err-up-clause-spill g c =
    let returned = err_from_is_err_and c.from_residual.result c.from_residual.ensures.1 in
    rw (returned.1, returned.2) (up_spill g.F.Exact.value c.args.line.now g.F.Exact.range c.args.mover.row _ c.requires.mover.row (c.in_err-up.ensures {u = tt}).spill)

pub returns-in_err-down-clause-spill : goal.returns-in_err-down-clause-spill
returns-in_err-down-clause-spill g c =
    let returned = err_from_is_err_and c.from_residual-in_err-down.result c.from_residual-in_err-down.ensures.1 in
    rw (returned.1, returned.2) (down_spill g.F.Exact.value c.args.line.now g.F.Exact.range c.args.mover.row _ c.requires.mover.row (c.in_err-down.ensures {u = tt}).spill)

pub returns-in_err-cost-clause-spill : goal.returns-in_err-cost-clause-spill
returns-in_err-cost-clause-spill g c =
    let returned = err_from_is_err_and c.from_residual-in_err-cost.result c.from_residual-in_err-cost.ensures.1 in
    rw (returned.1, returned.2)
    (sum_spill g.F.Exact.value c.args.line.now g.F.Exact.range c.args.mover c.in_ok-up.up c.in_ok-down.down _ c.requires.descent c.requires.mover (c.in_ok-up.ensures {u = tt}).exact (c.in_ok-down.ensures {u = tt}).exact
    (c.in_err-cost.ensures {u = tt}).spilled)

pub returns-clause-exact : goal.returns-clause-exact
returns-clause-exact g c =
    IfOk-weaker c.plus_product.result _ _
    (λ next n. pass_exact g.F.Exact.value c.args.line.now c.args.mover c.in_ok-up.up c.in_ok-down.down c.in_ok-cost.cost next c.args.slope c.requires.mover (c.in_ok-up.ensures {u = tt}).exact (c.in_ok-down.ensures {u = tt}).exact
    (c.in_ok-cost.ensures {u = tt}).exact n)
    c.plus_product.ensures.exact

pub returns-clause-spill : goal.returns-clause-spill
returns-clause-spill g c =
    IfErr-weaker c.plus_product.result _ _
    (λ s k. pass_spill g.F.Exact.value c.args.line.now g.F.Exact.range c.args.mover c.in_ok-up.up c.in_ok-down.down c.in_ok-cost.cost c.args.slope c.args.passed s c.requires.descent c.requires.mover (c.in_ok-up.ensures {u = tt}).exact
    (c.in_ok-down.ensures {u = tt}).exact (c.in_ok-cost.ensures {u = tt}).exact c.requires.slope c.requires.passed k)
    (rw (c.new-site.ensures, c.number_of-direction.ensures) at c.plus_product.ensures.spilled)
