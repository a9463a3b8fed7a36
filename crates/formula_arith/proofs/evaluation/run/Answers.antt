use Rattle.std.proofs.Common.{map, ◌∙◌}
use Rattle.std.proofs.lemmas.Result.{err_from_is_err_and}
use Rattle.frac_core.specs.Values.{exact}
use Rattle.formula_arith.specs.Machine.{stacked}
use Rattle.formula_arith.proofs.Progress.{goes_on, stops}
use Rattle.formula_arith.proofs.evaluation.run.Goals as goal

pub returns-in_err-value-clause-cause : goal.returns-in_err-value-clause-cause
returns-in_err-value-clause-cause c =
    let l = c.loop-op in
    let p = err_from_is_err_and c.from_residual.result c.from_residual.ensures.1 in
    rw (p.1, p.2)
    (stops (map exact c.args.values.now) c.args.code.now l.op-index c.op-item.result (stacked l.operands) l.count c.loop-op-test.true c.op-item.is l.invariant _ c.in_err-value.ensures.cause)

pub loop-op-preserved : goal.loop-op-preserved
loop-op-preserved c =
    let l = c.loop-op in
    goes_on (map exact c.args.values.now) c.args.code.now l.op-index c.op-item.result (stacked l.operands) l.count c.loop-op-test.true c.op-item.is l.invariant
    _ _ (c.in_ok-push.ensures.pushed ∙ c.in_ok-value.ensures.value) c.numbered-count.ensures c.in_ok-value.ensures.fits
