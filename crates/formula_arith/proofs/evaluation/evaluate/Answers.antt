use Rattle.formula_arith.proofs.Progress.{run_cause, run_value}
use Rattle.formula_arith.proofs.evaluation.evaluate.Goals as goal

pub returns-clause-value : goal.returns-clause-value
returns-clause-value c = run_value c.args.arith.now c.args.values.now c.as_slice.result.now c.run.result c.as_slice.ensures c.run.ensures.value c.run.ensures.fits

pub returns-clause-cause : goal.returns-clause-cause
returns-clause-cause c = run_cause c.args.arith.now c.args.values.now c.as_slice.result.now c.run.result c.as_slice.ensures c.run.ensures.cause
