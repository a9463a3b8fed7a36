use Rattle.std.proofs.Common.{[]}
use Rattle.std.proofs.lemmas.Result.{err_from_is_err_and}
use Rattle.rational_laws.proofs.Lists.{mapped_more}
use Rattle.frac_core.specs.Values.{exact}
use Rattle.loss_model.specs.Values.{exact_row}
use Rattle.lambda_path.specs.Rows.{data_row}
use Rattle.lambda_path.proofs.Overflowing.{fault_at, fits_more}
use Rattle.lambda_path.proofs.path.data_rows.Goals as goal

pub returns-in_err-data_row-clause-fault : goal.returns-in_err-data_row-clause-fault
returns-in_err-data_row-clause-fault c =
    let q = err_from_is_err_and c.from_residual.result c.from_residual.ensures.1 in
    rw (q.1, q.2)
    (fault_at (exact c.args.tau) c.args.rows.now c.loop-number.number c.index-rows-number.result c.loop-number-test.true c.index-rows-number.is _ c.loop-number.invariant.fits c.in_err-data_row.ensures.fault)

pub loop-number-preserved : goal.loop-number-preserved
loop-number-preserved c = record {
  made = mapped_more exact_row (data_row (exact c.args.tau)) c.args.rows.now c.loop-number.number _ [] _ _ _ c.loop-number-test.true c.index-rows-number.is c.loop-number.invariant.made c.in_ok-add.ensures.added
      c.in_ok-data_row.ensures.made;
  fits = fits_more (exact c.args.tau) c.args.rows.now c.loop-number.number _ c.loop-number-test.true c.index-rows-number.is c.loop-number.invariant.fits c.in_ok-data_row.ensures.fits;
}
