use Rattle.std.proofs.Common.{◌∙◌, ap, arith, length, sym}
use Rattle.rq_input.proofs.TestedInputs.{are_columns, tested_input}
use Rattle.rq_input.proofs.tested.read_tested.Goals as goal

pub returns-in-Err-clause-cause : goal.returns-in-Err-clause-cause
returns-in-Err-clause-cause c = tested_input c.args.job.now c.args.bytes.now c.in-Err.halt c.in-Err.ensures.cause

pub returns-clause-is : goal.returns-clause-is
returns-clause-is c =
    let shaped = c.in-Ok.ensures.rows.shaped in
    let none = rw c.as_slice-tested.ensures at (sym c.first_missing.ensures ∙ c.in_default.is) in
    record {
      is = c.in-Ok.ensures.is;
      columns = are_columns c.in-Ok.input.problem.columns c.args.job.now.tested (omega (arith, shaped.columns)) c.requires.ascending none
          (λ e. absurd (omega (arith, c.if-tested-columns.false, ap length c.as_slice-tested.ensures, e)));
    }
