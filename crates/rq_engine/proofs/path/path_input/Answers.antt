use Rattle.rq_engine.proofs.Fits.{right_process}
use Rattle.rq_engine.proofs.Pathing.{first_within, high_costs, low_costs, path_cause, path_printable, path_stop}
use Rattle.rq_engine.proofs.path.path_input.Goals as goal

right : goal.returns-in-Ok-process-clause-right
right c =
    let process = right_process c.args.job.now.fit c.in-Ok.problem c.in-Ok-process.walked c.in-Ok-process.ensures.process c.in-Ok-process.ensures.short (rw c.as_slice.ensures at c.all_lowest_segments.ensures) (λ some. c.in-Ok-process.ensures.limited some) in
    record {
      kept = c.fit_of.ensures.kept;
      dropped = c.fit_of.ensures.dropped;
      names = c.fit_of.ensures.names;
      data_rows = c.fit_of.ensures.data_rows;
      input = c.requires.rows.shaped;
      shaped = rw c.fit_of.ensures.problem c.in-Ok.ensures.shaped;
      path = rw c.fit_of.ensures.problem (rw c.first_penalised-first.ensures at c.in-Ok.ensures.path);
      process = rw (c.fit_of.ensures.problem, c.fit_of.ensures.process) process;
    }

pub path_problem-requires-clause-first : goal.path_problem-requires-clause-first
path_problem-requires-clause-first c = rw c.first_penalised-first.ensures (first_within c.args.plain c.requires.rows)

pub process-requires-clause-costs_lo : goal.process-requires-clause-costs_lo
process-requires-clause-costs_lo c κs =
    low_costs c.args.job.now c.requires.ask c.args.plain c.requires.rows c.requires.unpenalised c.in-Ok.problem (rw c.first_penalised-first.ensures at c.in-Ok.ensures.path) c.path_is_askable.ensures.costs

pub process-requires-clause-costs_hi : goal.process-requires-clause-costs_hi
process-requires-clause-costs_hi c κs =
    high_costs c.args.job.now c.requires.ask c.args.plain c.requires.rows c.requires.unpenalised c.in-Ok.problem (rw c.first_penalised-first.ensures at c.in-Ok.ensures.path) c.path_is_askable.ensures.costs

pub returns-in-Err-clause-cause : goal.returns-in-Err-clause-cause
returns-in-Err-clause-cause c = rw c.path_halt.ensures (path_cause c.args.job.now c.args.plain c.in-Err.fault (rw c.first_penalised-first.ensures at c.in-Err.ensures.cause))

pub returns-in-Err-process-clause-cause : goal.returns-in-Err-process-clause-cause
returns-in-Err-process-clause-cause c =
    rw c.stop_halt.ensures
    (path_stop c.args.job.now c.args.plain c.requires.intercept c.path_is_askable.ensures.rank c.in-Ok.problem c.in-Ok.ensures.shaped
    (rw c.first_penalised-first.ensures at c.in-Ok.ensures.path) c.in-Err-process.stop c.in-Err-process.ensures.stopped)

pub returns-in-Ok-process-clause-right : goal.returns-in-Ok-process-clause-right
returns-in-Ok-process-clause-right c = right c

pub returns-in-Ok-process-clause-printable : goal.returns-in-Ok-process-clause-printable
returns-in-Ok-process-clause-printable c = path_printable c.args.job.now c.args.plain c.fit_of.result c.requires.rows (right c)
