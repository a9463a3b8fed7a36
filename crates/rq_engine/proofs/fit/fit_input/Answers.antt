use Rattle.std.proofs.Common.{arith, length, ap, sym, ◌∙◌}
use Rattle.rational_laws.specs.Fraction.{rational}
use Rattle.frac_core.specs.Values.{value}
use Rattle.rankscores.specs.Scores.{IsScored}
use Rattle.rq_engine.proofs.Costs.{high_costs, low_costs}
use Rattle.rq_engine.proofs.Fits.{interval_cause, process_scorable, right_fit, right_process, stop_cause}
use Rattle.rq_input.proofs.Lists.{zip_length}
use Rattle.rq_engine.proofs.fit.fit_input.Goals as goal

pub process-requires-clause-costs_lo : goal.process-requires-clause-costs_lo
process-requires-clause-costs_lo g c κs = low_costs c.args.job.now c.requires.ask c.args.input c.requires.rows

pub process-requires-clause-costs_hi : goal.process-requires-clause-costs_hi
process-requires-clause-costs_hi g c κs = high_costs c.args.job.now c.requires.ask c.args.input c.requires.rows

pub returns-in-Err-clause-cause : goal.returns-in-Err-clause-cause
returns-in-Err-clause-cause g c = rw c.stop_halt.ensures (stop_cause c.args.job.now (length c.args.input.design.rows) c.args.input.problem c.in-Err.stop c.in-Err.ensures.stopped)

pub all_scores-requires-clause-scorable : goal.all_scores-requires-clause-scorable
all_scores-requires-clause-scorable g c κs =
    rw c.as_slice-segments.ensures
    (process_scorable value c.args.input.problem (rational (value c.args.job.now.lo)) (rational (value c.args.job.now.hi)) c.in-Ok.walked c.in-Ok.ensures.process.results)

pub job_intervals-requires-clause-data : goal.job_intervals-requires-clause-data
job_intervals-requires-clause-data g c κs within some i l = c.requires.rows.are_data i (omega (arith, c.requires.rows.size, c.requires.unpenalised some, l))

pub returns-in-Err-job_intervals-clause-cause : goal.returns-in-Err-job_intervals-clause-cause
returns-in-Err-job_intervals-clause-cause g c =
    interval_cause c.args.job.now (length c.args.input.design.rows) c.args.input.problem c.in-Ok.walked c.in-Ok-all_scores.scores c.in-Ok.ensures.process.results c.in-Ok.ensures.short
    (rw c.as_slice-segments.ensures at (rw c.as_slice.ensures at c.in-Ok-all_scores.ensures)) c.in-Err-job_intervals.halt c.in-Err-job_intervals.ensures.cause

pub returns-in-Ok-fit_of-clause-right : goal.returns-in-Ok-fit_of-clause-right
returns-in-Ok-fit_of-clause-right g c =
    let under = c.in-Ok-fit_of.ensures.under in
    record {
      under = under;
      right = right_fit c.args.job.now (length c.args.input.design.rows) c.args.input.problem c.in-Ok.walked c.in-Ok-all_scores.scores c.in-Ok-job_intervals.intervals c.requires.rows.shaped
          (right_process c.args.job.now c.args.input.problem c.in-Ok.walked c.in-Ok.ensures.process c.in-Ok.ensures.short (rw c.as_slice-segments.ensures at c.all_lowest_segments.ensures) (λ some. c.in-Ok.ensures.limited some))
          (rw c.as_slice-segments.ensures at (rw c.as_slice.ensures at c.in-Ok-all_scores.ensures)) c.in-Ok-job_intervals.ensures.right
          (rw c.as_slice-2.ensures at c.all_lowest_scores.ensures) (rw c.as_slice-3.ensures at c.all_lowest_intervals.ensures) c.in-Ok-fit_of.fit c.in-Ok-fit_of.ensures.process
          c.in-Ok-fit_of.ensures.scores c.in-Ok-fit_of.ensures.intervals under.problem_is under.data_rows;
    }

pub returns-in-Ok-fit_of-clause-printable : goal.returns-in-Ok-fit_of-clause-printable
returns-in-Ok-fit_of-clause-printable g c =
    let under = c.in-Ok-fit_of.ensures.under in
    let scored = rw c.as_slice-segments.ensures at (rw c.as_slice.ensures at c.in-Ok-all_scores.ensures) in
    let each = zip_length (IsScored value c.args.input.problem (length c.args.input.design.rows)) c.in-Ok.walked.segments c.in-Ok-all_scores.scores scored in (
      ap length c.in-Ok-fit_of.ensures.scores ∙ each ∙ sym (ap (λ q. length q.segments) c.in-Ok-fit_of.ensures.process),
      omega (arith, under.data_rows, c.requires.rows.size, ap (λ p. length p.rows) under.problem_is),
    )

pub returns-in-Ok-fit_of-clause-listed : goal.returns-in-Ok-fit_of-clause-listed
returns-in-Ok-fit_of-clause-listed g c = rw c.in-Ok-fit_of.ensures.intervals c.in-Ok-job_intervals.ensures.listed
