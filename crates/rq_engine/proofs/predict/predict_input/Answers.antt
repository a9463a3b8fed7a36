use Rattle.rational_laws.specs.Fraction.{rational}
use Rattle.frac_core.specs.Values.{value}
use Rattle.rq_engine.proofs.Costs.{high_costs, low_costs}
use Rattle.rq_engine.proofs.Fits.{process_right, right_process}
use Rattle.rq_engine.proofs.Predicting.{predict_right, predict_stop}
use Rattle.rq_engine.proofs.predict.predict_input.Goals as goal

pub process-requires-clause-costs_lo : goal.process-requires-clause-costs_lo
process-requires-clause-costs_lo c κs = low_costs c.args.job.now c.requires.ask c.args.asked.input c.requires.rows

pub process-requires-clause-costs_hi : goal.process-requires-clause-costs_hi
process-requires-clause-costs_hi c κs = high_costs c.args.job.now c.requires.ask c.args.asked.input c.requires.rows

pub returns-in-Err-clause-cause : goal.returns-in-Err-clause-cause
returns-in-Err-clause-cause c = rw c.stop_halt.ensures (predict_stop c.args.job.now c.args.asked c.in-Err.stop c.in-Err.ensures.stopped)

pub predictions_of-requires-clause-vertices : goal.predictions_of-requires-clause-vertices
predictions_of-requires-clause-vertices c k d l =
    (process_right value c.args.asked.input.problem (rational (value c.args.job.now.lo)) (rational (value c.args.job.now.hi)) c.in-Ok.walked c.in-Ok.ensures.process (rw c.as_slice-segments.ensures at c.all_lowest_segments.ensures) k d l).vertex.coef

pub returns-in-Ok-predictions_of-clause-right : goal.returns-in-Ok-predictions_of-clause-right
returns-in-Ok-predictions_of-clause-right c =
    let job = c.args.job.now in
    let asked = c.args.asked in
    let right = right_process job asked.input.problem c.in-Ok.walked c.in-Ok.ensures.process c.in-Ok.ensures.short (rw c.as_slice-segments.ensures at c.all_lowest_segments.ensures) (λ some. c.in-Ok.ensures.limited some) in
    predict_right job asked c.in-Ok.walked c.in-Ok-predictions_of.predictions c.requires.rows.shaped right
    (rw c.as_slice.ensures at (c.in-Ok-predictions_of.ensures (rational (value job.lo)) (rational (value job.hi)) right.covers))
    c.fit_of.result c.fit_of.ensures.kept c.fit_of.ensures.dropped c.fit_of.ensures.names c.fit_of.ensures.process c.fit_of.ensures.predictions
