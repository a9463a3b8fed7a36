use Rattle.rq_engine.proofs.Fits.{right_process}
use Rattle.rq_engine.proofs.Scoring.{unit_ask}
use Rattle.rq_engine.proofs.Testing.{process_covers, restricted_data, restricted_high, restricted_low, scorable, scored_there, stop_there}
use Rattle.rq_engine.proofs.test.scored.Goals as goal

pub process-requires-clause-ordered : goal.process-requires-clause-ordered
process-requires-clause-ordered c κs = (unit_ask c.args.job.now.fit c.requires.ask).ordered

pub process-requires-clause-costs_lo : goal.process-requires-clause-costs_lo
process-requires-clause-costs_lo c κs =
    restricted_low c.args.job.now.fit c.requires.ask c.args.full.now c.args.job.now.tested c.in-Ok.problem (rw c.as_slice.ensures at c.in-Ok.ensures.restricted) c.requires.data c.restricted_is_askable.ensures.rows

pub process-requires-clause-costs_hi : goal.process-requires-clause-costs_hi
process-requires-clause-costs_hi c κs =
    restricted_high c.args.job.now.fit c.requires.ask c.args.full.now c.args.job.now.tested c.in-Ok.problem (rw c.as_slice.ensures at c.in-Ok.ensures.restricted) c.requires.data c.restricted_is_askable.ensures.rows

pub returns-in-Err-process-clause-cause : goal.returns-in-Err-process-clause-cause
returns-in-Err-process-clause-cause c =
    rw c.stop_halt.ensures
    (stop_there c.args.job.now.fit c.args.full.now c.args.job.now.tested c.in-Ok.problem (rw c.as_slice.ensures at c.in-Ok.ensures.restricted) c.restricted_is_askable.ensures.rank c.requires.shaped c.requires.tested c.requires.rank
    c.in-Err-process.stop c.in-Err-process.ensures.stopped)

pub wilcoxon-requires-clause-data : goal.wilcoxon-requires-clause-data
wilcoxon-requires-clause-data c κs =
    restricted_data c.args.full.now c.args.job.now.tested c.in-Ok.problem (rw c.as_slice.ensures at c.in-Ok.ensures.restricted) c.requires.data c.restricted_is_askable.ensures.rows

pub wilcoxon-requires-clause-scorable : goal.wilcoxon-requires-clause-scorable
wilcoxon-requires-clause-scorable c κs =
    scorable c.args.job.now.fit c.requires.ask c.in-Ok.problem c.in-Ok-process.process c.in-Ok-process.ensures.process c.in-Ok-process.ensures.short

pub wilcoxon-requires-clause-covers : goal.wilcoxon-requires-clause-covers
wilcoxon-requires-clause-covers c κs =
    process_covers c.args.job.now.fit c.requires.ask c.in-Ok.problem c.in-Ok-process.process c.in-Ok-process.ensures.process c.in-Ok-process.ensures.short

pub returns-in-Ok-wilcoxon-clause-right : goal.returns-in-Ok-wilcoxon-clause-right
returns-in-Ok-wilcoxon-clause-right c =
    let fit = c.args.job.now.fit in
    let q = c.in-Ok.problem in
    let walked = c.in-Ok-process.process in
    let made = c.in-Ok-process.ensures.process in
    scored_there fit c.args.full.now c.args.job.now.tested q (rw c.as_slice.ensures at c.in-Ok.ensures.restricted) walked c.in-Ok-wilcoxon.wilcoxon (record {
      process = right_process fit q walked made c.in-Ok-process.ensures.short (rw c.as_slice-2.ensures at c.all_lowest_segments.ensures) (λ some. c.in-Ok-process.ensures.limited some);
      covers = process_covers fit c.requires.ask q walked made c.in-Ok-process.ensures.short;
      scores = c.in-Ok-wilcoxon.ensures;
    })
