use Rattle.std.proofs.Common.{length, take}
use Rattle.std.specs.List.{AllZip}
use Rattle.rational_laws.specs.Rational.{ℚ}
use Rattle.frac_core.specs.Values.{value}
use Rattle.loss_model.specs.Segment.{Covers, segments_of}
use Rattle.rq_engine.specs.Predicted.{IsPredictionBy}
use Rattle.rq_engine.proofs.predict.predictions_of.Given as goal

abbrev pub invariant-loop-row : goal.invariant-loop-row
invariant-loop-row l =
    (lo hi : ℚ) → Covers (length l.problem.rows) lo hi (segments_of value l.problem l.process.segments) → AllZip (IsPredictionBy lo hi l.process.segments) (take l.row-index l.rows) l.predictions
