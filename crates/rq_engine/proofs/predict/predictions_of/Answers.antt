use Rattle.rq_input.proofs.Lists.{zip_more}
use Rattle.rq_engine.specs.Predicted.{IsPredictionBy}
use Rattle.rq_engine.proofs.predict.predictions_of.Goals as goal

pub loop-row-preserved : goal.loop-row-preserved
loop-row-preserved c lo hi covers =
    zip_more (IsPredictionBy lo hi c.args.process.now.segments) c.args.rows.now c.loop-row.row-index c.row-item.result c.loop-row.predictions c.add.new.self c.in_ok-prediction.prediction c.loop-row-test.true c.row-item.is
    (c.loop-row.invariant lo hi covers) ((c.in_ok-prediction.ensures {u = tt}) lo hi covers) (c.in_ok-add.ensures {u = tt}).added
