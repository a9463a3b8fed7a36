use Rattle.rq_input.specs.Predicting.{HasRow}
use Rattle.rq_input.proofs.Predicting.{lacks_row}
use Rattle.rq_input.proofs.Lists.{zip_more_at}
use Rattle.rq_input.proofs.predictions.Predicting.rows_of.Goals as goal

pub returns-in-Err-clause-cause : goal.returns-in-Err-clause-cause
returns-in-Err-clause-cause c =
    let self = c.args.self.now in
    lacks_row self.frame.now self.model.now self.coding self.design.now c.args.records.now c.requires.asked c.loop-rec.rec-index _ c.loop-rec.rows c.in-Err.fault c.loop-rec-test.true c.loop-rec.invariant c.in-Err.ensures.fault

pub loop-rec-preserved : goal.loop-rec-preserved
loop-rec-preserved c =
    let self = c.args.self.now in
    zip_more_at (HasRow self.frame.now self.model.now self.coding self.design.now) c.args.records.now c.loop-rec.rec-index _ c.loop-rec.rows c.add.new.self c.in-Ok.row c.loop-rec-test.true c.loop-rec.invariant
    (record { is = c.in-Ok.ensures.row; wide = c.in-Ok.ensures.wide }) (c.in_ok-add.ensures {u = tt}).added
