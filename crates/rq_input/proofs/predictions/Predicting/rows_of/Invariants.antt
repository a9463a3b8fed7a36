use Rattle.std.proofs.Common.{take}
use Rattle.std.specs.List.{AllZip}
use Rattle.rq_input.specs.Predicting.{HasRow}
use Rattle.rq_input.proofs.predictions.Predicting.rows_of.Given as goal

abbrev pub invariant-loop-rec : goal.invariant-loop-rec
invariant-loop-rec l = AllZip (HasRow l.self.frame.now l.self.model.now l.self.coding l.self.design.now) (take l.rec-index l.records) l.rows
