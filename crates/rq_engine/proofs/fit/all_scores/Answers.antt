use Rattle.rankscores.specs.Scores.{IsScored}
use Rattle.rq_input.proofs.Lists.{zip_more}
use Rattle.rq_engine.proofs.fit.all_scores.Goals as goal

pub loop-number-preserved : goal.loop-number-preserved
loop-number-preserved g c =
    zip_more (IsScored g.F.Exact.value c.args.problem.now c.args.data_rows) c.args.segments.now c.loop-number.number c.index-segments-number.result c.loop-number.all c.add.new.self
    c.in_ok-pairs.pairs c.loop-number-test.true c.index-segments-number.is c.loop-number.invariant (c.in_ok-pairs.ensures {u = tt}) (c.in_ok-add.ensures {u = tt}).added
