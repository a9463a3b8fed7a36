use Rattle.std.proofs.Common.{arith, sym, ◌∙◌}
use Rattle.design_matrix.specs.Faults.{weight_fault, weights_fault}
use Rattle.design_matrix.specs.Views.{weights_seen}
use Rattle.design_matrix.proofs.Firsts.{below_all, below_found, below_more}
use Rattle.design_matrix.proofs.Weighed.{weight_found, weight_none}
use Rattle.design_matrix.proofs.weights.check_weights.Goals as goal

pub returns-then-is_lt-clause-fault : goal.returns-then-is_lt-clause-fault
unfolding weights_fault
returns-then-is_lt-clause-fault c =
    below_found (weight_fault (weights_seen c.args.weights.now)) c.loop-index.index c.args.records _ c.loop-index-test.true c.loop-index.invariant
    (weight_found (weights_seen c.args.weights.now) c.loop-index.index _ c.sign.ensures (sym c.is_lt.ensures ∙ c.if-is_lt.true))

pub loop-index-preserved : goal.loop-index-preserved
loop-index-preserved c =
    below_more (weight_fault (weights_seen c.args.weights.now)) c.loop-index.index c.loop-index.invariant
    (weight_none (weights_seen c.args.weights.now) c.loop-index.index _ c.sign.ensures (sym c.is_lt.ensures ∙ c.if-is_lt.false))

pub returns-clause-sound : goal.returns-clause-sound
unfolding weights_fault
returns-clause-sound c =
    below_all (weight_fault (weights_seen c.args.weights.now)) c.loop-index.index c.args.records c.loop-index-test.false (omega arith) c.loop-index.invariant
