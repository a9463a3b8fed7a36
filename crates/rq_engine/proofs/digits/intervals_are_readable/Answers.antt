use Rattle.std.proofs.Common.{◌≤◌, length, refl, arith}
use Rattle.rq_engine.specs.Digits.{intervals_are_readable, interval_is_readable}
use Rattle.rq_engine.proofs.Readable.{tested_all, tested_more}
use Rattle.rq_engine.proofs.digits.intervals_are_readable.Goals as goal

pub loop-interval-preserved : goal.loop-interval-preserved
loop-interval-preserved c =
    tested_more interval_is_readable intervals_are_readable refl (λ x xs. refl) c.args.intervals.now c.loop-interval.interval-index c.interval-item.result c.loop-interval.all c.in_ok-here.here c.both-all.result
    c.loop-interval-test.true c.interval-item.is c.loop-interval.invariant (c.in_ok-here.ensures {u = tt}) c.both-all.ensures

pub returns : goal.returns
returns c =
    let over : length c.args.intervals.now ≤ c.loop-interval.interval-index = omega (arith, c.loop-interval-test.false) in
    tested_all interval_is_readable intervals_are_readable refl (λ x xs. refl) c.args.intervals.now c.loop-interval.interval-index c.loop-interval.all over c.loop-interval.invariant
