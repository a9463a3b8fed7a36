use Rattle.std.proofs.Common.{◌≤◌, length, refl, arith}
use Rattle.ratio.specs.Lowest.{IsLowest}
use Rattle.cert_text.specs.Numbers.{intervals_are_narrow, IntervalHas, interval_is_narrow}
use Rattle.cert_text.proofs.Walked.{walked_each, walked_more, walked_value}
use Rattle.cert_text.proofs.narrow.intervals_are_narrow.Goals as goal

pub loop-interval-preserved : goal.loop-interval-preserved
loop-interval-preserved c =
    walked_more (IntervalHas IsLowest) interval_is_narrow intervals_are_narrow refl (λ x xs. refl) c.args.intervals.now c.loop-interval.interval-index c.interval-item.result c.loop-interval.all c.interval_is_narrow-here.result c.both-all.result
    c.loop-interval-test.true c.interval-item.is c.loop-interval.invariant c.interval_is_narrow-here.ensures.value c.interval_is_narrow-here.ensures.lowest c.both-all.ensures

pub returns-clause-value : goal.returns-clause-value
returns-clause-value c =
    let over : length c.args.intervals.now ≤ c.loop-interval.interval-index = omega (arith, c.loop-interval-test.false) in
    walked_value (IntervalHas IsLowest) interval_is_narrow intervals_are_narrow refl (λ x xs. refl) c.args.intervals.now c.loop-interval.interval-index c.loop-interval.all over c.loop-interval.invariant

pub returns-clause-lowest : goal.returns-clause-lowest
returns-clause-lowest c =
    let over : length c.args.intervals.now ≤ c.loop-interval.interval-index = omega (arith, c.loop-interval-test.false) in
    walked_each (IntervalHas IsLowest) interval_is_narrow intervals_are_narrow refl (λ x xs. refl) c.args.intervals.now c.loop-interval.interval-index c.loop-interval.all over c.loop-interval.invariant
