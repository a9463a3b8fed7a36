use Rattle.std.proofs.Common.{◌≤◌, length, refl, arith}
use Rattle.ratio.specs.Lowest.{IsLowest}
use Rattle.cert_text.specs.Numbers.{are_narrow}
use Rattle.cert_text.specs.Ratios.{is_narrow}
use Rattle.cert_text.proofs.Walked.{walked_each, walked_more, walked_value}
use Rattle.cert_text.proofs.narrow.are_narrow.Goals as goal

pub loop-number-preserved : goal.loop-number-preserved
loop-number-preserved c =
    walked_more IsLowest is_narrow are_narrow refl (λ x xs. refl) c.args.numbers.now c.loop-number.number-index c.number-item.result c.loop-number.all c.is_narrow-here.result c.both-all.result
    c.loop-number-test.true c.number-item.is c.loop-number.invariant c.is_narrow-here.ensures.value c.is_narrow-here.ensures.lowest c.both-all.ensures

pub returns-clause-value : goal.returns-clause-value
returns-clause-value c =
    let over : length c.args.numbers.now ≤ c.loop-number.number-index = omega (arith, c.loop-number-test.false) in
    walked_value IsLowest is_narrow are_narrow refl (λ x xs. refl) c.args.numbers.now c.loop-number.number-index c.loop-number.all over c.loop-number.invariant

pub returns-clause-lowest : goal.returns-clause-lowest
returns-clause-lowest c =
    let over : length c.args.numbers.now ≤ c.loop-number.number-index = omega (arith, c.loop-number-test.false) in
    walked_each IsLowest is_narrow are_narrow refl (λ x xs. refl) c.args.numbers.now c.loop-number.number-index c.loop-number.all over c.loop-number.invariant
