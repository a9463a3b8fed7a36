use Rattle.std.proofs.Common.{◌≤◌, length, refl, arith}
use Rattle.rq_engine.specs.Digits.{are_readable, is_readable}
use Rattle.rq_engine.proofs.Readable.{tested_all, tested_more}
use Rattle.rq_engine.proofs.digits.are_readable.Goals as goal

pub loop-number-preserved : goal.loop-number-preserved
loop-number-preserved c =
    tested_more is_readable are_readable refl (λ x xs. refl) c.args.numbers.now c.loop-number.number-index c.number-item.result c.loop-number.all c.in_ok-here.here c.both-all.result
    c.loop-number-test.true c.number-item.is c.loop-number.invariant (c.in_ok-here.ensures {u = tt}) c.both-all.ensures

pub returns : goal.returns
returns c =
    let over : length c.args.numbers.now ≤ c.loop-number.number-index = omega (arith, c.loop-number-test.false) in
    tested_all is_readable are_readable refl (λ x xs. refl) c.args.numbers.now c.loop-number.number-index c.loop-number.all over c.loop-number.invariant
