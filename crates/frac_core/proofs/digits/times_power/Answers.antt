use Rattle.std.proofs.Common.{arith, ◌<◌, ◌≤◌, ◌*◌, ◌∙◌}
use Rattle.frac_core.proofs.DigitSteps.{next_power, over_power}
use Rattle.frac_core.proofs.digits.times_power.Goals as goal

pub returns-in_err-value : goal.returns-in_err-value
returns-in_err-value c =
    let beyond : c.loop.value * 10 ≤ c.args.limit → ⊥ = c.in_err-value.ensures in
    let more : c.args.limit < c.loop.value * 10 = omega arith in
    let e = c.loop.invariant.value in
    rw c.from_residual.ensures (over_power c.args.number c.loop.counter c.args.power c.args.limit c.loop-test.true (rw e at more))

pub loop-preserved : goal.loop-preserved
loop-preserved c = record {
  value = c.in_ok-value.ensures.1 ∙ next_power c.loop.value c.args.number c.loop.counter c.loop.invariant.value;
  within = omega (arith, c.in_ok-value.ensures);
}
