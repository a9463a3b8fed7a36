use Rattle.std.proofs.Common.{◌≡◌, ◌≤◌, ◌-◌, length, ap, arith, subst}
use Rattle.rank_steps.specs.declared.way.Way.TheVariants.{Rise, Fall}
use Rattle.rank_tableau.specs.Sides.{course_of}
use Rattle.rank_tableau.specs.Walks.{IsEnded}
use Rattle.rank_tableau.proofs.sides.both_sides.Goals as goal

pub returns-in-Ok : goal.returns-in-Ok
returns-in-Ok g c =
    let value = g.F.Exact.value in
    let k = c.args.start.now in
    let asked = c.args.asked.now in
    let limit = c.args.limit in
    let test = c.in_ok-test.ensures {u = tt} in
    let up = c.in_ok-rise.rise in
    let down = c.in-Ok.fall in
    let rise = subst (λ b. IsEnded value k.problem (course_of asked Rise) b k.rows limit up) test.bound (c.in_ok-rise.ensures {u = tt}) in
    let fall = subst (λ b. IsEnded value k.problem (course_of asked Fall) b k.rows (limit - length c.as_slice.result.now) down) test.bound (c.in-Ok.ensures {u = tt}) in
    let few : length up.steps ≤ limit = rise.short in
    let made : length c.as_slice.result.now ≡ length up.steps = ap length c.as_slice.ensures in
    let rest : length down.steps ≤ limit - length c.as_slice.result.now = fall.short in
    record {
      size = test.size;
      projection = test.projection;
      positive = test.positive;
      rise = rise;
      fall = record { walked = fall.walked; ended = fall.ended; short = omega (arith, few, made, rest) };
      short = omega (arith, few, made, rest);
    }
