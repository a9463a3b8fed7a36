use Rattle.std.proofs.Common.{◌≡◌, ◌≤◌, ◌-◌, length, ap, arith}
use Rattle.rank_inversion.proofs.Inverted.{joined_is}
use Rattle.rank_inversion.proofs.inversion.Inversion.interval.Goals as goal

pub rise_stop-requires-clause-halted : goal.rise_stop-requires-clause-halted
rise_stop-requires-clause-halted g c κs within =
    let v = c.args.self.now in
    let made : length c.as_slice.result.now ≡ length v.solved.now.trail.steps = ap length c.as_slice.ensures in
    let short : length v.solved.now.trail.steps ≤ v.limit = c.requires.ready.short in
    record {
      left = v.limit - length c.as_slice.result.now;
      count = omega (arith, made, short);
      halted = (c.in-Err.ensures {u = tt}).halted;
    }

pub fall_stop-requires-clause-risen : goal.fall_stop-requires-clause-risen
fall_stop-requires-clause-risen g c κs within =
    let v = c.args.self.now in
    let made : length c.as_slice.result.now ≡ length v.solved.now.trail.steps = ap length c.as_slice.ensures in
    let short : length v.solved.now.trail.steps ≤ v.limit = c.requires.ready.short in
    record {
      left = v.limit - length c.as_slice.result.now;
      count = omega (arith, made, short);
      ended = (c.in-Ok.ensures {u = tt}).ended;
    }

pub fall_stop-requires-clause-halted : goal.fall_stop-requires-clause-halted
fall_stop-requires-clause-halted g c κs within =
    let v = c.args.self.now in
    let made : length c.as_slice.result.now ≡ length v.solved.now.trail.steps = ap length c.as_slice.ensures in
    let short : length v.solved.now.trail.steps ≤ v.limit = c.requires.ready.short in
    let risen : length c.as_slice-2.result.now ≡ length c.in-Ok.rise.steps = ap length c.as_slice-2.ensures in
    let few : length c.in-Ok.rise.steps ≤ v.limit - length c.as_slice.result.now = (c.in-Ok.ensures {u = tt}).ended.short in
    record {
      left = v.limit - length c.as_slice.result.now - length c.as_slice-2.result.now;
      count = omega (arith, made, short, risen, few);
      halted = (c.in-Err-walk.ensures {u = tt}).halted;
    }

pub returns-in-Ok-joined-clause-interval : goal.returns-in-Ok-joined-clause-interval
returns-in-Ok-joined-clause-interval g c =
    let v = c.args.self.now in
    let made : length c.as_slice.result.now ≡ length v.solved.now.trail.steps = ap length c.as_slice.ensures in
    let short : length v.solved.now.trail.steps ≤ v.limit = c.requires.ready.short in
    let up = c.in-Ok.rise in
    let risen : length c.as_slice-2.result.now ≡ length up.steps = ap length c.as_slice-2.ensures in
    let ended = (c.in-Ok.ensures {u = tt}).ended in
    let few : length up.steps ≤ v.limit - length c.as_slice.result.now = ended.short in
    rw (c.in-Ok-joined.ensures {u = tt})
    (joined_is g.F.Exact.value v c.requires.ready c.args.factors c.requires.tested up c.in-Ok-walk.fall
    (record { left = v.limit - length c.as_slice.result.now; count = omega (arith, made, short); ended = ended })
    (record {
      left = v.limit - length c.as_slice.result.now - length c.as_slice-2.result.now;
      count = omega (arith, made, short, risen, few);
      ended = (c.in-Ok-walk.ensures {u = tt}).ended;
    }))
