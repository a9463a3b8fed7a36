use Rattle.std.proofs.Common.{◌<◌, length, arith, ap}
use Rattle.rankscores.proofs.Rankscores.{scored_more}
use Rattle.rankscores.proofs.segment.scores.Goals as goal

pub loop-place-preserved : goal.loop-place-preserved
loop-place-preserved g c =
    let within : c.loop-place.place < length c.args.segment.now.vertex.basis.rows = omega (arith, c.loop-place-test.true, ap length c.as_slice-place-end.ensures) in
    let pair = c.in_ok-pair.ensures {u = tt} in
    scored_more g.F.Exact.value c.args.problem.now c.args.data_rows c.args.segment.now c.loop-place.place c.loop-place.pairs c.add.new.self c.in_ok-pair.pair within c.loop-place.invariant
    pair.row pair.at_lo pair.at_hi (c.in_ok-add.ensures {u = tt}).added
