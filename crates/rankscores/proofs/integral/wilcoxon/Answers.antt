use Rattle.std.proofs.Common.{◌≡◌, ◌<◌, length, ap, arith}
use Rattle.rankscores.proofs.Wilcoxons.{first_all, first_more}
use Rattle.rankscores.proofs.integral.wilcoxon.Goals as goal

pub wilcoxon_of-requires-after_bounds : goal.wilcoxon_of-requires-after_bounds
wilcoxon_of-requires-after_bounds g c κs bounds =
    let within : c.loop-row.row < length c.args.problem.now.rows = omega (arith, c.loop-row-test.true, ap length c.as_slice-row-end.ensures) in
    rw c.as_slice-segments.ensures (record { inside = within; data_rows = c.requires.data; scorable = c.requires.scorable; covers = c.requires.covers })

pub loop-row-preserved : goal.loop-row-preserved
loop-row-preserved g c =
    first_more g.F.Exact.value c.args.problem.now c.args.process.now.segments c.requires.covers c.loop-row.row c.loop-row.scores c.add.new.self c.in_ok-score.score c.loop-row.invariant
    (rw c.as_slice-segments.ensures at (c.in_ok-score.ensures {u = tt})) (c.in_ok-add.ensures {u = tt}).added

pub returns : goal.returns
returns g c =
    let end : c.loop-row.row ≡ length c.args.problem.now.rows = omega (arith, c.loop-row-test.false, c.loop-row.auto.row-end, ap length c.as_slice-row-end.ensures) in
    first_all g.F.Exact.value c.args.problem.now c.args.process.now.segments c.loop-row.row c.loop-row.scores end c.loop-row.invariant
