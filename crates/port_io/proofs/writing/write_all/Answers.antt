use Rattle.std.proofs.Common.{arith, ◌∙◌}
use Rattle.port_io.proofs.Pieces.{length-tail, more_appended}
use Rattle.port_io.proofs.writing.write_all.Goals as goal

pub loop-at-preserved : goal.loop-at-preserved
loop-at-preserved g c = record {
  within = omega (arith, length-tail c.loop-at.at c.args.bytes.now, c.in_ok-at.ensures.bound);
  added = more_appended _ _ _ _ _ _ c.loop-at.invariant.added c.in_ok-at.ensures.bytes;
  kept = c.in_ok-at.ensures.counted.kept ∙ c.loop-at.invariant.kept;
}
