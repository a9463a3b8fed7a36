use Rattle.std.proofs.Common.{arith, ap, length}
use Rattle.report_text.proofs.Duals.{duals_all, duals_more}
use Rattle.report_text.proofs.page.Page.dual_lines.Goals as goal

pub loop-k-preserved : goal.loop-k-preserved
loop-k-preserved c =
    let s = c.args.segment.now in
    duals_more s.vertex.basis.rows s.basic_lo s.basic_hi c.requires.lo c.requires.hi c.loop-k.k _ _ _ _ _ _ (rw c.as_slice-row-items.ensures at c.loop-k-test.true) (rw c.as_slice-at_lo.ensures at c.index-at_lo-k.is)
    (rw c.as_slice-at_hi.ensures at c.index-at_hi-k.is) c.loop-k.invariant (rw c.as_slice-row-items.ensures at c.dual_line.ensures)

pub returns : goal.returns
returns c =
    let s = c.args.segment.now in
    duals_all s.vertex.basis.rows s.basic_lo s.basic_hi c.requires.lo c.requires.hi c.loop-k.k _ _
    (omega (arith, c.loop-k-test.false, c.loop-k.auto.k-end, ap length c.as_slice-row-items.ensures)) c.loop-k.invariant
