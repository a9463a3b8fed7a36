use Rattle.std.proofs.Common.{w64, ◌∙◌}
use Rattle.frac_core.proofs.Binary.{binary_step, gcd_same, gap_pos}
use Rattle.frac_core.proofs.divisor.narrow_odd_divisor.Goals as goal

pub loop-u-preserved : goal.loop-u-preserved
loop-u-preserved c =
    let i = c.loop-u.invariant in
    let s = binary_step w64 c.loop-u.u c.loop-u.v c.min-u.result c.abs_diff-gap.result i.0 i.1 c.min-u.ensures c.abs_diff-gap.ensures (gap_pos _ _ _ c.abs_diff-gap.ensures c.loop-u-test.true) c.abs_diff-gap.type_inv in
    (s.0, s.1, s.2 ∙ i.2)

pub returns : goal.returns
returns c = gcd_same _ _ c.loop-u-test.false ∙ c.loop-u.invariant.2
