use Rattle.std.proofs.Common.{◌∙◌, pos_of_ne-zero}
use mir.Syntax.{w128}
use Rattle.frac_core.proofs.Binary.{binary_step, gcd_same, gap_none}
use Rattle.frac_core.proofs.divisor.wide_odd_divisor.Goals as goal

pub returns-then-gap-eq0 : goal.returns-then-gap-eq0
returns-then-gap-eq0 c = gcd_same _ _ (gap_none _ _ _ c.abs_diff-gap.ensures c.if-gap-eq0.true) ∙ c.loop-u.invariant.2

pub loop-u-preserved : goal.loop-u-preserved
loop-u-preserved c =
    let i = c.loop-u.invariant in
    let s = binary_step w128 c.loop-u.u c.loop-u.v c.min-u.result c.abs_diff-gap.result i.0 i.1 c.min-u.ensures c.abs_diff-gap.ensures (pos_of_ne-zero c.if-gap-eq0.false) c.abs_diff-gap.type_inv in
    (s.0, s.1, s.2 ∙ i.2)
