use Rattle.std.proofs.Common.{◌≤◌, ◌<◌, ◌^◌, ◌*◌, ◌∙◌, arith}
use Rattle.design_matrix.specs.Views.{coded_seen}
use Rattle.design_matrix.proofs.Counts.{count_more, product_fits}
use Rattle.design_matrix.proofs.parts.count_of.Goals as goal

pub overflow_mul-columns : goal.overflow_mul-columns
overflow_mul-columns c =
    let few : c.loop-variable.columns ≤ 129 = omega arith in
    let narrow : c.from.result < 2 ^ 32 = omega arith in
    let fits : c.loop-variable.columns * c.from.result < 2 ^ 64 = product_fits _ _ few narrow in
    omega (arith, fits)

pub loop-variable-preserved : goal.loop-variable-preserved
loop-variable-preserved c =
    count_more coded_seen _ _ _ _ _ _ c.loop-variable-test.true c.variable-item.is c.loop-variable.invariant (c.from.ensures ∙ c.width.ensures) c.capped-columns.ensures
