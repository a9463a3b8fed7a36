use Rattle.std.proofs.Common.{◌≡◌, arith, subst}
use Rattle.gram_inverse.specs.Columns.{AreWeightedBelow}
use Rattle.gram_inverse.proofs.columns.weighted_columns.Goals as goal

pub returns : goal.returns
returns g c =
    let end : c.loop-column.column ≡ c.args.problem.now.columns = omega (arith, c.loop-column-test.false, c.loop-column.auto.column-end) in
    subst (λ n. AreWeightedBelow g.F.Exact.value c.args.problem.now n c.loop-column.made) end
    (record { size = c.loop-column.invariant.size; square = c.loop-column.invariant.square; each = c.loop-column.invariant.each })
