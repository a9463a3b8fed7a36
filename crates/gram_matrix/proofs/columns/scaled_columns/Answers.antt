use Rattle.std.proofs.Common.{◌≡◌, arith, subst}
use Rattle.gram_matrix.specs.GramRows.{AreScaledBelow}
use Rattle.gram_matrix.proofs.columns.scaled_columns.Goals as goal

pub returns-clause-scaled : goal.returns-clause-scaled
returns-clause-scaled g c =
    let end : c.loop-column.column ≡ c.args.problem.now.columns = omega (arith, c.loop-column-test.false, c.loop-column.auto.column-end) in
    subst (λ n. AreScaledBelow g.F.Exact.value c.args.problem.now n c.loop-column.made) end
    (record { size = c.loop-column.invariant.size; square = c.loop-column.invariant.square; each = c.loop-column.invariant.each })
