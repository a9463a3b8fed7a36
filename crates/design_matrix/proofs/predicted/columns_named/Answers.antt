use Rattle.data_frame.specs.Views.{lent_column}
use Rattle.design_matrix.specs.Cells.{column_of}
use Rattle.design_matrix.proofs.Steps.{told_more}
use Rattle.design_matrix.proofs.predicted.columns_named.Goals as goal
use Rattle.std.proofs.lemmas.List.{get_or_default}

pub loop-name-preserved : goal.loop-name-preserved
loop-name-preserved c =
    told_more lent_column (column_of c.args.frame.now) (λ n. n.now) _ _ _ _ _ _ c.loop-name-test.true (get_or_default c.args.names.now c.loop-name.name-index _ _ c.loop-name-test.true)
    c.loop-name.invariant c.in_ok-push.ensures.items c.column.ensures
