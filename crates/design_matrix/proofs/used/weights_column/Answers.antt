use Rattle.std.proofs.Common.{[], Some, ap, option_copied, sym, unwrap_or, ◌∙◌}
use Rattle.data_frame.specs.Cells.{factor}
use Rattle.design_matrix.specs.Cells.{column_of, weights_in}
use Rattle.design_matrix.proofs.used.weights_column.Goals as goal

pub returns-in-Some-column-clause-weights : goal.returns-in-Some-column-clause-weights
unfolding column_of
returns-in-Some-column-clause-weights c =
    ap (λ o. Some (unwrap_or o (factor []))) c.in-Some-column.ensures.column
    ∙ ap (λ w. weights_in c.args.frame.now (option_copied w)) (sym c.in-Some.is)
