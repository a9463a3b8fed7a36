use Rattle.std.proofs.Common.{ap, map, sym, ◌∙◌}
use Rattle.data_frame.specs.Views.{lent_column}
use Rattle.design_matrix.specs.Cells.{is_kept}
use Rattle.design_matrix.specs.Views.{weights_seen}
use Rattle.design_matrix.proofs.Steps.{keeps, passes_over}
use Rattle.design_matrix.proofs.kept.kept_records.Goals as goal
use Rattle.design_matrix.proofs.kept.kept_records.Goals.{then-is_kept+in_ok-push, else-is_kept}

pub loop-index-preserved : goal.loop-index-preserved
loop-index-preserved c =
    let used = c.args.used.now in
    elim c.if-is_kept.branch [
      | then-is_kept+in_ok-push w ↦ keeps (is_kept (map lent_column used.columns.items) (weights_seen used.weights)) _ _ _ c.loop-index.invariant
          (ap (λ v. v.items) w.kept-is ∙ w.in_ok-push.ensures.items) (sym c.is_kept.ensures ∙ w.if-is_kept.true)
      | else-is_kept w ↦ passes_over (is_kept (map lent_column used.columns.items) (weights_seen used.weights)) _ _ _ c.loop-index.invariant
          (ap (λ v. v.items) w.kept-is) (sym c.is_kept.ensures ∙ w.if-is_kept.false)
    ]
