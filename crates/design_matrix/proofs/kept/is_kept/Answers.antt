use Rattle.std.proofs.Common.{Bool, ap, map, sym, ◌∙◌}
use Rattle.std.specs.List.{list_all}
use Rattle.data_frame.specs.Views.{lent_column}
use Rattle.design_matrix.specs.Cells.{Column, is_present}
use Rattle.design_matrix.specs.Views.{weights_seen}
use Rattle.design_matrix.proofs.Steps.{list_all-map}
use Rattle.design_matrix.proofs.Weighed.{kept_by_weight, left_out}
use Rattle.design_matrix.proofs.kept.is_kept.Goals as goal

pub returns-then-is_complete : goal.returns-then-is_complete
returns-then-is_complete c =
    let used = c.args.used.now in
    let test : Column → Bool = λ column. is_present column c.args.index in
    let complete = c.is_complete.ensures ∙ ap (list_all (λ column. test (lent_column column))) c.deref.ensures.value ∙ sym (list_all-map lent_column test used.columns.items) in
    kept_by_weight (weights_seen used.weights) c.args.index _ c.sign.ensures (map lent_column used.columns.items) _ _ complete c.if-is_complete.true c.is_ne.ensures

pub returns-else-is_complete : goal.returns-else-is_complete
returns-else-is_complete c =
    let used = c.args.used.now in
    let test : Column → Bool = λ column. is_present column c.args.index in
    let complete = c.is_complete.ensures ∙ ap (list_all (λ column. test (lent_column column))) c.deref.ensures.value ∙ sym (list_all-map lent_column test used.columns.items) in
    left_out (map lent_column used.columns.items) (weights_seen used.weights) c.args.index _ complete c.if-is_complete.false
