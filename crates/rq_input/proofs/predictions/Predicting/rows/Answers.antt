use Rattle.std.proofs.Common.{arith, ap, length, subst, sym, ◌∙◌}
use Rattle.std.specs.List.{AllZip}
use Rattle.rq_input.specs.Predicting.{HasRow}
use Rattle.rq_input.proofs.Predicting.{all_entries, are_predicted, predicted_few, some_items}
use Rattle.rq_input.proofs.predictions.Predicting.rows.Goals as goal

pub overflow_cast-result : goal.overflow_cast-result
overflow_cast-result c =
    let self = c.args.self.now in
    omega (arith, predicted_few self.frame.now self.model.now, c.records-most.ensures, ap length c.as_slice-records.ensures, ap length c.in-Ok.ensures)

pub returns-in-Ok-rows_of-clause-rows : goal.returns-in-Ok-rows_of-clause-rows
returns-in-Ok-rows_of-clause-rows c =
    let self = c.args.self.now in
    let same = c.as_slice-records.ensures ∙ c.in-Ok.ensures in
    let size = ap length same in
    let some = some_items (length c.as_slice-records.result.now) (sym c.if-is_empty.false ∙ c.is_empty.ensures) in
    are_predicted self.frame.now self.model.now self.coding self.design.now c.in-Ok-rows_of.rows (omega (arith, some, size)) (omega (arith, c.if-records-gt-MOST_PREDICTIONS.false, size))
    (subst (λ l. AllZip (HasRow self.frame.now self.model.now self.coding self.design.now) l c.in-Ok-rows_of.rows) same c.in-Ok-rows_of.ensures.rows)

pub returns-in-Ok-rows_of-clause-entries : goal.returns-in-Ok-rows_of-clause-entries
returns-in-Ok-rows_of-clause-entries c =
    let self = c.args.self.now in
    all_entries self.frame.now self.model.now self.coding self.design.now c.requires.few c.requires.built.buildable.counted.offsets c.as_slice-records.result.now c.in-Ok-rows_of.rows c.in-Ok-rows_of.ensures.rows
