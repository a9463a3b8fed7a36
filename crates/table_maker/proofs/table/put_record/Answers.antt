-- One more cell of a record.
use Rattle.std.proofs.Common.{◌++◌, ◌+◌, codes, decimal, arith, refl, ap, ◌∙◌}
use Rattle.std.proofs.lemmas.Result.{on_ok_weaker}
use Rattle.table_maker.specs.Tables.{next_number, number_after, cell_of, cell, next_cell}
use Rattle.table_maker.proofs.Steps.{one_more, line_made, after_more}
use Rattle.table_maker.proofs.table.put_record.Goals as goal

pub loop-preserved : goal.loop-preserved
loop-preserved c = λ number k e.
    let i = c.loop.counter in
    let h = c.loop.invariant number k e in
    let stepped = ap next_number h.1 ∙ after_more number (k + i) (k + 1 + i) (omega arith) in (
      one_more (next_cell number) (k + 1) i (k + 1 + i) _ _ _ refl h.0
          (c.in_ok-put_cell.ensures ∙ ap (λ n. c.loop.table.items ++ (codes "," ++ decimal n)) (c.next_cell-cell.ensures.cell ∙ ap cell_of stepped)),
      c.next_cell-cell.ensures.number ∙ stepped ∙ ap (number_after number) (omega arith),
    )

pub returns-clause-text : goal.returns-clause-text
returns-clause-text c =
    on_ok_weaker c.put.result (λ e number k g.
    let stepped = ap next_number g ∙ after_more number k (k + 1) refl in
    let h = c.loop.invariant number (k + 1) (c.next_cell-first.ensures.number ∙ stepped) in
    line_made (next_cell number) (k + 1 + 1) c.loop.counter c.args.columns _ _ _ _ (decimal (cell number (k + 1))) (codes "\n")
    c.loop-test.false c.loop.auto.counter-end
    (c.in_ok-put_count.ensures ∙ ap (λ n. c.args.table.now.items ++ decimal n) (c.next_cell-first.ensures.cell ∙ ap cell_of stepped)) h.0 e)
    c.put.ensures

pub returns-clause-number : goal.returns-clause-number
returns-clause-number c =
    on_ok_weaker c.put.result (λ e number k g.
    let h = c.loop.invariant number (k + 1) (c.next_cell-first.ensures.number ∙ ap next_number g ∙ after_more number k (k + 1) refl) in
    h.1 ∙ ap (number_after number) (omega (arith, c.loop-test.false, c.loop.auto.counter-end)))
    c.put.ensures
