use Rattle.std.proofs.Common.{◌++◌, ap, ◌∙◌}
use Rattle.rq_program.proofs.Rows.{padded_row}
use Rattle.rq_program.proofs.program.penalty_row.Goals as goal

pub returns-clause-made : goal.returns-clause-made
returns-clause-made c =
    padded_row c.args.width c.args.penalty.now c.zero.result c.zero-2.result c.zero-3.result c.zero-4.result _ _ c.zero.ensures c.zero-2.ensures c.zero-3.ensures c.zero-4.ensures
    (c.in_ok-x.ensures.items_if_clones_equal (λ y h. h)) (c.from.ensures ∙ c.in_ok-extend_from_slice.ensures.items ∙ ap (λ z. c.in_ok-x.x.items ++ z) c.as_slice.ensures)
