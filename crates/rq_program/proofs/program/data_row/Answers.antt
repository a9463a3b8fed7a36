use Rattle.std.proofs.Common.{◌∙◌}
use Rattle.rq_program.proofs.Rows.{joined_row}
use Rattle.rq_program.proofs.program.data_row.Goals as goal

pub returns-clause-made : goal.returns-clause-made
returns-clause-made c =
    joined_row c.args.row.now c.args.smooth.now c.in_ok-x.x.items c.as_slice-2.result.now c.extend_from_slice.new.self.items c.from.result c.zero.result c.neg.result
    c.zero.ensures c.neg.ensures c.in_ok-x.ensures.items c.as_slice-2.ensures c.in_ok-extend_from_slice.ensures.items (c.from.ensures ∙ c.in_ok-extend_from_slice-2.ensures.items)
