use Rattle.std.proofs.Common.{arith, ap, ◌∙◌}
use Rattle.loss_model.specs.Values.{exact_row}
use Rattle.rq_program.specs.Programs.{data_row}
use Rattle.rq_program.proofs.Rows.{mapped_zip_more, mapped_zip_all}
use Rattle.rq_program.proofs.program.put_data_rows.Goals as goal

pub loop-index-preserved : goal.loop-index-preserved
loop-index-preserved c =
    mapped_zip_more exact_row data_row c.args.design.now c.args.smooth.now c.loop-index.index _ _ _ _ _ _ c.loop-index-test.true c.requires c.index-design-index.is c.index-smooth-index.is c.loop-index.invariant
    c.in_ok-push.ensures.items (c.in_ok-data_row.ensures.made ∙ ap (λ z. data_row (c.index-design-index.result, z)) c.as_slice.ensures)

pub returns-clause-added : goal.returns-clause-added
returns-clause-added c = mapped_zip_all data_row c.args.design.now c.args.smooth.now c.loop-index.index _ _ c.requires (omega arith) c.loop-index.invariant
