use Rattle.data_frame.specs.Views.{exact_table}
use Rattle.data_frame.proofs.Counting.{few_names}
use Rattle.std.proofs.Common.{refl}
use Rattle.rq_input.proofs.plain.read_plain.Goals as goal

pub plain_model-requires-clause-few : goal.plain_model-requires-clause-few
plain_model-requires-clause-few c = few_names c.args.bytes.now (exact_table c.in-Ok.frame) c.in-Ok.ensures.table

pub returns-in-Ok-plain_model-clause-is : goal.returns-in-Ok-plain_model-clause-is
returns-in-Ok-plain_model-clause-is c = (c.in-Ok.frame, c.in-Ok.ensures.table, record { model = c.in-Ok-plain_model.model; by = c.in-Ok-plain_model.ensures.plain; intercept = refl })
