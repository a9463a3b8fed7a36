use Rattle.data_frame.specs.Views.{exact_table}
use Rattle.data_frame.proofs.Counting.{few_names}
use Rattle.rq_input.proofs.input.read_input.Goals as goal

pub table_input-requires-clause-few : goal.table_input-requires-clause-few
table_input-requires-clause-few c = few_names c.args.bytes.now (exact_table c.in-Ok.frame) c.in-Ok.ensures.table
