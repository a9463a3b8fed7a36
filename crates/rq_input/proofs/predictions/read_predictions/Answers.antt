use Rattle.data_frame.specs.Views.{exact_table}
use Rattle.data_frame.proofs.Counting.{few_names}
use Rattle.rq_input.proofs.Predicting.{problem_entries}
use Rattle.rq_input.proofs.predictions.read_predictions.Goals as goal

pub plain_model-requires-clause-few : goal.plain_model-requires-clause-few
plain_model-requires-clause-few c = few_names c.args.bytes.now (exact_table c.in-Ok.frame) c.in-Ok.ensures.table

pub returns-in-Ok-rows-clause-entries : goal.returns-in-Ok-rows-clause-entries
returns-in-Ok-rows-clause-entries c = problem_entries c.args.job.now c.in-Ok.frame c.in-Ok-plain_model.found.0 c.in-Ok-plain_model.found.1 c.in-Ok-plain_model.ensures.plain c.in-Ok-rows.rows c.in-Ok-rows.ensures.entries
