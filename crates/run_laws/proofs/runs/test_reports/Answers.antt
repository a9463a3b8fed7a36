use Rattle.run_laws.proofs.Nested.{test_right}
use Rattle.run_laws.proofs.runs.test_reports.Goals as goal

pub returns : goal.returns
returns c = λ words source source' out out' err err' fit run. test_right c.statistic_is_square.ensures words source source' fit run.cause
