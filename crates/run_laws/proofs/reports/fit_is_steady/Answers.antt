use Rattle.run_laws.specs.SteadyReports.{IsSteady}
use Rattle.run_laws.proofs.Segments.{on_segments}
use Rattle.run_laws.proofs.Steady.{steady}
use Rattle.run_laws.proofs.reports.fit_is_steady.Goals as goal

pub returns : goal.returns
returns c = λ words source source' out out' err err' report run.
    on_segments IsSteady (steady c.moved_responses.ensures.moved) words source source' report run.cause
