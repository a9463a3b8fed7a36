use Rattle.real_laws.specs.RealLaws.{reals}
use Rattle.run_laws.specs.LeastReports.{IsLeastSegment}
use Rattle.run_laws.proofs.Segments.{on_segments}
use Rattle.run_laws.proofs.Least.{least}
use Rattle.run_laws.proofs.reports.report_is_least.Goals as goal

pub returns-clause-every : goal.returns-clause-every
returns-clause-every g c = λ words source source' out out' err err' report run.
    on_segments (IsLeastSegment g.N.Numbers.ring) (λ p s shown. least p s shown g.N.Numbers.ring c.minimum_everywhere.ensures.between) words source source' report run.cause

pub returns-clause-real : goal.returns-clause-real
returns-clause-real g c = λ words source source' out out' err err' report run.
    on_segments (IsLeastSegment reals) (λ p s shown. least p s shown reals c.minimum_over_reals.ensures.between) words source source' report run.cause
