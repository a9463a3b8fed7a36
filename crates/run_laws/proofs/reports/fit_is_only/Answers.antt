use Rattle.real_laws.specs.RealLaws.{reals}
use Rattle.run_laws.proofs.Fits.{on_fit}
use Rattle.run_laws.proofs.Only.{only_fit}
use Rattle.run_laws.proofs.reports.fit_is_only.Goals as goal

pub returns-clause-every : goal.returns-clause-every
returns-clause-every g c = λ words source source' out out' err err' report run.
    on_fit words source source' _
    (only_fit g.N.Numbers.ring c.unique_everywhere.ensures.unique c.unique_everywhere.ensures.between c.unique_minimum.ensures.score c.unique_minimum.ensures.scores words source source')
    report run.cause

pub returns-clause-real : goal.returns-clause-real
returns-clause-real g c = λ words source source' out out' err err' report run.
    on_fit words source source' _
    (only_fit reals c.unique_everywhere.ensures.real c.unique_everywhere.ensures.real_between c.unique_minimum.ensures.score c.unique_minimum.ensures.scores words source source')
    report run.cause
