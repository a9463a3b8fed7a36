use Rattle.run_laws.specs.ReadFits.{HasMinima, IsReadOff}
use Rattle.run_laws.proofs.Segments.{on_segments}
use Rattle.run_laws.proofs.Least.{minima}
use Rattle.run_laws.proofs.Fits.{on_fit}
use Rattle.run_laws.proofs.Read.{read_fit}
use Rattle.run_laws.proofs.reports.fit_is_read.Goals as goal

pub returns-clause-minima : goal.returns-clause-minima
returns-clause-minima c = λ words source source' out out' err err' report run.
    on_segments HasMinima (λ p s shown. minima p s shown c.unique_minimum.ensures.minima) words source source' report run.cause

pub returns-clause-read : goal.returns-clause-read
returns-clause-read c = λ words source source' out out' err err' report run.
    on_fit words source source' (IsReadOff words source source')
    (read_fit c.split_by_quantile.ensures.weights c.split_by_quantile.ensures.side_weights c.split_by_quantile.ensures.side_counts
    c.centroid_never_falls.ensures.along c.least_loss.ensures.continuous c.least_loss.ensures.line c.least_loss.ensures.falls words source source')
    report run.cause
