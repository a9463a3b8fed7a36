-- What the dual values of a segment show of all coefficients.
use Rattle.frac_core.specs.declared.frac128.Frac128.{Frac128}
use Rattle.frac_core.specs.Values.{value}
use Rattle.loss_model.specs.declared.problem.Problem.{Problem}
use Rattle.loss_model.specs.declared.process.Segment.{Segment}
use Rattle.loss_model.specs.Problem.{sample, number_at}
use Rattle.loss_model.specs.Segment.{dual_at}
use Rattle.quantile_laws.specs.Uniqueness.{MinimaByDuals}
use Rattle.real_laws.specs.OrderedRings.{OrderedRing}
use Rattle.real_laws.specs.Laws.{MinimisesBetweenIn}
use Rattle.run_laws.specs.Reports.{printed}
use Rattle.run_laws.specs.LeastReports.{IsLeastSegment}
use Rattle.run_laws.specs.ReadFits.{HasMinima}
use Rattle.run_laws.proofs.Segments.{IsShown}

module _ (p : Problem Frac128) (s : Segment) (shown : IsShown p s) where
  pub least : (R : OrderedRing) → MinimisesBetweenIn R → IsLeastSegment R p s
  least R between theta above below =
      between (sample value p) (printed s.lo) (printed s.hi) (number_at s.vertex.coef) (dual_at value p s.vertex s.basic_lo s.lo) (dual_at value p s.vertex s.basic_hi s.hi)
      shown.lo shown.hi theta above below

  pub minima : MinimaByDuals → HasMinima p s
  minima by =
      record {
        at_lo = λ c. by (sample value p) (printed s.lo) (number_at s.vertex.coef) (dual_at value p s.vertex s.basic_lo s.lo) c shown.lo;
        at_hi = λ c. by (sample value p) (printed s.hi) (number_at s.vertex.coef) (dual_at value p s.vertex s.basic_hi s.hi) c shown.hi;
      }
