-- Law. What a printed report says of all coefficients that minimise, of the records, and of the fit at their centroid (Koenker
-- 2005, sections 2.2.2 and 2.5; Bassett and Koenker 1982).
use Rattle.std.specs.Prelude.{◌≡◌, ◌↔◌, ◌≤◌, ◌<◌, ◌+◌, ℕ, true, List, All, Option, None, length}
use Rattle.rational_laws.specs.Fraction.{Fraction, rational}
use Rattle.rational_laws.specs.Rational.{ℚ, ◌-ℚ◌, ◌*ℚ◌, ◌≤ℚ◌}
use Rattle.frac_core.specs.declared.frac128.Frac128.{Frac128}
use Rattle.frac_core.specs.Values.{value}
use Rattle.loss_model.specs.declared.problem.Problem.{Problem}
use Rattle.loss_model.specs.declared.process.Segment.{Segment}
use Rattle.loss_model.specs.Sample.{Sample, residual, Minimises}
use Rattle.loss_model.specs.Complements.{IsComplementary}
use Rattle.loss_model.specs.Problem.{sample, number_at}
use Rattle.loss_model.specs.Segment.{of_segment, dual_at}
use Rattle.quantile_laws.specs.Counts.{SplitsWeights, SplitsCounts, lies_below, lies_on, lies_above, is_up, is_down, is_basic, has_side}
use Rattle.quantile_laws.specs.Monotonicity.{at_centroid}
use Rattle.report_text.specs.declared.report.Fit.{Fit}
use Rattle.report_text.specs.declared.report.Report.{Report}
use Rattle.rq_cli.specs.Outcomes.{IsRun, Stream}
use Rattle.rq_cli.specs.declared.outcome.Outcome.TheVariants.{Done}
use Rattle.run_laws.specs.Reports.{printed, HasSegments, OnFit, IsReadFit}

-- ---- all coefficients that minimise

-- these dual values tell all coefficients that minimise at theta: those with a record above their fit only where its rankscore
-- is 1, and below it only where that is 0
abbrev pub TellMinima : Sample → ℚ → (ℕ → ℚ) → Type 0
TellMinima p theta e = (c : ℕ → ℚ) → Minimises p theta c ↔ IsComplementary p theta (residual p c) e

-- so do those of a segment, at both ends
pub record HasMinima (p : Problem Frac128) (s : Segment) : Type 0 where
  pub at_lo : TellMinima (sample value p) (printed s.lo) (dual_at value p s.vertex s.basic_lo s.lo)
  pub at_hi : TellMinima (sample value p) (printed s.hi) (dual_at value p s.vertex s.basic_hi s.hi)

-- and those of all segments of a printed report
abbrev pub ReportHasMinima : Type 0
ReportHasMinima =
    (words : List (List ℕ)) (source source' out out' err err' : Stream) (report : Report)
    → IsRun words source source' out out' err err' (Done report) → HasSegments words source source' report HasMinima

-- ---- the records

module _ (fit : Fit) where
  -- the observations and penalties, of which the first data_rows are the records
  abbrev pub observed : Sample
  observed = sample value fit.problem

  -- at theta the records with the mark 0 weigh at most the part theta of all, and with those with the mark * at least that;
  -- likewise those with the mark 1, and what theta leaves of 1
  abbrev pub MarksSplitAt : Segment → ℚ → Type 0
  MarksSplitAt s theta =
      let sides = s.vertex.sides in
      SplitsWeights observed fit.data_rows theta (has_side is_down sides) (has_side is_basic sides) (has_side is_up sides)

  -- the same of their numbers
  abbrev pub MarkCountsSplitAt : Segment → ℚ → Type 0
  MarkCountsSplitAt s theta =
      let sides = s.vertex.sides in
      SplitsCounts fit.data_rows theta (has_side is_down sides) (has_side is_basic sides) (has_side is_up sides)

  -- at theta all coefficients that minimise, whichever they are, split the weights of the records by the signs of their residuals
  abbrev pub MinimumSplitsAt : ℚ → Type 0
  MinimumSplitsAt theta =
      (c : ℕ → ℚ) → Minimises observed theta c
      → SplitsWeights observed fit.data_rows theta (lies_below observed c) (lies_on observed c) (lies_above observed c)

  -- so it is at both ends of a segment, and within it
  pub record IsSplitSegment (weights : Option (List ℕ)) (s : Segment) : Type 0 where
    pub marks_lo : MarksSplitAt s (printed s.lo)
    pub marks_hi : MarksSplitAt s (printed s.hi)
    pub counts_lo : weights ≡ None → MarkCountsSplitAt s (printed s.lo)
    pub counts_hi : weights ≡ None → MarkCountsSplitAt s (printed s.hi)
    pub minimum : (theta : Fraction) → 1 ≤ theta.den → printed s.lo ≤ℚ rational theta → rational theta ≤ℚ printed s.hi
        → MinimumSplitsAt (rational theta)

  -- what segment j predicts at the centroid of the records
  abbrev pub centroid_fit : ℕ → ℚ
  centroid_fit j = at_centroid observed fit.data_rows (λ k. of_segment fit.process.segments (λ s. number_at s.vertex.coef k) j)

  -- it never falls from one segment to a later one
  abbrev pub CentroidRises : Type 0
  CentroidRises = (j k : ℕ) → j ≤ k → k < length fit.process.segments → centroid_fit j ≤ℚ centroid_fit k

  -- ---- the losses

  -- the numbers of segment j
  abbrev pub lo_at : ℕ → ℚ
  lo_at = of_segment fit.process.segments (λ s. printed s.lo)

  abbrev pub hi_at : ℕ → ℚ
  hi_at = of_segment fit.process.segments (λ s. printed s.hi)

  abbrev pub loss_lo_at : ℕ → ℚ
  loss_lo_at = of_segment fit.process.segments (λ s. printed s.loss_lo)

  abbrev pub loss_hi_at : ℕ → ℚ
  loss_hi_at = of_segment fit.process.segments (λ s. printed s.loss_hi)

  -- the printed losses have no jump where two segments meet, and from one segment to a later one their slope never rises, as
  -- the cross product says: the least loss is a concave function of the quantile
  pub record AreConcaveLosses : Type 0 where
    pub joined : (j : ℕ) → j + 1 < length fit.process.segments → loss_hi_at j ≡ loss_lo_at (j + 1)
    pub falls : (j k : ℕ) → j ≤ k → k < length fit.process.segments
        → ((loss_hi_at k -ℚ loss_lo_at k) *ℚ (hi_at j -ℚ lo_at j)) ≤ℚ ((loss_hi_at j -ℚ loss_lo_at j) *ℚ (hi_at k -ℚ lo_at k))

-- ---- a report

-- the fit is of an input: where its formula has an intercept, every segment splits the records; at their centroid the fit never
-- falls; and its losses are concave
pub record IsReadOff (words : List (List ℕ)) (source source' : Stream) (fit : Fit) : Type 0 where
  pub of : IsReadFit words source source' fit
  pub split : of.is.2.model.intercept ≡ true → All (IsSplitSegment fit of.asked.job.weights) fit.process.segments
  pub centroid : CentroidRises fit
  pub losses : AreConcaveLosses fit

-- so it is of the fit in a printed report
abbrev pub FitIsRead : Type 0
FitIsRead =
    (words : List (List ℕ)) (source source' out out' err err' : Stream) (report : Report)
    → IsRun words source source' out out' err err' (Done report) → OnFit report (IsReadOff words source source')
