-- Stated. The right fit of a problem over a range of quantiles (Koenker 2005; Koenker and d'Orey 1987). A type F of
-- fractions is seen by a function into pairs.
use Rattle.std.specs.Prelude.{◌≡◌, ℕ, ◌+◌, ◌<◌, ◌≤◌, List, ◌++◌, length, All}
use Rattle.std.specs.List.{AllZip}
use Rattle.rational_laws.specs.Rational.{ℚ, ◌≤ℚ◌}
use Rattle.rational_laws.specs.Fraction.{Fraction, rational}
use Rattle.frac_core.specs.declared.frac128.Frac128.{Frac128}
use Rattle.frac_core.specs.Values.{value}
use Rattle.loss_model.specs.declared.problem.Problem.{Problem}
use Rattle.loss_model.specs.declared.process.Process.{Process}
use Rattle.loss_model.specs.declared.process.Segment.{Segment}
use Rattle.loss_model.specs.declared.vertex.Vertex.{Vertex}
use Rattle.loss_model.specs.Sample.{loss, Minimises}
use Rattle.loss_model.specs.Dual.{IsDual, mix}
use Rattle.loss_model.specs.Problem.{number_at, sample, IsWellShaped}
use Rattle.loss_model.specs.Segment.{Covers, dual_at, segments_of}
use Rattle.loss_model.specs.Vertex.{dual_value, IsVertexOf}
use Rattle.ratio.specs.Lowest.{IsLowest}
use Rattle.cert_text.specs.Numbers.{SegmentHas}
use Rattle.tau_process.specs.Processes.{HasResults}
use Rattle.tau_process.specs.Stops.{IsLimited}
use Rattle.rq_words.specs.declared.job.FitJob.{FitJob}
use Rattle.rankscores.specs.Scores.{IsScored}
use Rattle.rq_engine.specs.Intervals.{AreRightIntervals, asked_by}
use Rattle.rq_engine.specs.Lowest.{IsLowestInterval, IsLowestPair}
use Rattle.report_text.specs.declared.report.Fit.{Fit}
use Rattle.rq_input.specs.declared.input.Input.{Input}

module _ {F : Type 0} (value : F → Fraction) (p : Problem F) where
  -- at theta the vertex minimises, its dual values are of equal cost, and this is what it loses
  pub record IsOptimalAt (v : Vertex) (theta : ℚ) (values : List Fraction) (cost : Fraction) : Type 0 where
    pub basic : length values ≡ length v.basis.rows
    pub minimises : Minimises (sample value p) theta (number_at v.coef)
    pub dual : IsDual (sample value p) theta (number_at v.coef) (dual_value value p v values theta)
    pub lost : rational cost ≡ loss (sample value p) theta (number_at v.coef)

  -- the mix, m to n, of the dual values of row i at both ends of the segment
  abbrev pub mixed_dual : Segment → ℕ → ℕ → ℕ → ℚ
  mixed_dual s m n i =
      mix m n (dual_at value p s.vertex s.basic_lo s.lo i) (dual_at value p s.vertex s.basic_hi s.hi i)

  -- at theta the segment's vertex minimises; theta is a mix of both ends, and the same mix of their dual values is
  -- feasible there and of equal cost
  pub record IsOptimalWithin (s : Segment) (theta : ℚ) : Type 0 where
    pub minimises : Minimises (sample value p) theta (number_at s.vertex.coef)
    pub m : ℕ
    pub n : ℕ
    pub some : 0 < m + n
    pub mixed : theta ≡ mix m n (rational s.lo) (rational s.hi)
    pub dual : IsDual (sample value p) theta (number_at s.vertex.coef) (mixed_dual s m n)

  -- a vertex that is optimal at both ends of the segment, and at every fraction between them
  pub record IsRightSegment (s : Segment) : Type 0 where
    pub vertex : IsVertexOf p s.vertex
    pub at_lo : IsOptimalAt s.vertex (rational s.lo) s.basic_lo s.loss_lo
    pub at_hi : IsOptimalAt s.vertex (rational s.hi) s.basic_hi s.loss_hi
    pub within : (theta : Fraction) → 1 ≤ theta.den → rational s.lo ≤ℚ rational theta → rational theta ≤ℚ rational s.hi
        → IsOptimalWithin s (rational theta)

-- the process is right for the problem over the range of the job: its segments cover the range, they are optimal, their numbers are in
-- lowest terms, and they are those of the lawful trail, which is within the limit; so none reaches it
pub record IsRightProcess (value : Frac128 → Fraction) (job : FitJob) (p : Problem Frac128) (q : Process) : Type 0 where
  pub covers : Covers (length p.rows) (rational (value job.lo)) (rational (value job.hi)) (segments_of value p q.segments)
  pub segments : All (IsRightSegment value p) q.segments
  pub lowest : All (SegmentHas IsLowest) q.segments
  pub results : HasResults value p (rational (value job.lo)) (rational (value job.hi)) q
  pub short : length q.trail.steps ≤ job.limit
  pub unlimited : ¬ IsLimited (sample value p) (rational (value job.lo)) (rational (value job.hi)) job.limit

-- the fit is right for the job: so is its process, its scores are the rankscores of the segments, and its rank intervals
-- are those that the job asks for; and these are in lowest terms
pub record IsRightFit (value : Frac128 → Fraction) (job : FitJob) (fit : Fit) : Type 0 where
  pub shaped : IsWellShaped fit.problem
  pub process : IsRightProcess value job fit.problem fit.process
  pub scores : AllZip (IsScored value fit.problem fit.data_rows) fit.process.segments fit.scores
  pub intervals : AreRightIntervals value fit.problem job.limit (asked_by job.rank fit.problem.columns) fit.intervals
  pub lowest_scores : All (All IsLowestPair) fit.scores
  pub lowest_intervals : All IsLowestInterval fit.intervals

-- the fit is of this input, and tells how many records its design has kept and dropped, the names of the design and
-- of what the smooths add, and that a row of each record stands before the penalty rows
pub record IsFitUnder (input : Input) (fit : Fit) : Type 0 where
  pub problem_is : fit.problem ≡ input.problem
  pub kept : fit.kept ≡ length input.design.rows
  pub dropped : fit.dropped ≡ input.design.dropped
  pub names : fit.names ≡ input.design.names ++ input.smoothing.names
  pub data_rows : fit.data_rows ≡ length input.design.rows

-- the right fit for the job, of the problem of the input; what is told of it is the design's
pub record IsFitOf (job : FitJob) (input : Input) (fit : Fit) : Type 0 where
  pub under : IsFitUnder input fit
  pub right : IsRightFit value job fit
