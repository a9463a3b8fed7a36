-- What a process leaves is right, and what stops it has its cause.
use Rattle.std.proofs.Common.{◌≡◌, ◌<◌, ◌≤◌, ℕ, filter, List, [], ◌∷◌, All, length, Contains, Some, get_or, arith, sym, ap, subst, ◌∙◌}
use Rattle.std.specs.List.{AllZip}
use Rattle.std.proofs.lemmas.List.Elements.{All-cons, All-head, All-nil, All-tail}
use Rattle.rational_laws.specs.Fraction.{Fraction, rational}
use Rattle.rational_laws.specs.Rational.{ℚ, ◌≤ℚ◌}
use Rattle.frac_core.specs.declared.frac128.Frac128.{Frac128}
use Rattle.frac_core.specs.Values.{value}
use Rattle.loss_model.specs.declared.interval.Interval.{Interval}
use Rattle.loss_model.specs.declared.problem.Problem.{Problem}
use Rattle.loss_model.specs.declared.process.Process.{Process}
use Rattle.loss_model.specs.declared.process.Segment.{Segment}
use Rattle.loss_model.specs.declared.stop.Stop.{Stop}
use Rattle.loss_model.specs.declared.stop.Stop.TheVariants as stops
use Rattle.loss_model.specs.Dual.{IsDual}
use Rattle.loss_model.specs.Problem.{number_at, sample, IsWellShaped}
use Rattle.loss_model.specs.Sample.{loss}
use Rattle.loss_model.specs.Segment.{dual_at}
use Rattle.loss_model.specs.Vertex.{IsVertexOf}
use Rattle.ratio.specs.Lowest.{IsLowest}
use Rattle.cert_text.specs.Numbers.{SegmentHas}
use Rattle.loss_model.proofs.Duality.{minimum}
use Rattle.loss_model.proofs.Intervals.{mixes}
use Rattle.loss_model.proofs.Mixes.{minimum_between, mixed}
use Rattle.pivot_model.specs.Trails.{basis_after}
use Rattle.pivot_model.proofs.Solved.{any_default}
use Rattle.walk_model.specs.Stays.{Stay, AreOptimalSegments, AreSegmentsOf, IsOptimalSegment, IsSegmentOf, is_reported, stays}
use Rattle.walk_model.specs.WalkTrails.{theta_value}
use Rattle.tau_process.specs.Processes.{HasResults, IsProcess}
use Rattle.tau_process.specs.Stops.{IsLimited, IsProcessStop}
use Rattle.rankscores.specs.declared.pair.ScorePair.{ScorePair}
use Rattle.rankscores.specs.Scores.{IsScorable, IsScored}
use Rattle.rq_words.specs.declared.job.FitJob.{FitJob}
use Rattle.rq_words.specs.declared.job.RankAsk.{RankAsk}
use Rattle.report_text.specs.declared.report.Fit.{Fit}
use Rattle.report_text.specs.declared.report.Halt.{Halt}
use Rattle.report_text.specs.declared.report.Place.TheVariants as places
use Rattle.report_text.specs.declared.report.Halt.TheVariants.{Refused, OutOfMemory, PivotLimit, Overflow}
use Rattle.report_text.specs.declared.report.Refusal.TheVariants.{Dependent}
use Rattle.rq_engine.specs.Fit.{IsOptimalAt, IsOptimalWithin, IsRightFit, IsRightProcess, IsRightSegment, mixed_dual}
use Rattle.rq_engine.specs.Halts.{interval_halt, stop_halt}
use Rattle.rq_engine.specs.Intervals.{AreRightIntervals, asked_by, asked_over, IsFirstStop}
use Rattle.rq_engine.specs.Lowest.{IsLowestInterval, IsLowestPair}
use Rattle.rq_engine.specs.RankProblems.{HasIntervalCause}
use Rattle.rank_inversion.specs.declared.asks.IntervalStop.{IntervalStop}
use Rattle.rank_inversion.specs.declared.column_test.Asked.{Asked}
use Rattle.rq_engine.specs.Stops.{HasProblemCause, most}

-- ---- the segments

module _ {F : Type 0} (value : F → Fraction) (p : Problem F) where
  module _ (stay : Stay) (s : Segment) (is : IsSegmentOf value p stay s) where
    shape : IsVertexOf p s.vertex
    shape = is.vertex.holds.0.shape

    -- a list of the dual values of the basic rows is as long as these
    same_size : (basic : List Fraction) → length basic ≡ p.columns → length basic ≡ length s.vertex.basis.rows
    same_size basic size = size ∙ sym shape.size

    -- the basic rows are rows of the problem
    rows_inside : All (λ i. i < length p.rows) s.vertex.basis.rows
    rows_inside k d l =
        let i = get_or s.vertex.basis.rows k d in
        let there : Contains stay.basis i = (is.vertex.holds.0.rows i).0 (k, l, any_default s.vertex.basis.rows k i d l) in
        subst (λ n. n < length p.rows) (any_default stay.basis there.0 0 i there.1 ∙ there.2)
        (is.vertex.is_basis.distinct.within there.0 (omega (arith, there.1, is.vertex.size)))

    scorable : IsScorable p s
    scorable =
        record {
          vertex = shape;
          inside = rows_inside;
          lo = same_size s.basic_lo is.vertex.holds.1.size;
          hi = same_size s.basic_hi is.vertex.holds.2.size;
        }

    module _ (optimal : IsOptimalSegment value p s) where
      abbrev coefficients : ℕ → ℚ
      coefficients = number_at s.vertex.coef

      at_lo : IsOptimalAt value p s.vertex (rational s.lo) s.basic_lo s.loss_lo
      at_lo =
          record {
            basic = same_size s.basic_lo is.vertex.holds.1.size;
            minimises = minimum (sample value p) (rational s.lo) coefficients _ optimal.at_lo;
            dual = optimal.at_lo;
            lost = is.loss_lo ∙ ap (λ t. loss (sample value p) t coefficients) (sym is.lo);
          }

      at_hi : IsOptimalAt value p s.vertex (rational s.hi) s.basic_hi s.loss_hi
      at_hi =
          record {
            basic = same_size s.basic_hi is.vertex.holds.2.size;
            minimises = minimum (sample value p) (rational s.hi) coefficients _ optimal.at_hi;
            dual = optimal.at_hi;
            lost = is.loss_hi ∙ ap (λ t. loss (sample value p) t coefficients) (sym is.hi);
          }

      within : 1 ≤ s.lo.den → 1 ≤ s.hi.den → (theta : Fraction) → 1 ≤ theta.den → rational s.lo ≤ℚ rational theta → rational theta ≤ℚ rational s.hi
          → IsOptimalWithin value p s (rational theta)
      within low high theta positive after before =
          let parts = mixes s.lo s.hi theta low high positive after before in
          let at_mix = mixed (sample value p) (rational s.lo) (rational s.hi) coefficients (dual_at value p s.vertex s.basic_lo s.lo)
          (dual_at value p s.vertex s.basic_hi s.hi) parts.0 parts.1 parts.2 optimal.at_lo optimal.at_hi in
          record {
            minimises = minimum_between (sample value p) (rational s.lo) (rational s.hi) (rational theta) coefficients _ _ optimal.at_lo optimal.at_hi after before;
            m = parts.0;
            n = parts.1;
            some = parts.2;
            mixed = parts.3;
            dual = subst (λ t. IsDual (sample value p) t coefficients (mixed_dual value p s parts.0 parts.1)) (sym parts.3) at_mix;
          }

      right_segment : SegmentHas IsLowest s → IsRightSegment value p s
      right_segment lowest = record { vertex = shape; at_lo = at_lo; at_hi = at_hi; within = within lowest.lo.positive lowest.hi.positive }

  -- all of them
  pub right_segments : (stays : List Stay) (segments : List Segment) → AreSegmentsOf value p stays segments → AreOptimalSegments value p segments → All (SegmentHas IsLowest) segments → All (IsRightSegment value p) segments
  right_segments [] [] are optimal lowest = All-nil (IsRightSegment value p)
  right_segments [] (s ∷ segments) are optimal lowest = absurd are
  right_segments (x ∷ stays) [] are optimal lowest = absurd are
  right_segments (x ∷ stays) (s ∷ segments) are optimal lowest =
      All-cons (IsRightSegment value p) s segments (right_segment x s are.0 optimal.0 (All-head (SegmentHas IsLowest) s segments lowest)) (right_segments stays segments are.1 optimal.1 (All-tail (SegmentHas IsLowest) s segments lowest))

  pub scorable_segments : (stays : List Stay) (segments : List Segment) → AreSegmentsOf value p stays segments → All (IsScorable p) segments
  scorable_segments [] [] are = All-nil (IsScorable p)
  scorable_segments [] (s ∷ segments) are = absurd are
  scorable_segments (x ∷ stays) [] are = absurd are
  scorable_segments (x ∷ stays) (s ∷ segments) are = All-cons (IsScorable p) s segments (scorable x s are.0) (scorable_segments stays segments are.1)

  pub process_scorable : (lo hi : ℚ) (q : Process) → HasResults value p lo hi q → All (IsScorable p) q.segments
  process_scorable lo hi q h =
      scorable_segments (filter (is_reported lo hi) (stays theta_value hi lo (basis_after h.lawful.first h.lawful.solving) h.lawful.walking)) q.segments h.segments

  pub process_right : (lo hi : ℚ) (q : Process) → IsProcess value p lo hi q → All (SegmentHas IsLowest) q.segments → All (IsRightSegment value p) q.segments
  process_right lo hi q h lowest =
      let results = h.results in
      right_segments (filter (is_reported lo hi) (stays theta_value hi lo (basis_after results.lawful.first results.lawful.solving) results.lawful.walking))
      q.segments results.segments h.optimal lowest

-- a process whose trail is within the limit is right
pub right_process : (job : FitJob) (p : Problem Frac128) (q : Process) → IsProcess value p (rational (value job.lo)) (rational (value job.hi)) q → length q.trail.steps ≤ job.limit
    → All (SegmentHas IsLowest) q.segments → ¬ IsLimited (sample value p) (rational (value job.lo)) (rational (value job.hi)) job.limit → IsRightProcess value job p q
right_process job p q is short lowest unlimited =
    record {
      covers = is.covers;
      segments = process_right value p (rational (value job.lo)) (rational (value job.hi)) q is lowest;
      lowest = lowest;
      results = is.results;
      short = short;
      unlimited = unlimited;
    }

-- ---- the fit

-- the first n rows of the problem are data rows
module _ (job : FitJob) (n : ℕ) (p : Problem Frac128) (q : Process) (scores : List (List ScorePair)) (intervals : List Interval) where
  -- a fit by its parts
  abbrev whole_fit : Fit → Fit
  whole_fit fit =
      record {
        kept = fit.kept;
        dropped = fit.dropped;
        names = fit.names;
        data_rows = n;
        problem = p;
        process = q;
        scores = scores;
        intervals = intervals;
      }

  pub right_fit : IsWellShaped p → IsRightProcess value job p q → AllZip (IsScored value p n) q.segments scores → AreRightIntervals value p job.limit (asked_by job.rank p.columns) intervals
      → All (All IsLowestPair) scores → All IsLowestInterval intervals → (fit : Fit) → fit.process ≡ q → fit.scores ≡ scores → fit.intervals ≡ intervals → fit.problem ≡ p → fit.data_rows ≡ n → IsRightFit value job fit
  right_fit shaped right_process scored right lowest_scores lowest_intervals fit process told made problem data_rows =
      subst (IsRightFit value job) (sym same) (record {
        shaped = shaped;
        process = right_process;
        scores = scored;
        intervals = right;
        lowest_scores = lowest_scores;
        lowest_intervals = lowest_intervals;
      })
    where
      same : fit ≡ whole_fit fit
      same = λ i. record {
        kept = fit.kept;
        dropped = fit.dropped;
        names = fit.names;
        data_rows = data_rows i;
        problem = problem i;
        process = process i;
        scores = told i;
        intervals = made i;
      }

-- ---- stops

pub stop_cause : (job : FitJob) (n : ℕ) (p : Problem Frac128) (stop : Stop Frac128) → IsProcessStop value most p (rational (value job.lo)) (rational (value job.hi)) job.limit stop → HasProblemCause job n p (stop_halt places.Process stop)
stop_cause job n p stops.OutOfMemory h = tt
stop_cause job n p (stops.PivotLimit limit trail) h = h
stop_cause job n p (stops.Overflow trail spill) h = h
stop_cause job n p (stops.Dependent combination) h = h

-- an interval that stops is why there is no fit, after the process and the scores
pub interval_cause : (job : FitJob) (n : ℕ) (p : Problem Frac128) (q : Process) (scores : List (List ScorePair)) → HasResults value p (rational (value job.lo)) (rational (value job.hi)) q → length q.trail.steps ≤ job.limit
    → AllZip (IsScored value p n) q.segments scores → (halt : Halt) → HasIntervalCause job p halt → HasProblemCause job n p halt
interval_cause job n p q scores results short scored (Refused (Dependent combination)) h = h
interval_cause job n p q scores results short scored OutOfMemory h = tt
interval_cause job n p q scores results short scored (PivotLimit (places.Interval column tau) limit trail) h =
    record { process = q; results = results; short = short; scores = scores; scored = scored; stopped = h }
interval_cause job n p q scores results short scored (Overflow (places.Interval column tau) trail spill) h =
    record { process = q; results = results; short = short; scores = scores; scored = scored; stopped = h }
interval_cause job n p q scores results short scored halt h = absurd h

-- so of the interval that stops
stop_by : (job : FitJob) (p : Problem Frac128) (asked : Asked Frac128) (stop : Stop Frac128) → IsFirstStop value most p job.limit (asked_by job.rank p.columns) asked stop
    → HasIntervalCause job p (stop_halt (places.Interval asked.column asked.tau) stop)
stop_by job p asked stops.OutOfMemory h = tt
stop_by job p asked (stops.PivotLimit limit trail) h = (asked.crit, h)
stop_by job p asked (stops.Overflow trail spill) h = (asked.crit, h)
stop_by job p asked (stops.Dependent combination) h = h.cause

-- the first interval of a job that stops is its cause
pub stopped_cause : (job : FitJob) (p : Problem Frac128) (rank : RankAsk) → job.rank ≡ Some rank → (stopped : IntervalStop Frac128)
    → IsFirstStop value most p job.limit (asked_over rank.crit p.columns rank.taus) stopped.asked stopped.stop → HasIntervalCause job p (interval_halt stopped)
stopped_cause job p rank some stopped h =
    stop_by job p stopped.asked stopped.stop (subst (λ o. IsFirstStop value most p job.limit (asked_by o p.columns) stopped.asked stopped.stop) (sym some) h)
