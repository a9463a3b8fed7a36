-- Law. Where no other coefficients lose as little as those of a printed fit (Koenker 2005, section 2.2.2).
use Rattle.std.specs.Prelude.{◌≡◌, ◌≢◌, ◌<◌, ℕ, List, All, pos}
use Rattle.std.specs.List.{AllZip}
use Rattle.rational_laws.specs.Fraction.{Fraction}
use Rattle.rational_laws.specs.Rational.{whole}
use Rattle.frac_core.specs.Values.{value}
use Rattle.loss_model.specs.declared.process.Segment.{Segment}
use Rattle.loss_model.specs.Problem.{sample}
use Rattle.real_laws.specs.OrderedRings.{OrderedRing}
use Rattle.real_laws.specs.Losses.{loss_in}
use Rattle.real_laws.specs.Laws.{IsStrictlyBetween}
use Rattle.rankscores.specs.declared.pair.ScorePair.{ScorePair}
use Rattle.report_text.specs.declared.report.Fit.{Fit}
use Rattle.report_text.specs.declared.report.Report.{Report}
use Rattle.rq_cli.specs.Outcomes.{IsRun, Stream}
use Rattle.rq_cli.specs.declared.outcome.Outcome.TheVariants.{Done}
use Rattle.run_laws.specs.Reports.{printed, OnFit, IsReadFit}
use Rattle.run_laws.specs.LeastReports.{coefficients_in}

-- no score of these pairs, at one end, is 0 or 1; and their rows are among the first n, the records
abbrev pub AreInside : ℕ → (ScorePair → Fraction) → List ScorePair → Type 0
AreInside n end pairs = All (λ q. (q.row < n) × (printed (end q) ≢ whole (pos 0)) × (printed (end q) ≢ whole (pos 1))) pairs

-- of no pair both scores are 0, or both are 1
abbrev pub AreInsideBetween : ℕ → List ScorePair → Type 0
AreInsideBetween n pairs =
    All (λ q. (q.row < n)
    × ¬ ((printed q.at_lo ≡ whole (pos 0)) × (printed q.at_hi ≡ whole (pos 0)))
    × ¬ ((printed q.at_lo ≡ whole (pos 1)) × (printed q.at_hi ≡ whole (pos 1)))) pairs

module _ (R : OrderedRing) (fit : Fit) where
  -- at a quantile of the ring no other coefficients of it lose as little as the segment's
  abbrev pub IsOnlyAt : Segment → R.Number → Type 0
  IsOnlyAt s theta =
      let p = sample value fit.problem in
      let b = coefficients_in R fit.problem s in
      (c : ℕ → R.Number) → R.at_most (loss_in R p theta c) (loss_in R p theta b) → (k : ℕ) → k < fit.problem.columns → c k ≡ b k

  -- that is read off the printed scores: at an end where none is 0 or 1, and strictly between both where no pair is twice 0
  -- or twice 1
  pub record IsOnlyBy (s : Segment) (pairs : List ScorePair) : Type 0 where
    pub at_lo : AreInside fit.data_rows (λ q. q.at_lo) pairs → IsOnlyAt s (R.fraction (printed s.lo))
    pub at_hi : AreInside fit.data_rows (λ q. q.at_hi) pairs → IsOnlyAt s (R.fraction (printed s.hi))
    pub between : AreInsideBetween fit.data_rows pairs
        → (theta : R.Number) → IsStrictlyBetween R (printed s.lo) (printed s.hi) theta → IsOnlyAt s theta

-- so it is of a printed fit, with the scores of each of its segments
abbrev pub FitIsOnly : OrderedRing → Type 0
FitIsOnly R =
    (words : List (List ℕ)) (source source' out out' err err' : Stream) (report : Report)
    → IsRun words source source' out out' err err' (Done report)
    → OnFit report (λ fit. IsReadFit words source source' fit × AllZip (IsOnlyBy R fit) fit.process.segments fit.scores)
