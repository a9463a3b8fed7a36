-- Inner. What is known of a job whose words ask for a fit.
use Rattle.std.specs.Prelude.{◌≡◌, true, All, Option, None, Some, map, pos, ⊤}
use Rattle.rational_laws.specs.Fraction.{rational}
use Rattle.rational_laws.specs.Rational.{whole, ◌≤ℚ◌}
use Rattle.frac_core.specs.Values.{value}
use Rattle.rq_words.specs.declared.job.RankAsk.{RankAsk}
use Rattle.rq_words.specs.declared.job.FitJob.{FitJob}
use Rattle.rq_words.specs.declared.job.PathJob.{PathJob}
use Rattle.rq_words.specs.declared.job.TestJob.{TestJob}
use Rattle.rq_words.specs.Requests.{given_number}
use Rattle.rq_words.specs.Words.{ascends}
pub use Rattle.rank_inversion.specs.RankProblems.{IsInner}

-- the critical value is at least 0, and the quantiles lie strictly between 0 and 1
pub record IsRankAsk (rank : RankAsk) : Type 0 where
  pub crit : whole (pos 0) ≤ℚ rational (value rank.crit)
  pub taus : All (λ tau. IsInner (rational (value tau))) rank.taus

-- if a job asks for intervals, it asks so
abbrev pub IsRankAskOf : Option RankAsk → Type 0
IsRankAskOf None = ⊤
IsRankAskOf (Some rank) = IsRankAsk rank

-- the range lies in 0 to 1, and in order
pub record IsFitAsk (job : FitJob) : Type 0 where
  pub low : whole (pos 0) ≤ℚ rational (value job.lo)
  pub ordered : rational (value job.lo) ≤ℚ rational (value job.hi)
  pub high : rational (value job.hi) ≤ℚ whole (pos 1)
  pub rank : IsRankAskOf job.rank

-- lambda is above 0, its range in order, and the quantile lies in 0 to 1
pub record IsPathAsk (job : PathJob) : Type 0 where
  pub low : ¬ (rational (value job.fit.lo) ≤ℚ whole (pos 0))
  pub ordered : rational (value job.fit.lo) ≤ℚ rational (value job.fit.hi)
  pub tau_low : whole (pos 0) ≤ℚ rational (value job.tau)
  pub tau_high : rational (value job.tau) ≤ℚ whole (pos 1)

-- it is 0 to 1
pub record IsUnitAsk (job : FitJob) : Type 0 where
  pub low : whole (pos 0) ≡ rational (value job.lo)
  pub high : whole (pos 1) ≡ rational (value job.hi)
  pub rank : IsRankAskOf job.rank

-- so it is of a test, and the numbers of the tested columns, as they were given, ascend
pub record IsTestAsk (job : TestJob) : Type 0 where
  pub unit : IsUnitAsk job.fit
  pub ascending : ascends (map given_number job.tested) ≡ true
