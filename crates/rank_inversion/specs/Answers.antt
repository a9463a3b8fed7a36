-- Inner. What the jobs of rank intervals answer.
use Rattle.std.specs.Prelude.{◌≡◌, ℕ, Result, Ok, Err, IfSome}
use Rattle.rational_laws.specs.Fraction.{Fraction, rational}
use Rattle.loss_model.specs.declared.interval.Interval.{Interval}
use Rattle.rank_inversion.specs.Wholes.{IsStarted}
use Rattle.rank_inversion.specs.Stops.{IsIntervalStop}
use Rattle.rank_inversion.specs.declared.column_test.Asked.{Asked}
use Rattle.rank_inversion.specs.AllIntervals.{IsRightInterval}
use Rattle.rank_inversion.specs.RankProblems.{IsInner}
use Rattle.rank_inversion.specs.declared.asks.IntervalStop.{IntervalStop}
use Rattle.rank_inversion.specs.declared.asks.RankProblem.{RankProblem}
use Rattle.rank_inversion.specs.declared.asks.StartedAt.{StartedAt}

-- the first column at a quantile
abbrev pub first_asked : {F : Type 0} → RankProblem F → F → Asked F
first_asked v tau = record { column = 0; tau = tau; crit = v.crit }

module _ {F : Type 0} (value : F → Fraction) where
  -- the quantile is inside, and the solve is one there, where it is in whole numbers
  pub record IsStart (v : RankProblem F) (at : StartedAt F) : Type 0 where
    pub inner : IsInner (rational (value at.tau))
    pub started : IfSome at.started (IsStarted value v.problem.now (rational (value at.tau)) v.limit)

  -- and it is this quantile
  pub record IsStartedAt (v : RankProblem F) (tau : F) (at : StartedAt F) : Type 0 where
    pub here : at.tau ≡ tau
    pub start : IsStart v at

  -- the stop is that of what is asked
  pub record IsStopOf (range : ℕ) (v : RankProblem F) (asked : Asked F) (s : IntervalStop F) : Type 0 where
    pub same : s.asked ≡ asked
    pub cause : IsIntervalStop value range v.problem.now asked.column (rational (value asked.tau)) (rational (value asked.crit)) v.limit s.stop

  -- the interval is the one that is asked for, or it is its stop
  abbrev pub IsIntervalAnswer : ℕ → RankProblem F → Asked F → Result Interval (IntervalStop F) → Type 0
  IsIntervalAnswer range v asked (Ok interval) = IsRightInterval value v.problem.now v.limit asked interval
  IsIntervalAnswer range v asked (Err s) = IsStopOf range v asked s
