-- Stated. The rank intervals that are asked for, and the first of them that stops. A type F of fractions is seen by a
-- function into pairs.
use Rattle.std.specs.Prelude.{◌≡◌, ℕ, List, ◌∷◌, ◌++◌, map, Result, Ok, Err}
use Rattle.std.specs.List.{AllZip, flat_map, range_with_len}
use Rattle.rational_laws.specs.Fraction.{Fraction, rational}
use Rattle.loss_model.specs.declared.interval.Interval.{Interval}
use Rattle.loss_model.specs.declared.problem.Problem.{Problem}
use Rattle.loss_model.specs.declared.stop.Stop.{Stop}
use Rattle.br_pivot.specs.Solves.{IsLimitAnswer}
use Rattle.rank_inversion.specs.Intervals.{IsExactInterval, IsRankInterval}
use Rattle.rank_inversion.specs.Stops.{IsIntervalStop, IsLimited}
use Rattle.rank_inversion.specs.declared.column_test.Asked.{Asked}

-- ---- what is asked

-- at one quantile: an interval of each of the first n columns, in order
abbrev pub asked_at : {F : Type 0} → F → ℕ → F → List (Asked F)
asked_at crit n tau = map (λ j. record { column = j; tau = tau; crit = crit }) (range_with_len 0 n)

-- quantile by quantile as given, and column by column within
abbrev pub asked_over : {F : Type 0} → F → ℕ → List F → List (Asked F)
asked_over crit n taus = flat_map (asked_at crit n) taus

-- ---- what is answered

module _ {F : Type 0} (value : F → Fraction) where
  -- the interval is the one that is asked: exactly the values between its ends hold, its trail is lawful, and is
  -- within the limit; and no lawful trail reaches that
  pub record IsRightInterval (p : Problem F) (limit : ℕ) (asked : Asked F) (interval : Interval) : Type 0 where
    pub exact : IsExactInterval value p asked.column (rational (value asked.tau)) (rational (value asked.crit)) interval
    pub lawful : IsRankInterval value p asked.column asked.tau asked.crit limit interval
    pub unlimited : ¬ IsLimited value p asked.column (rational (value asked.tau)) (rational (value asked.crit)) limit

  -- why there is none; where a lawful trail reaches the limit it is that, or an overflow or want of memory before
  pub record IsRightStop (range : ℕ) (p : Problem F) (limit : ℕ) (asked : Asked F) (stop : Stop F) : Type 0 where
    pub cause : IsIntervalStop value range p asked.column (rational (value asked.tau)) (rational (value asked.crit)) limit stop
    pub limited : IsLimited value p asked.column (rational (value asked.tau)) (rational (value asked.crit)) limit → IsLimitAnswer {A = Interval} (Err stop)

  -- the answer is one of both
  abbrev pub IsAnswer : ℕ → Problem F → ℕ → Asked F → Result Interval (Stop F) → Type 0
  IsAnswer range p limit asked (Ok interval) = IsRightInterval p limit asked interval
  IsAnswer range p limit asked (Err stop) = IsRightStop range p limit asked stop

  -- one for each that is asked, in this order
  abbrev pub AreRightIntervals : Problem F → ℕ → List (Asked F) → List Interval → Type 0
  AreRightIntervals p limit = AllZip (IsRightInterval p limit)

  -- this one of all that are asked stops, and those before it are right
  pub record IsFirstStop (range : ℕ) (p : Problem F) (limit : ℕ) (all : List (Asked F)) (asked : Asked F) (stop : Stop F) : Type 0 where
    pub earlier : List (Asked F)
    pub later : List (Asked F)
    pub order : all ≡ earlier ++ asked ∷ later
    pub intervals : List Interval
    pub right : AreRightIntervals p limit earlier intervals
    pub cause : IsIntervalStop value range p asked.column (rational (value asked.tau)) (rational (value asked.crit)) limit stop
