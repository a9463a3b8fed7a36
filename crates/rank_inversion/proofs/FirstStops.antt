-- All intervals that are asked for, or the first that stops, from the answers of both lists of jobs.
use Rattle.std.proofs.Common.{◌≡◌, ℕ, zero, suc, ◌<◌, ◌≤◌, All, List, [], ◌∷◌, ◌++◌, length, get_or, map, None, Some, arith, refl, sym, ap, subst, ◌∙◌}
use Rattle.std.specs.List.{AllZip, range_with_len}
use Rattle.std.proofs.lemmas.List.Elements.{All-cons, All-nil}
use Rattle.rational_laws.specs.Fraction.{Fraction, rational}
use Rattle.loss_model.specs.declared.interval.Interval.{Interval}
use Rattle.loss_model.specs.declared.problem.Problem.{Problem}
use Rattle.loss_model.specs.declared.stop.Stop.{Stop}
use Rattle.rank_inversion.specs.declared.column_test.Asked.{Asked}
use Rattle.rank_inversion.specs.Intervals.{HasFactors}
use Rattle.rank_inversion.specs.Stops.{IsIntervalStop}
use Rattle.rank_inversion.specs.declared.asks.IntervalStop.{IntervalStop}
use Rattle.rank_inversion.specs.declared.asks.RankProblem.{RankProblem}
use Rattle.rank_inversion.specs.declared.asks.StartedAt.{StartedAt}
use Rattle.rank_inversion.specs.Answers.{IsIntervalAnswer, IsStart, IsStartedAt, IsStopOf}
use Rattle.rank_inversion.specs.AllIntervals.{AreRightIntervals, asked_at, asked_over, IsFirstStop}
use Rattle.rank_inversion.specs.Until.{AreAnswered}

-- what is asked at a quantile begins with its first column
begins : {F : Type 0} (crit : F) (n : ℕ) (tau : F) → 1 ≤ n → (rest : List (Asked F)) × (asked_at crit n tau ≡ record { column = 0; tau = tau; crit = crit } ∷ rest)
begins crit zero tau some = absurd (omega (arith, some))
begins crit (suc n) tau some = (map (λ j. record { column = j; tau = tau; crit = crit }) (range_with_len 1 n), refl)

module _ {F : Type 0} (value : F → Fraction) (range : ℕ) (v : RankProblem F) where
  abbrev asked_of : List F → List (Asked F)
  asked_of taus = asked_over v.crit v.problem.now.columns taus

  abbrev taus_of : List (StartedAt F) → List F
  taus_of starts = map (λ at. at.tau) starts

  -- the quantiles of the solves are those that were asked
  pub same_taus : (taus : List F) (starts : List (StartedAt F)) → AllZip (IsStartedAt value v) taus starts → taus_of starts ≡ taus
  same_taus [] [] h = refl
  same_taus [] (at ∷ starts) h = absurd h
  same_taus (tau ∷ taus) [] h = absurd h
  same_taus (tau ∷ taus) (at ∷ starts) h = ap (λ t. t ∷ taus_of starts) h.0.here ∙ ap (λ l. tau ∷ l) (same_taus taus starts h.1)

  -- each of these solves is one to begin with
  pub all_starts : (taus : List F) (starts : List (StartedAt F)) → AllZip (IsStartedAt value v) taus starts → All (IsStart value v) starts
  all_starts taus [] h = All-nil (IsStart value v)
  all_starts [] (at ∷ starts) h = absurd h
  all_starts (tau ∷ taus) (at ∷ starts) h = All-cons (IsStart value v) at starts h.0.start (all_starts taus starts h.1)

  abbrev IsFirst : List (Asked F) → IntervalStop F → Type 0
  IsFirst all s = IsFirstStop value range v.problem.now v.limit all s.asked s.stop

  -- the stop of one of all that are asked, behind those that are right
  first_by : (all earlier later : List (Asked F)) (asked : Asked F) (made : List Interval) (s : IntervalStop F) → all ≡ earlier ++ asked ∷ later
      → AreRightIntervals value v.problem.now v.limit earlier made → IsStopOf value range v asked s → IsFirst all s
  first_by all earlier later asked made s order right h =
      record {
        earlier = earlier;
        later = later;
        order = order ∙ ap (λ a. earlier ++ a ∷ later) (sym h.same);
        intervals = made;
        right = right;
        cause = subst (λ (a : Asked F). IsIntervalStop value range v.problem.now a.column (rational (value a.tau)) (rational (value a.crit)) v.limit s.stop) (sym h.same) h.cause;
      }

  -- each interval that is made lists its factors
  pub all_listed : (all : List (Asked F)) (made : List Interval) → AreRightIntervals value v.problem.now v.limit all made → All HasFactors made
  all_listed all [] h = All-nil HasFactors
  all_listed [] (r ∷ made) h = absurd h
  all_listed (a ∷ all) (r ∷ made) h = All-cons HasFactors r made h.0.lawful.listed (all_listed all made h.1)

  module _ (taus : List F) (starts : List (StartedAt F)) (same : AllZip (IsStartedAt value v) taus starts) where
    -- an interval stops
    pub interval_first : (made : List Interval) (s : IntervalStop F) → AreAnswered (IsIntervalAnswer value range v) (asked_of (taus_of starts)) made (Some s) → IsFirst (asked_of taus) s
    interval_first made s h =
        first_by (asked_of taus) h.earlier h.later h.here made s (ap asked_of (sym (same_taus taus starts same)) ∙ h.order) h.answered h.stopped

    -- nothing stops
    pub none_stops : (made : List Interval) → AreAnswered (IsIntervalAnswer value range v) (asked_of (taus_of starts)) made None → AreRightIntervals value v.problem.now v.limit (asked_of taus) made
    none_stops made h =
        subst (λ l. AreRightIntervals value v.problem.now v.limit (asked_of l) made) (same_taus taus starts same) h

-- the first of all stops
pub first_first : {F : Type 0} (value : F → Fraction) (range : ℕ) (p : Problem F) (limit : ℕ) (crit : F) (taus : List F) (tau : F) (stop : Stop F) → 0 < length taus → tau ≡ get_or taus 0 tau → 1 ≤ p.columns
    → IsIntervalStop value range p 0 (rational (value tau)) (rational (value crit)) limit stop → IsFirstStop value range p limit (asked_over crit p.columns taus) (record { column = 0; tau = tau; crit = crit }) stop
first_first value range p limit crit [] tau stop there here some cause = absurd (omega (arith, there))
first_first value range p limit crit (t ∷ taus) tau stop there here some cause =
    let b = begins crit p.columns t some in
    let rest = b.0 ++ asked_over crit p.columns taus in
    record {
      earlier = [];
      later = rest;
      order = ap (λ l. l ++ asked_over crit p.columns taus) b.1 ∙ ap (λ z. record { column = 0; tau = z; crit = crit } ∷ rest) (sym here);
      intervals = [];
      right = tt;
      cause = cause;
    }
