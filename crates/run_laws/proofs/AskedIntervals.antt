-- The rank intervals that a job asks for are of columns of its problem, at quantiles where rows have costs.
use Rattle.std.proofs.Common.{◌≡◌, ℕ, zero, suc, ◌+◌, ◌<◌, ◌≤◌, List, [], ◌∷◌, ◌++◌, All, Option, None, Some, map, pos, arith, refl, subst}
use Rattle.std.specs.List.{range_with_len}
use Rattle.std.proofs.lemmas.List.Elements.{All-append, All-cons, All-nil}
use Rattle.rational_laws.specs.Fraction.{rational}
use Rattle.rational_laws.specs.Rational.{ℚ, whole}
use Rattle.rational_laws.proofs.OrderLaws.{le_from_not}
use Rattle.frac_core.specs.declared.frac128.Frac128.{Frac128}
use Rattle.frac_core.specs.Values.{value}
use Rattle.loss_model.specs.Problem.{sample}
use Rattle.pivot_model.specs.Duals.{HasCosts}
use Rattle.rank_inversion.specs.declared.column_test.Asked.{Asked}
use Rattle.rq_words.specs.declared.job.RankAsk.{RankAsk}
use Rattle.rq_input.specs.Rows.{HasRows}
use Rattle.rq_input.specs.declared.input.Input.{Input}
use Rattle.rq_engine.specs.Asks.{IsInner, IsRankAskOf}
use Rattle.rq_engine.specs.Intervals.{asked_at, asked_by, asked_over}
use Rattle.rq_engine.proofs.Costs.{input_costs}

-- what holds of all items of a list holds of one that stands between others
all_there : {A : Type 0} (P : A → Type 0) (earlier : List A) (x : A) (later : List A) → All P (earlier ++ x ∷ later) → P x
all_there P [] x later h = h 0 x (omega arith)
all_there P (y ∷ earlier) x later h = all_there P earlier x later (λ k d l. h (suc k) d (omega (arith, l)))

module _ (n : ℕ) where
  -- of one of n columns, at a quantile strictly between 0 and 1
  abbrev IsAskedWithin : Asked Frac128 → Type 0
  IsAskedWithin asked = (asked.column < n) × IsInner (rational (value asked.tau))

  -- of each of the m columns from the first one on
  columns_within : (crit tau : Frac128) → IsInner (rational (value tau)) → (first m : ℕ) → first + m ≤ n
      → All IsAskedWithin (map (λ j. record { column = j; tau = tau; crit = crit }) (range_with_len first m))
  columns_within crit tau inner first zero l = All-nil IsAskedWithin
  columns_within crit tau inner first (suc m) l =
      All-cons IsAskedWithin (record { column = first; tau = tau; crit = crit }) (map (λ j. record { column = j; tau = tau; crit = crit }) (range_with_len (first + 1) m)) (omega (arith, l), inner)
      (columns_within crit tau inner (first + 1) m (omega (arith, l)))

  all_within : (crit : Frac128) (taus : List Frac128) → All (λ tau. IsInner (rational (value tau))) taus → All IsAskedWithin (asked_over crit n taus)
  all_within crit [] inner = All-nil IsAskedWithin
  all_within crit (tau ∷ taus) inner =
      All-append IsAskedWithin (asked_at crit n tau) (asked_over crit n taus) (columns_within crit tau (inner 0 tau (omega arith)) 0 n (omega arith))
      (all_within crit taus (λ k d l. inner (suc k) d (omega (arith, l))))

  rank_within : (rank : Option RankAsk) → IsRankAskOf rank → All IsAskedWithin (asked_by rank n)
  rank_within None ask = All-nil IsAskedWithin
  rank_within (Some rank) ask = all_within rank.crit rank.taus ask.taus

  -- one that a job asks for
  pub asked_there : (rank : Option RankAsk) → IsRankAskOf rank → (earlier : List (Asked Frac128)) (asked : Asked Frac128) (later : List (Asked Frac128)) → asked_by rank n ≡ earlier ++ asked ∷ later → IsAskedWithin asked
  asked_there rank ask earlier asked later order = all_there IsAskedWithin earlier asked later (subst (All IsAskedWithin) order (rank_within rank ask))

-- each has the critical value of the words
module _ (n : ℕ) where
  abbrev HasCritical : Frac128 → Asked Frac128 → Type 0
  HasCritical crit asked = asked.crit ≡ crit

  columns_critical : (crit tau : Frac128) (first m : ℕ) → All (HasCritical crit) (map (λ j. record { column = j; tau = tau; crit = crit }) (range_with_len first m))
  columns_critical crit tau first zero = All-nil (HasCritical crit)
  columns_critical crit tau first (suc m) =
      All-cons (HasCritical crit) (record { column = first; tau = tau; crit = crit }) (map (λ j. record { column = j; tau = tau; crit = crit }) (range_with_len (first + 1) m)) refl
      (columns_critical crit tau (first + 1) m)

  all_critical : (crit : Frac128) (taus : List Frac128) → All (HasCritical crit) (asked_over crit n taus)
  all_critical crit [] = All-nil (HasCritical crit)
  all_critical crit (tau ∷ taus) = All-append (HasCritical crit) (asked_at crit n tau) (asked_over crit n taus) (columns_critical crit tau 0 n) (all_critical crit taus)

  -- so has one that a job asks for
  pub critical_there : (rank : Option RankAsk) (earlier : List (Asked Frac128)) (asked : Asked Frac128) (later : List (Asked Frac128)) → asked_by rank n ≡ earlier ++ asked ∷ later
      → (ask : RankAsk) × (rank ≡ Some ask) × HasCritical ask.crit asked
  critical_there None [] asked later order = absurd (cc order)
  critical_there None (x ∷ earlier) asked later order = absurd (cc order)
  critical_there (Some rank) earlier asked later order =
      (rank, refl, all_there (HasCritical rank.crit) earlier asked later (subst (All (HasCritical rank.crit)) order (all_critical rank.crit rank.taus)))

-- at such a quantile the rows of an input have costs
pub inner_costs : (input : Input) (tau : ℚ) → IsInner tau → HasRows input → HasCosts (sample value input.problem) tau
inner_costs input tau inner rows = input_costs input tau (le_from_not (whole (pos 0)) tau inner.0) (le_from_not tau (whole (pos 1)) inner.1) rows
