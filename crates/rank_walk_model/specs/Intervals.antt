-- Stated. Rank intervals by their lawful trails: the fit to all columns, the rising walk and the falling one
-- from it, and what they hand out; and that such an interval is exact.
use Rattle.std.specs.Prelude.{◌≡◌, ◌↔◌, ℕ, ◌<◌, List, length, option_map, slice_index, Option, Some, IfSome, pos}
use Rattle.rational_laws.specs.Fraction.{Fraction, rational}
use Rattle.rational_laws.specs.Rational.{ℚ, whole, ◌≤ℚ◌}
use Rattle.loss_model.specs.declared.problem.Problem.{Problem}
use Rattle.loss_model.specs.declared.process.Exchange.{Exchange}
use Rattle.loss_model.specs.Sample.{Sample}
use Rattle.loss_model.specs.Problem.{number_at, sample}
use Rattle.loss_model.specs.Dual.{IsDataRow}
use Rattle.pivot_model.specs.Duals.{HasCosts}
use Rattle.pivot_model.specs.Trails.{AtBasis, basis_after}
use Rattle.walk_model.specs.WalkTrails.{AreWalkingSteps, value_after, is_within, negated_theta, theta_value, IsIntervalTrail}
use Rattle.loss_model.specs.declared.interval.End.{End}
use Rattle.loss_model.specs.declared.interval.Interval.{Interval}
use Rattle.loss_model.specs.declared.interval.IntervalProof.{IntervalProof}
use Rattle.loss_model.specs.Strict.{◌<ℚ◌}
use Rattle.rank_model.specs.Restricted.{IsProjection, squared_length, rank_bound, Holds}
use Rattle.rank_model.specs.Bounds.{IsAtLeast, IsAtMost}
use Rattle.rank_model.specs.Certified.{bound_of, MeetsHigh, MeetsLow, AreInOrder, MeetsConditions}
use Rattle.rank_walk_model.specs.RankWalks.{Way, rise, fall, tested, StandsAt, IsTest}
use Rattle.rank_walk_model.specs.Ends.{IsEndAt}

-- the parameter of a walk at the theta of a step
abbrev pub when_on : Way → Fraction → ℚ
when_on rise = negated_theta
when_on fall = theta_value

-- a walk stands at a list of rows, by the inverse of their basis
abbrev pub StandsIn : Way → Sample → ℕ → ℚ → ℚ → (ℕ → ℚ) → ℚ → List ℕ → ℚ → Type 0
StandsIn way p j tau crit c start basis t = AtBasis p basis (λ a. StandsAt way p j tau crit c start (slice_index basis) a t)

-- what is at the end of the walk of these steps from the solved basis
abbrev pub IsWalked : {F : Type 0} → (F → Fraction) → Problem F → Way → ℕ → ℚ → ℚ → List ℕ → List Exchange → End → Type 0
IsWalked value p way j tau bound solved steps end =
    AtBasis (sample value p) (basis_after solved steps)
    (λ a. IsEndAt value p way j tau bound (basis_after solved steps) a
    (value_after (when_on way) (tested way (sample value p) tau j) (is_within bound) (whole (pos 0)) steps) end)

-- steps of a walk lead from where it stands to where it stands
abbrev pub LawfulWalkStands : Type 0
LawfulWalkStands =
    (way : Way) (p : Sample) (j : ℕ) (tau crit : ℚ) (c : ℕ → ℚ) (start : ℚ) (basis : List ℕ) (t : ℚ) (steps : List Exchange)
    → IsTest p j tau c → StandsIn way p j tau crit c start basis t
    → AreWalkingSteps (when_on way) (tested way p tau j) (is_within (rank_bound tau crit (squared_length p j c))) t basis steps
    → StandsIn way p j tau crit c start (basis_after basis steps)
    (value_after (when_on way) (tested way p tau j) (is_within (rank_bound tau crit (squared_length p j c))) t steps)

-- what a certificate states of an interval, with these factors of its projection
abbrev pub stated : Interval → List Fraction → IntervalProof
stated r factors = record { column = r.column; tau = r.tau; crit = r.crit; low = r.low; high = r.high; projection = factors }

-- the same by the factors that the interval lists, where it does
abbrev pub statement : Interval → Option (IntervalProof)
statement r = option_map (stated r) r.projection

module _ {F : Type 0} (value : F → Fraction) (p : Problem F) (interval : Interval) where
  -- the squared length that factors leave of its column
  abbrev pub length_by : (ℕ → ℚ) → ℚ
  length_by c = squared_length (sample value p) interval.column c

  -- the greatest squared statistic that is within its critical value
  abbrev pub bound_by : (ℕ → ℚ) → ℚ
  bound_by c = rank_bound (rational interval.tau) (rational interval.crit) (length_by c)

  -- the factors c project its column, and by them its trail is lawful and its ends are those of its walks
  pub record IsIntervalBy (c : ℕ → ℚ) : Type 0 where
    pub solved : List ℕ
    pub projection : IsProjection (sample value p) interval.column c
    pub lawful : IsIntervalTrail (sample value p) (rational interval.tau) interval.column (bound_by c) interval.trail solved
    pub high : IsWalked value p rise interval.column (rational interval.tau) (bound_by c) solved interval.trail.rise interval.high
    pub low : IsWalked value p fall interval.column (rational interval.tau) (bound_by c) solved interval.trail.fall interval.low

  -- some factors do, and those that it lists are these
  pub record IsIntervalOf : Type 0 where
    pub factors : ℕ → ℚ
    pub listed : IfSome interval.projection (λ list. number_at list ≡ factors)
    pub right : IsIntervalBy factors

  -- what is asked of the problem, the column, the quantile and the critical value
  pub record IsAsked : Type 0 where
    pub column : interval.column < p.columns
    pub costs : HasCosts (sample value p) (rational interval.tau)
    pub tau_above : whole (pos 0) ≤ℚ rational interval.tau
    pub tau_below : rational interval.tau ≤ℚ whole (pos 1)
    pub crit : whole (pos 0) ≤ℚ rational interval.crit

  -- its ends bound exactly the values that hold, are in order, and meet the conditions of a certificate
  pub record IsExact (c : ℕ → ℚ) : Type 0 where
    pub exact : (xi : ℚ) → (IsAtLeast (bound_of interval.low.bound) xi × IsAtMost (bound_of interval.high.bound) xi)
        ↔ Holds (sample value p) interval.column (rational interval.tau) (rational interval.crit) xi
    pub low : MeetsLow value p interval.column (rational interval.tau) (rational interval.crit) (length_by c) interval.low
    pub high : MeetsHigh value p interval.column (rational interval.tau) (rational interval.crit) (length_by c) interval.high
    pub order : AreInOrder (bound_of interval.low.bound) (bound_of interval.high.bound)

  -- all conditions of a certificate, with factors in the place of their list
  pub record MeetsConditionsBy (c : ℕ → ℚ) : Type 0 where
    pub column : interval.column < p.columns
    pub data_rows : (i : ℕ) → i < length p.rows → IsDataRow (sample value p) i
    pub tau_above : whole (pos 0) <ℚ rational interval.tau
    pub tau_below : rational interval.tau <ℚ whole (pos 1)
    pub crit : whole (pos 0) ≤ℚ rational interval.crit
    pub projection : IsProjection (sample value p) interval.column c
    pub positive : whole (pos 0) <ℚ length_by c
    pub low : MeetsLow value p interval.column (rational interval.tau) (rational interval.crit) (length_by c) interval.low
    pub high : MeetsHigh value p interval.column (rational interval.tau) (rational interval.crit) (length_by c) interval.high
    pub order : AreInOrder (bound_of interval.low.bound) (bound_of interval.high.bound)

-- an interval whose trail is lawful, and whose ends are those of its walks, is exact
abbrev pub LawfulIntervalIsExact : {F : Type 0} → (F → Fraction) → Problem F → Interval → Type 0
LawfulIntervalIsExact value p interval = IsAsked value p interval → (of : IsIntervalOf value p interval) → IsExact value p interval of.factors

-- so of data rows and a quantile between 0 and 1 it meets all conditions of a certificate
abbrev pub WrittenIntervalPasses : {F : Type 0} → (F → Fraction) → Problem F → Interval → Type 0
WrittenIntervalPasses value p interval =
    ((i : ℕ) → i < length p.rows → IsDataRow (sample value p) i) → whole (pos 0) <ℚ rational interval.tau
    → rational interval.tau <ℚ whole (pos 1) → IsAsked value p interval → (of : IsIntervalOf value p interval)
    → whole (pos 0) <ℚ length_by value p interval of.factors → MeetsConditionsBy value p interval of.factors

-- where it lists its factors, it is an interval by that list, and meets the conditions that a certificate with the
-- list states
pub record ListedIntervalIsCertified {F : Type 0} (value : F → Fraction) (p : Problem F) (interval : Interval) : Type 0 where
  pub by_list : (factors : List Fraction) → interval.projection ≡ Some factors → IsIntervalOf value p interval ↔ IsIntervalBy value p interval (number_at factors)
  pub conditions : (factors : List Fraction) → interval.projection ≡ Some factors → (of : IsIntervalOf value p interval)
      → MeetsConditionsBy value p interval of.factors ↔ MeetsConditions value p (stated interval factors)
