-- Lawful intervals are exact.
use Rattle.std.specs.Prelude.{◌≡◌, ◌↔◌, ℕ, ◌<◌, List, [], ◌∷◌, map, option_map, slice_index, slice_set, Option, None, Some, IfSome, pos}
use Rattle.std.specs.List.{AllZip}
use Rattle.std.proofs.Common.{refl, sym, subst, ◌∙◌, length-set}
use Rattle.rational_laws.specs.Fraction.{Fraction, rational}
use Rattle.rational_laws.specs.Rational.{ℚ, whole}
use Rattle.rational_laws.proofs.RationalLaws.{≤ℚ_refl}
use Rattle.rational_laws.specs.Exchange.{exchanged}
use Rattle.loss_model.specs.declared.problem.Problem.{Problem}
use Rattle.loss_model.specs.Sample.{Sample}
use Rattle.loss_model.specs.Problem.{number_at, sample}
use Rattle.pivot_model.specs.declared.direction.Direction.{Direction}
use Rattle.basis_model.specs.Basis.{IsBasis, coefficient}
use Rattle.pivot_model.specs.Trails.{AtBasis, basis_after}
use Rattle.pivot_model.proofs.Unique.{same_inverse}
use Rattle.walk_model.specs.Walks.{IsFirstMover, AreExchanged, IsNextBreak, IsWalkingStep}
use Rattle.walk_model.specs.WalkTrails.{is_within}
use Rattle.walk_model.proofs.Trails.{list_exchanged}
use Rattle.walk_model.proofs.NextBasis.{next_basis, next_ends}
use Rattle.loss_model.specs.declared.interval.Bound.{Bound}
use Rattle.loss_model.specs.declared.interval.Bound.TheVariants.{Finite, Infinite}
use Rattle.loss_model.specs.declared.interval.End.{End}
use Rattle.loss_model.specs.declared.interval.Interval.{Interval}
use Rattle.loss_model.specs.declared.interval.IntervalProof.{IntervalProof}
use Rattle.rank_model.specs.Restricted.{squared_length, rank_bound, Holds}
use Rattle.rank_model.specs.Bounds.{IsHighEnd, IsLowEnd}
use Rattle.rank_model.specs.Certified.{bound_of, AreInOrder, MeetsConditions}
use Rattle.rank_model.proofs.Exact.{bound_not_negative, exact, in_order}
use Rattle.rank_walk_model.specs.RankWalks.{Way, rise, fall, tested, StandsAt, IsTest, IsEnd}
use Rattle.rank_walk_model.specs.Ends.{IsEndAt, MeetsOn}
use Rattle.rank_walk_model.specs.Intervals.{when_on, StandsIn, stated, statement, IsIntervalBy, IsIntervalOf, MeetsConditionsBy, LawfulWalkStands, LawfulIntervalIsExact, WrittenIntervalPasses, ListedIntervalIsCertified}
use Rattle.rank_walk_model.proofs.Walks.{stands_first, stands_next}
use Rattle.rank_walk_model.proofs.Ends.{right_end, meets}

position_of : (way : Way) (p : Sample) (tau : ℚ) (j : ℕ) (at : ℕ → ℕ) (a : ℕ → ℕ → ℚ) (t u : ℚ) (k : ℕ) (d : Direction) → IsNextBreak (tested way p tau j) at a t u k d → k < p.columns
position_of rise p tau j at a t u k d break = break.position
position_of fall p tau j at a t u k d break = break.position

mover_of : (way : Way) (p : Sample) (tau : ℚ) (j : ℕ) (at : ℕ → ℕ) (a : ℕ → ℕ → ℚ) (k r : ℕ) (d : Direction) → IsFirstMover (tested way p tau j).sample at a k d r → IsFirstMover p at a k d r
mover_of rise p tau j at a k r d first = first
mover_of fall p tau j at a k r d first = first

module _ (p : Sample) (j : ℕ) (tau crit : ℚ) (c : ℕ → ℚ) (start : ℚ) (test : IsTest p j tau c) where
  abbrev reach : ℚ
  reach = rank_bound tau crit (squared_length p j c)

  -- a step leads to the next basis
  stands_after : (way : Way) (basis : List ℕ) (t u : ℚ) (k r : ℕ) → StandsIn way p j tau crit c start basis t
      → AtBasis p basis (λ a. IsWalkingStep (tested way p tau j) (slice_index basis) a (is_within reach) t u k r)
      → StandsIn way p j tau crit c start (slice_set basis k r) u
  stands_after way basis t u k r here step =
      record {
        size = length-set basis k r ∙ here.size;
        a = exchanged p.columns step.a k (p.x r);
        is_basis = new;
        ends = next_ends p (slice_index basis) (slice_index (slice_set basis k r)) step.a k r step.holds.direction step.is_basis position first exchange step.ends;
        holds = stands_next way p j tau crit c start (slice_index basis) (slice_index (slice_set basis k r)) step.a (exchanged p.columns step.a k (p.x r)) t u k r test stands step.holds new exchange;
      }
    where
      stands : StandsAt way p j tau crit c start (slice_index basis) step.a t
      stands =
          subst (λ a. StandsAt way p j tau crit c start (slice_index basis) a t)
          (same_inverse p (slice_index basis) here.a step.a here.is_basis step.is_basis here.ends step.ends) here.holds

      position : k < p.columns
      position = position_of way p tau j (slice_index basis) step.a t u k step.holds.direction step.holds.break

      first : IsFirstMover p (slice_index basis) step.a k step.holds.direction r
      first = mover_of way p tau j (slice_index basis) step.a k r step.holds.direction step.holds.entering

      exchange : AreExchanged p.columns (slice_index basis) (slice_index (slice_set basis k r)) k r
      exchange = subst (λ n. AreExchanged n (slice_index basis) (slice_index (slice_set basis k r)) k r) here.size (list_exchanged basis k r)

      new : IsBasis p (slice_index (slice_set basis k r)) (exchanged p.columns step.a k (p.x r))
      new = next_basis p (slice_index basis) (slice_index (slice_set basis k r)) step.a k r step.holds.direction step.is_basis position first exchange

pub walk_stands : LawfulWalkStands
walk_stands rise p j tau crit c start basis t [] test here steps = here
walk_stands fall p j tau crit c start basis t [] test here steps = here
walk_stands rise p j tau crit c start basis t (s ∷ rest) test here (step, steps) =
    walk_stands rise p j tau crit c start (slice_set basis s.position s.row) (when_on rise s.theta) rest test
    (stands_after p j tau crit c start test rise basis t (when_on rise s.theta) s.position s.row here step) steps
walk_stands fall p j tau crit c start basis t (s ∷ rest) test here (step, steps) =
    walk_stands fall p j tau crit c start (slice_set basis s.position s.row) (when_on fall s.theta) rest test
    (stands_after p j tau crit c start test fall basis t (when_on fall s.theta) s.position s.row here step) steps

-- what is walked from the solved basis is right, and meets its conditions
module _ {F : Type 0} (value : F → Fraction) (p : Problem F) (j : ℕ) (tau crit : ℚ) (c : ℕ → ℚ) (start : ℚ) (test : IsTest (sample value p) j tau c) where
  abbrev q : ℚ
  q = squared_length (sample value p) j c

  ended : (way : Way) (basis : List ℕ) (t : ℚ) (end : End) → StandsIn way (sample value p) j tau crit c start basis t
      → AtBasis (sample value p) basis (λ a. IsEndAt value p way j tau (rank_bound tau crit q) basis a t end)
      → IsEnd way (sample value p) j tau crit q start (bound_of end.bound) × MeetsOn way value p j tau crit q end
  ended way basis t end here there =
      let stands = subst (λ a. StandsAt way (sample value p) j tau crit c start (slice_index basis) a t)
      (same_inverse (sample value p) (slice_index basis) here.a there.a here.is_basis there.is_basis here.ends there.ends) here.holds in
      (right_end value p way j tau crit c start basis there.a t end test stands there.holds, meets value p way j tau crit c start basis there.a t end test stands there.holds)

pub exact_interval : {F : Type 0} (value : F → Fraction) (p : Problem F) (interval : Interval) → LawfulIntervalIsExact value p interval
exact_interval {F} value p interval asked of =
    record {
      exact = exact s j tau crit start c (bound_of interval.low.bound) (bound_of interval.high.bound) asked.column of.right.projection low_end.0 high_end.0;
      low = low_end.1;
      high = high_end.1;
      order = by (bound_of interval.low.bound) (bound_of interval.high.bound) low_end.0 high_end.0;
    }
  where
    s : Sample
    s = sample value p

    j : ℕ
    j = interval.column

    tau : ℚ
    tau = rational interval.tau

    crit : ℚ
    crit = rational interval.crit

    c : ℕ → ℚ
    c = of.factors

    test : IsTest s j tau c
    test = record { column = asked.column; costs = asked.costs; projection = of.right.projection }

    start : ℚ
    start = coefficient s (slice_index of.right.solved) of.right.lawful.optimal.a j

    begins : (way : Way) → StandsIn way s j tau crit c start of.right.solved (whole (pos 0))
    begins way =
        record {
          size = of.right.lawful.optimal.size;
          a = of.right.lawful.optimal.a;
          is_basis = of.right.lawful.optimal.is_basis;
          ends = of.right.lawful.optimal.ends;
          holds =
              stands_first way s j tau crit c (slice_index of.right.solved) of.right.lawful.optimal.a test of.right.lawful.optimal.is_basis of.right.lawful.optimal.holds
              (bound_not_negative s j tau crit c asked.crit asked.tau_above asked.tau_below);
        }

    high_end : IsEnd rise s j tau crit (squared_length s j c) start (bound_of interval.high.bound) × MeetsOn rise value p j tau crit (squared_length s j c) interval.high
    high_end =
        ended value p j tau crit c start test rise (basis_after of.right.solved interval.trail.rise) _ interval.high
        (walk_stands rise s j tau crit c start of.right.solved (whole (pos 0)) interval.trail.rise test (begins rise) of.right.lawful.rose) of.right.high

    low_end : IsEnd fall s j tau crit (squared_length s j c) start (bound_of interval.low.bound) × MeetsOn fall value p j tau crit (squared_length s j c) interval.low
    low_end =
        ended value p j tau crit c start test fall (basis_after of.right.solved interval.trail.fall) _ interval.low
        (walk_stands fall s j tau crit c start of.right.solved (whole (pos 0)) interval.trail.fall test (begins fall) of.right.lawful.fell) of.right.low

    holds : Holds s j tau crit start
    holds = (begins rise).holds.holds start (≤ℚ_refl start) (≤ℚ_refl start)

    by : (low high : Bound ℚ) → IsLowEnd s j tau crit (squared_length s j c) start low → IsHighEnd s j tau crit (squared_length s j c) start high → AreInOrder low high
    by (Finite lo) (Finite hi) l h = in_order s j tau crit start c lo hi asked.column of.right.projection holds l h
    by (Finite lo) Infinite l h = tt
    by Infinite (Finite hi) l h = tt
    by Infinite Infinite l h = tt

pub passes : {F : Type 0} (value : F → Fraction) (p : Problem F) (interval : Interval) → WrittenIntervalPasses value p interval
passes value p interval rows above below asked of positive =
    let known = exact_interval value p interval asked of in
    record {
      column = asked.column;
      data_rows = rows;
      tau_above = above;
      tau_below = below;
      crit = asked.crit;
      projection = of.right.projection;
      positive = positive;
      low = known.low;
      high = known.high;
      order = known.order;
    }

module _ {F : Type 0} (value : F → Fraction) (p : Problem F) (interval : Interval) (factors : List Fraction) where
  certified : MeetsConditionsBy value p interval (number_at factors) → MeetsConditions value p (stated interval factors)
  certified m =
      record {
        column = m.column;
        data_rows = m.data_rows;
        tau_above = m.tau_above;
        tau_below = m.tau_below;
        crit = m.crit;
        projection = m.projection;
        positive = m.positive;
        low = m.low;
        high = m.high;
        order = m.order;
      }

  by_factors : MeetsConditions value p (stated interval factors) → MeetsConditionsBy value p interval (number_at factors)
  by_factors m =
      record {
        column = m.column;
        data_rows = m.data_rows;
        tau_above = m.tau_above;
        tau_below = m.tau_below;
        crit = m.crit;
        projection = m.projection;
        positive = m.positive;
        low = m.low;
        high = m.high;
        order = m.order;
      }

  module _ (there : interval.projection ≡ Some factors) where
    listed_is : (c : ℕ → ℚ) → IfSome interval.projection (λ list. number_at list ≡ c) → number_at factors ≡ c
    listed_is c h = subst (λ (o : Option (List Fraction)). IfSome o (λ list. number_at list ≡ c)) there h

    pub by_list : IsIntervalOf value p interval ↔ IsIntervalBy value p interval (number_at factors)
    by_list = (
      λ of. subst (IsIntervalBy value p interval) (sym (listed_is of.factors of.listed)) of.right,
      λ right. record {
        factors = number_at factors;
        listed = subst (λ (o : Option (List Fraction)). IfSome o (λ list. number_at list ≡ number_at factors)) (sym there) refl;
        right = right;
      },
    )

    pub conditions : (of : IsIntervalOf value p interval) → MeetsConditionsBy value p interval of.factors ↔ MeetsConditions value p (stated interval factors)
    conditions of = (
      λ m. certified (subst (MeetsConditionsBy value p interval) (sym (listed_is of.factors of.listed)) m),
      λ m. subst (MeetsConditionsBy value p interval) (listed_is of.factors of.listed) (by_factors m),
    )

pub listed : {F : Type 0} (value : F → Fraction) (p : Problem F) (interval : Interval) → ListedIntervalIsCertified value p interval
listed value p interval = record { by_list = by_list value p interval; conditions = conditions value p interval }

-- what is stated of intervals is stated of each
pub stated_each : (rs : List (Interval)) (xs : List (IntervalProof)) → map Some xs ≡ map statement rs
    → AllZip (λ r x. (factors : List Fraction) × (r.projection ≡ Some factors) × (x ≡ stated r factors)) rs xs
stated_each [] [] e = tt
stated_each [] (x ∷ xs) e = absurd (cc e)
stated_each (r ∷ rs) [] e = absurd (cc e)
stated_each (r ∷ rs) (x ∷ xs) e = (by r.projection refl (cc e), stated_each rs xs (cc e))
  where
    by : (o : Option (List Fraction)) → r.projection ≡ o → Some x ≡ option_map (stated r) o → (factors : List Fraction) × (r.projection ≡ Some factors) × (x ≡ stated r factors)
    by None is h = absurd (cc h)
    by (Some factors) is h = (factors, is, cc h)
