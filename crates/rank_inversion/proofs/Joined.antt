-- The interval of a solve and of both walks from it.
use Rattle.std.specs.Prelude.{◌≡◌, ◌⊎◌, ◌+◌, ◌≤◌, ℕ, List, [], length, pos}
use Rattle.std.proofs.Common.{refl, inr}
use Rattle.rational_laws.specs.Fraction.{Fraction, rational}
use Rattle.rational_laws.specs.Rational.{ℚ, whole, ◌≤ℚ◌}
use Rattle.rational_laws.proofs.OrderLaws.{le_from_not}
use Rattle.loss_model.specs.declared.interval.End.{End}
use Rattle.loss_model.specs.declared.interval.Interval.{Interval}
use Rattle.loss_model.specs.declared.problem.Problem.{Problem}
use Rattle.loss_model.specs.declared.process.Exchange.{Exchange}
use Rattle.loss_model.specs.declared.process.Trail.{Trail}
use Rattle.loss_model.specs.Problem.{number_at, sample}
use Rattle.loss_model.specs.Sample.{Sample}
use Rattle.loss_model.specs.Strict.{◌<ℚ◌}
use Rattle.pivot_model.specs.Duals.{HasCosts}
use Rattle.pivot_model.specs.Trails.{IsOptimalBasis, IsSolvingTrail}
use Rattle.walk_model.specs.WalkTrails.{AreWalkingSteps, IsIntervalTrail, HasRisen, is_within}
use Rattle.rank_model.specs.Restricted.{IsProjection, squared_length}
use Rattle.rank_walk_model.specs.Intervals.{IsIntervalOf, IsAsked, IsWalked, bound_by, when_on}
use Rattle.rank_walk_model.specs.RankWalks.{Way, rise, fall, tested}
use Rattle.rank_walk_model.proofs.Intervals.{passes}
use Rattle.rank_tableau.specs.declared.walking.Arrival.{Arrival}
use Rattle.rank_inversion.specs.declared.column_test.Asked.{Asked}
use Rattle.rank_inversion.specs.Intervals.{IsRankInterval}
use Rattle.rank_inversion.specs.Inversions.{IsAskable}
use Rattle.rank_inversion.specs.Trails.{joined, with_walks}
use Rattle.pivot_model.proofs.DataRows.{data_costs}
use Rattle.rank_inversion.proofs.NoStep.{walk_is_ended}

pub at_most : (x y : ℚ) → x <ℚ y → x ≤ℚ y
at_most x y h = le_from_not x y h

pub asked_costs : {F : Type 0} (value : F → Fraction) (p : Problem F) (asked : Asked F) → IsAskable value p asked → HasCosts (sample value p) (rational (value asked.tau))
asked_costs value p asked h =
    data_costs (sample value p) (rational (value asked.tau)) (at_most (whole (pos 0)) (rational (value asked.tau)) h.tau_above) (at_most (rational (value asked.tau)) (whole (pos 1)) h.tau_below) h.data_rows

module _ {F : Type 0} (value : F → Fraction) (p : Problem F) (asked : Asked F) (askable : IsAskable value p asked) (solve : Trail) (solved : List ℕ) where
  abbrev q : Sample
  q = sample value p

  abbrev tau : ℚ
  tau = rational (value asked.tau)

  abbrev j : ℕ
  j = asked.column

  abbrev AreSteps : Way → ℚ → List Exchange → Type 0
  AreSteps way bound steps = AreWalkingSteps (when_on way) (tested way q tau j) (is_within bound) (whole (pos 0)) solved steps

  -- the trail of the interval is lawful
  pub lawful_walks : IsSolvingTrail q tau solve solved → IsOptimalBasis q tau solved → (bound : ℚ) (up down : List Exchange) → AreSteps rise bound up → AreSteps fall bound down
      → (down ≡ []) ⊎ HasRisen q tau j bound (with_walks solve up down) solved → IsIntervalTrail q tau j bound (with_walks solve up down) solved
  lawful_walks lawful optimal bound up down rose fell order =
      record {
        first = lawful.first;
        begins = lawful.begins;
        greedy = lawful.greedy;
        solved = lawful.lawful;
        leads = lawful.leads;
        optimal = optimal;
        rose = rose;
        fell = fell;
        order = order;
      }

  -- where the rising walk has its end, it has risen
  pub walked_is_risen : (bound : ℚ) (up down : List Exchange) (high : End) → IsWalked value p rise j tau bound solved up high → HasRisen q tau j bound (with_walks solve up down) solved
  walked_is_risen bound up down high h = walk_is_ended value p j tau bound askable.column rise solved up high h

  module _ (factors : List Fraction) (up down : Arrival) where
    abbrev made : Interval
    made = joined value solve asked factors up down

    abbrev bound : ℚ
    bound = bound_by value p made (number_at factors)

    module _ (lawful : IsSolvingTrail q tau solve solved) (optimal : IsOptimalBasis q tau solved)
        (projection : IsProjection q j (number_at factors)) (positive : whole (pos 0) <ℚ squared_length q j (number_at factors)) (size : length factors ≡ p.columns)
        (rose : AreSteps rise bound up.steps) (fell : AreSteps fall bound down.steps)
        (high_end : IsWalked value p rise j tau bound solved up.steps up.end) (low_end : IsWalked value p fall j tau bound solved down.steps down.end) where
      of : IsIntervalOf value p made
      of =
          record {
            factors = number_at factors;
            listed = refl;
            right = record {
              solved = solved;
              projection = projection;
              lawful = lawful_walks lawful optimal bound up.steps down.steps rose fell (inr (walked_is_risen bound up.steps down.steps up.end high_end));
              high = high_end;
              low = low_end;
            };
          }

      is_asked : IsAsked value p made
      is_asked =
          record {
            column = askable.column;
            costs = asked_costs value p asked askable;
            tau_above = at_most (whole (pos 0)) tau askable.tau_above;
            tau_below = at_most tau (whole (pos 1)) askable.tau_below;
            crit = askable.crit;
          }

      pub interval_is : (limit : ℕ) → length solve.steps + length up.steps + length down.steps ≤ limit → IsRankInterval value p j asked.tau asked.crit limit made
      unfolding of
      interval_is limit short =
          record {
            column = refl;
            tau = refl;
            crit = refl;
            lawful = of;
            conditions = passes value p made askable.data_rows askable.tau_above askable.tau_below is_asked of positive;
            listed = refl;
            size = size;
            short = short;
          }
