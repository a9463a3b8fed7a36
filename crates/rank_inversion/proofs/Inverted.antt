-- The interval of both walks, and why it stops.
use Rattle.std.specs.Prelude.{◌≡◌, ◌⊎◌, ◌+◌, ◌≤◌, ◌<◌, ℕ, List, [], length, pos}
use Rattle.std.proofs.Common.{Err, arith, refl, sym, ap, subst, ◌∙◌, inl, inr}
use Rattle.rational_laws.specs.Fraction.{Fraction, rational}
use Rattle.rational_laws.specs.Rational.{ℚ, whole, ◌≤ℚ◌}
use Rattle.loss_model.specs.declared.interval.Interval.{Interval}
use Rattle.loss_model.specs.declared.problem.Problem.{Problem}
use Rattle.loss_model.specs.declared.process.Exchange.{Exchange}
use Rattle.loss_model.specs.declared.spill.Spill.{Spill}
use Rattle.loss_model.specs.declared.stop.Stop.{Stop}
use Rattle.loss_model.specs.declared.stop.Stop.TheVariants.{PivotLimit, Overflow, Dependent}
use Rattle.loss_model.specs.Problem.{number_at, sample}
use Rattle.loss_model.specs.Sample.{Sample}
use Rattle.loss_model.specs.StartStop.{IsDependent}
use Rattle.basis_inverse.specs.Square.{inverse_entry}
use Rattle.pivot_model.specs.Duals.{HasCosts}
use Rattle.pivot_model.specs.Trails.{IsOptimalBasis}
use Rattle.pivot_model.proofs.Solved.{full_rank}
use Rattle.walk_model.specs.WalkTrails.{AreWalkingSteps, IsIntervalTrail, HasRisen, ReachesIntervalLimit, is_within}
use Rattle.walk_model.proofs.Trails.{one_interval}
use Rattle.rank_model.specs.Restricted.{IsProjection, squared_length, rank_bound}
use Rattle.rank_model.proofs.Lengths.{one_length}
use Rattle.rank_walk_model.specs.Intervals.{IsAsked, IsWalked, bound_by, when_on}
use Rattle.rank_walk_model.specs.RankWalks.{rise, fall, tested as walk}
use Rattle.rank_walk_model.proofs.Intervals.{exact_interval}
use Rattle.fraction_tableau.proofs.Inverses.{basis_of, ends_of}
use Rattle.br_pivot.specs.Solves.{IsLimitAnswer}
use Rattle.rank_steps.specs.declared.way.Way.TheVariants.{Rise, Fall}
use Rattle.rank_inversion.specs.declared.inversion.Inversion.{Inversion}
use Rattle.rank_inversion.specs.declared.column_test.Asked.{Asked}
use Rattle.rank_tableau.specs.declared.walking.Arrival.{Arrival}
use Rattle.rank_inversion.specs.AllIntervals.{IsRightInterval, IsRightStop}
use Rattle.rank_inversion.specs.Intervals.{IsExactInterval, IsRankInterval}
use Rattle.rank_inversion.specs.Inversions.{IsAskable, course_of, trail_with, IsReady, IsStopHere, IsRisen, IsFallen}
use Rattle.rank_inversion.specs.Stops.{IsBound, IsLimited, IsIntervalStop}
use Rattle.rank_inversion.specs.Tests.{IsTested}
use Rattle.rank_inversion.specs.Trails.{joined}
use Rattle.rank_inversion.specs.Walks.{AreSteps, IsAtLimit, IsSpilled}
use Rattle.rank_inversion.proofs.Joined.{at_most, asked_costs, lawful_walks, walked_is_risen, interval_is}
use Rattle.rank_inversion.proofs.NoStep.{walk_is_ended}

module _ {F : Type 0} (value : F → Fraction) (v : Inversion F) (ready : IsReady value v) where
  abbrev p : Problem F
  p = v.problem.now

  abbrev q : Sample
  q = sample value v.problem.now

  abbrev tau : ℚ
  tau = rational (value v.asked.tau)

  abbrev crit : ℚ
  crit = rational (value v.asked.crit)

  abbrev j : ℕ
  j = v.asked.column

  abbrev bound : ℚ
  bound = rational (value v.bound)

  abbrev solved : List ℕ
  solved = v.solved.now.basis.rows

  optimal : IsOptimalBasis q tau solved
  optimal =
      record {
        size = ready.solution.inverse.size;
        a = inverse_entry value v.solved.now.inverse;
        is_basis = basis_of value p solved v.solved.now.inverse ready.solution.inverse;
        ends = ends_of value p solved v.solved.now.inverse ready.solution.inverse;
        holds = ready.solution.stop;
      }

  lawful : (up down : List Exchange) → AreSteps value p (course_of v Rise) solved up → AreSteps value p (course_of v Fall) solved down
      → (down ≡ []) ⊎ HasRisen q tau j bound (trail_with v up down) solved → IsIntervalTrail q tau j bound (trail_with v up down) solved
  lawful = lawful_walks value p v.asked ready.askable v.solved.now.trail solved ready.solution.lawful optimal bound

  risen : (up : Arrival) (down : List Exchange) → IsRisen value v up → HasRisen q tau j bound (trail_with v up.steps down) solved
  risen up down h = walked_is_risen value p v.asked ready.askable v.solved.now.trail solved bound up.steps down up.end h.ended.ended

  -- ---- stops

  pub rise_limit : (steps none : List Exchange) (left : ℕ) → none ≡ [] → length v.solved.now.trail.steps + left ≡ v.limit → IsAtLimit value p (course_of v Rise) solved left steps
      → (range : ℕ) → IsStopHere value range v (PivotLimit v.limit (trail_with v steps none))
  rise_limit steps none left empty count h range =
      subst (λ none. IsStopHere value range v (PivotLimit v.limit (trail_with v steps none))) (sym empty) (
        refl,
        (
          bound,
          ready.bound,
          inr (record {
            basis = solved;
            lawful = lawful steps [] h.walked tt (inl refl);
            count = let all : length steps ≡ left = h.count in omega (arith, all, count);
            more = inl (refl, h.more);
          }),
        ),
      )

  pub rise_spill : (steps none : List Exchange) (left : ℕ) (s : Spill F) (range : ℕ) → none ≡ [] → length v.solved.now.trail.steps + left ≡ v.limit → IsSpilled value p (course_of v Rise) solved range left steps s
      → IsStopHere value range v (Overflow (trail_with v steps none) s)
  rise_spill steps none left s range empty count h =
      subst (λ none. IsStopHere value range v (Overflow (trail_with v steps none) s)) (sym empty) (
        bound,
        ready.bound,
        record {
          solved = solved;
          lawful = lawful steps [] h.walked tt (inl refl);
          short = let few : length steps ≤ left = h.short in omega (arith, few, count);
          here = inl (refl, h.spill);
        },
      )

  pub fall_limit : (up : Arrival) → IsRisen value v up → (steps : List Exchange) (left : ℕ) → length v.solved.now.trail.steps + (length up.steps + left) ≡ v.limit → IsAtLimit value p (course_of v Fall) solved left steps
      → (range : ℕ) → IsStopHere value range v (PivotLimit v.limit (trail_with v up.steps steps))
  fall_limit up h steps left count k range = (
    refl,
    (
      bound,
      ready.bound,
      inr (record {
        basis = solved;
        lawful = lawful up.steps steps h.ended.walked k.walked (inr (risen up steps h));
        count = let all : length steps ≡ left = k.count in omega (arith, all, count);
        more = inr (risen up steps h, k.more);
      }),
    ),
  )

  pub fall_spill : (up : Arrival) → IsRisen value v up → (steps : List Exchange) (left : ℕ) (s : Spill F) (range : ℕ) → length v.solved.now.trail.steps + (length up.steps + left) ≡ v.limit
      → IsSpilled value p (course_of v Fall) solved range left steps s
      → IsStopHere value range v (Overflow (trail_with v up.steps steps) s)
  fall_spill up h steps left s range count k = (
    bound,
    ready.bound,
    record {
      solved = solved;
      lawful = lawful up.steps steps h.ended.walked k.walked (inr (risen up steps h));
      short = let few : length steps ≤ left = k.short in omega (arith, few, count);
      here = inr (risen up steps h, k.spill);
    },
  )

  -- ---- the interval

  module _ (factors : List Fraction) (tested : IsTested value p v.asked (record { factors = factors; bound = v.bound })) (up down : Arrival) (h : IsRisen value v up) (k : IsFallen value v up.steps down) where
    same_bound : bound ≡ rank_bound tau crit (squared_length q j (number_at factors))
    same_bound = tested.bound

    pub joined_is : IsRankInterval value p j v.asked.tau v.asked.crit v.limit
        (joined value v.solved.now.trail v.asked factors up down)
    joined_is =
        interval_is value p v.asked ready.askable v.solved.now.trail solved factors up down ready.solution.lawful optimal tested.projection tested.positive tested.size
        (subst (λ b. AreWalkingSteps (when_on rise) (walk rise q tau j) (is_within b) (whole (pos 0)) solved up.steps) same_bound h.ended.walked)
        (subst (λ b. AreWalkingSteps (when_on fall) (walk fall q tau j) (is_within b) (whole (pos 0)) solved down.steps) same_bound k.ended.walked)
        (subst (λ b. IsWalked value p rise j tau b solved up.steps up.end) same_bound h.ended.ended)
        (subst (λ b. IsWalked value p fall j tau b solved down.steps down.end) same_bound k.ended.ended) v.limit
        (let few : length down.steps ≤ k.left = k.ended.short in let count : length v.solved.now.trail.steps + (length up.steps + k.left) ≡ v.limit = k.count in omega (arith, few, count))

-- ---- what an interval says

module _ {F : Type 0} (value : F → Fraction) (p : Problem F) (asked : Asked F) (limit : ℕ) (askable : IsAskable value p asked) where
  abbrev tau' : ℚ
  tau' = rational (value asked.tau)

  module _ (r : Interval) (h : IsRankInterval value p asked.column asked.tau asked.crit limit r) where
    same_tau : rational r.tau ≡ tau'
    same_tau = ap rational h.tau

    is_asked : IsAsked value p r
    is_asked =
        record {
          column = subst (λ k. k < p.columns) (sym h.column) askable.column;
          costs = subst (HasCosts (sample value p)) (sym same_tau) (asked_costs value p asked askable);
          tau_above = subst (λ z. whole (pos 0) ≤ℚ z) (sym same_tau) (at_most (whole (pos 0)) tau' askable.tau_above);
          tau_below = subst (λ z. z ≤ℚ whole (pos 1)) (sym same_tau) (at_most tau' (whole (pos 1)) askable.tau_below);
          crit = subst (λ x. whole (pos 0) ≤ℚ rational x) (sym h.crit) askable.crit;
        }

    exact_is : IsExactInterval value p asked.column (rational (value asked.tau)) (rational (value asked.crit)) r
    exact_is =
        subst (λ k. IsExactInterval value p k (rational (value asked.tau)) (rational (value asked.crit)) r) h.column
        (subst (λ x. IsExactInterval value p r.column (rational x) (rational (value asked.crit)) r) h.tau
        (subst (λ x. IsExactInterval value p r.column (rational r.tau) (rational x) r) h.crit
        (exact_interval value p r is_asked h.lawful).exact))

    abbrev b : ℚ
    b = bound_by value p r h.lawful.factors

    abbrev col : r.column < p.columns
    col = subst (λ k. k < p.columns) (sym h.column) askable.column

    -- each bound is that of the interval
    one_bound : (c : ℚ) → IsBound value p asked.column (rational (value asked.tau)) (rational (value asked.crit)) c → c ≡ b
    one_bound c (f, is, e) =
        e
        ∙ ap (rank_bound tau' (rational (value asked.crit))) (one_length (sample value p) asked.column f h.lawful.factors askable.column is
        (subst (λ k. IsProjection (sample value p) k h.lawful.factors) h.column h.lawful.right.projection))
        ∙ same
      where
        same : rank_bound tau' (rational (value asked.crit)) (squared_length (sample value p) asked.column h.lawful.factors) ≡ b
        same =
            ap (λ x. rank_bound (rational x) (rational (value asked.crit)) (squared_length (sample value p) asked.column h.lawful.factors)) (sym h.tau)
            ∙ ap (λ x. rank_bound (rational r.tau) (rational x) (squared_length (sample value p) asked.column h.lawful.factors)) (sym h.crit)
            ∙ ap (λ k. rank_bound (rational r.tau) (rational r.crit) (squared_length (sample value p) k h.lawful.factors)) (sym h.column)

    none_limited : ¬ IsLimited value p asked.column (rational (value asked.tau)) (rational (value asked.crit)) limit
    none_limited (c, is, (other, reached)) =
        one_interval (sample value p) (rational r.tau) r.column b is_asked.costs r.trail other h.lawful.right.solved limit h.lawful.right.lawful
        (walk_is_ended value p r.column (rational r.tau) b col rise h.lawful.right.solved r.trail.rise r.high h.lawful.right.high)
        (walk_is_ended value p r.column (rational r.tau) b col fall h.lawful.right.solved r.trail.fall r.low h.lawful.right.low)
        h.short
        (subst (λ x. ReachesIntervalLimit (sample value p) (rational x) r.column b limit other) (sym h.tau)
        (subst (λ k. ReachesIntervalLimit (sample value p) tau' k b limit other) (sym h.column)
        (subst (λ b. ReachesIntervalLimit (sample value p) tau' asked.column b limit other) (one_bound c is) reached)))

  -- where a trail reaches the limit the columns are independent
  not_dependent : (combination : List Fraction) → IsDependent value p combination → ¬ IsLimited value p asked.column (rational (value asked.tau)) (rational (value asked.crit)) limit
  not_dependent combination d (c, is, (other, inl r)) =
      d.dependence.some (full_rank (sample value p) _ r.more.a r.more.is_basis (number_at combination) d.dependence.zero d.dependence.column d.dependence.within)
  not_dependent combination d (c, is, (other, inr r)) =
      d.dependence.some (full_rank (sample value p) _ r.lawful.optimal.a r.lawful.optimal.is_basis (number_at combination) d.dependence.zero d.dependence.column d.dependence.within)

  stop_limited : (range : ℕ) (stop : Stop F) → IsIntervalStop value range p asked.column (rational (value asked.tau)) (rational (value asked.crit)) limit stop
      → IsLimited value p asked.column (rational (value asked.tau)) (rational (value asked.crit)) limit → IsLimitAnswer {A = Interval} (Err stop)
  stop_limited range (Dependent combination) h reached = not_dependent combination h reached
  stop_limited range other h reached = tt

  -- so a lawful interval is the one that is asked for, and such a stop is right
  pub right_is : (r : Interval) → IsRankInterval value p asked.column asked.tau asked.crit limit r → IsRightInterval value p limit asked r
  right_is r h = record { exact = exact_is r h; lawful = h; unlimited = none_limited r h }

  pub stop_is : (range : ℕ) (stop : Stop F) → IsIntervalStop value range p asked.column (rational (value asked.tau)) (rational (value asked.crit)) limit stop → IsRightStop value range p limit asked stop
  stop_is range stop h = record { cause = h; limited = stop_limited range stop h }
