-- What the walks of an interval keep, and what they leave.
use Rattle.std.specs.Prelude.{◌≡◌, ◌≢◌, ℕ, [], ◌∷◌, pos, negsuc}
use Rattle.std.proofs.Common.{refl, sym, ap, subst, ◌∙◌}
use Rattle.rational_laws.specs.Solver.{number, negated, ◌⊟◌, ◌⊠◌, v0}
use Rattle.rational_laws.specs.Rational.{ℚ, ◌*ℚ◌, neg_ℚ, whole, ◌≤ℚ◌}
use Rattle.rational_laws.proofs.RationalLaws.{ring_ℚ, ≤ℚ_refl, ≤ℚ_trans}
use Rattle.rational_laws.proofs.RationalSumLaws.{≤ℚ_from}
use Rattle.rational_laws.specs.Terms.{delta}
use Rattle.rational_laws.proofs.TermLaws.{if-same, if-other}
use Rattle.loss_model.specs.Sample.{Sample}
use Rattle.pivot_model.specs.declared.direction.Direction.{Direction}
use Rattle.basis_model.specs.Basis.{IsBasis, coefficient}
use Rattle.pivot_model.specs.Steps.{HasNoNegativeSlope}
use Rattle.walk_model.specs.Families.{Family, by_weight, dual_in, IsOptimalIn}
use Rattle.walk_model.specs.Walks.{IsFirstMover, AreExchanged, IsNextBreak}
use Rattle.walk_model.proofs.Slopes.{optimal_to, none_before}
use Rattle.walk_model.proofs.Stays.{optimal_stays}
use Rattle.walk_model.proofs.Tested.{slope_zero}
use Rattle.walk_model.proofs.Ends.{break_is_there, rising_right, falling_right}
use Rattle.walk_model.proofs.Rays.{rising_end, falling_end, rising_scaled, falling_scaled}
use Rattle.loss_model.specs.Strict.{◌<ℚ◌}
use Rattle.rank_model.specs.Restricted.{IsOptimalAt, rank_statistic, squared_length, rank_bound}
use Rattle.rank_model.specs.Bounds.{IsInside, IsBeyond}
use Rattle.rank_model.proofs.Values.{not_negative_is}
use Rattle.rank_model.proofs.Exact.{begins, rises, sinks, endless, endless_below, exact}
use Rattle.rank_walk_model.specs.RankWalks.{rise, fall, ray, IsTest, WalkStandsFirst, WalkStandsNext, WalkIsInside, WalkHasBreak, WalkEndsHere, WalkNeverEnds, WalksAreExact}
use Rattle.rank_walk_model.proofs.Tested.{is_feasible, statistic_is, is_inside, is_beyond, optimal_next}

-- column j alone is to weigh anything: sigma, whose square is 1
record IsSigned (right : ℕ → ℚ) (j : ℕ) (sigma : ℚ) : Type 0 where
  pub own : right j ≡ sigma
  pub others : (k : ℕ) → k ≢ j → right k ≡ whole (pos 0)
  pub square : sigma *ℚ sigma ≡ whole (pos 1)

falling_signed : (j : ℕ) → IsSigned (delta j) j (whole (pos 1))
falling_signed j =
    record {
      own = if-same j j (whole (pos 1)) (whole (pos 0)) refl;
      others = λ k other. if-other j k (whole (pos 1)) (whole (pos 0)) (λ e. other (sym e));
      square = ring_ℚ [] (number (pos 1) ⊠ number (pos 1)) (number (pos 1)) refl;
    }

rising_signed : (j : ℕ) → IsSigned (λ k. neg_ℚ (delta j k)) j (neg_ℚ (whole (pos 1)))
rising_signed j =
    record {
      own = ap neg_ℚ (if-same j j (whole (pos 1)) (whole (pos 0)) refl);
      others = λ k other. ap neg_ℚ (if-other j k (whole (pos 1)) (whole (pos 0)) (λ e. other (sym e))) ∙ ring_ℚ [] (negated (number (pos 0))) (number (pos 0)) refl;
      square = ring_ℚ [] (negated (number (pos 1)) ⊠ negated (number (pos 1))) (number (pos 1)) refl;
    }

module _ (p : Sample) (j : ℕ) (tau crit : ℚ) (c : ℕ → ℚ) (test : IsTest p j tau c) (right : ℕ → ℚ) (sigma : ℚ) (w : IsSigned right j sigma) where
  abbrev f : Family
  f = record { sample = p; parameter = by_weight tau; right = right }

  abbrev q : ℚ
  q = squared_length p j c

  module _ (at : ℕ → ℕ) (a : ℕ → ℕ → ℚ) (basis : IsBasis p at a) where
    solved_stop : HasNoNegativeSlope p at a tau → IsOptimalIn f at a (whole (pos 0))
    solved_stop stop k d lk = subst (λ z. whole (pos 0) ≤ℚ z) (sym (slope_zero p tau j at a right k d)) (stop k d lk)

    zero_within : whole (pos 0) ≤ℚ rank_bound tau crit q → (whole (pos 0) *ℚ whole (pos 0)) ≤ℚ rank_bound tau crit q
    zero_within h = subst (λ z. z ≤ℚ rank_bound tau crit q) (ring_ℚ [] (number (pos 0)) (number (pos 0) ⊠ number (pos 0)) refl) h

    module _ (t : ℚ) (stop : IsOptimalIn f at a t) where
      here_inside : (t *ℚ t) ≤ℚ rank_bound tau crit q → IsInside p j tau crit q (coefficient p at a j) (dual_in f at a t)
      here_inside h = is_inside p tau j test.column right sigma w.own w.others w.square at a basis test.costs t stop crit q h

      module _ (u : ℚ) (k : ℕ) (d : Direction) (break : IsNextBreak f at a t u k d) where
        stop_there : IsOptimalIn f at a u
        stop_there = optimal_to f at a t u u stop (none_before f at a t u k d break) break.after (≤ℚ_refl u)

        there_inside : (u *ℚ u) ≤ℚ rank_bound tau crit q → IsInside p j tau crit q (coefficient p at a j) (dual_in f at a u)
        there_inside h = is_inside p tau j test.column right sigma w.own w.others w.square at a basis test.costs u stop_there crit q h

        there_beyond : rank_bound tau crit q <ℚ (u *ℚ u) → IsBeyond p j tau crit q (coefficient p at a j) (dual_in f at a u)
        there_beyond h = is_beyond p tau j test.column right sigma w.own w.others w.square at a basis test.costs u stop_there crit q h

        there_statistic : rank_statistic p j (dual_in f at a u) ≡ sigma *ℚ u
        there_statistic =
            statistic_is p tau j test.column right sigma w.own w.others w.square u (dual_in f at a u)
            (is_feasible p tau j test.column right sigma w.own w.others w.square at a basis test.costs u stop_there)

        module _ (next : ℕ → ℕ) (b : ℕ → ℕ → ℚ) (r : ℕ) (new : IsBasis p next b) (exchange : AreExchanged p.columns at next k r) (first : IsFirstMover p at a k d r) where
          next_optimal : IsOptimalAt p j tau (coefficient p next b j) (dual_in f at a u)
          next_optimal =
              optimal_next p tau j test.column right sigma w.own w.others w.square at a basis test.costs u stop_there next b k r d new exchange break.position first break.crosses.meets

          next_stop : IsOptimalIn f next b u
          next_stop = optimal_stays f at next a b u k r d basis new exchange break.position first break.crosses.meets test.costs stop_there

-- ---- the laws

pub stands_first : WalkStandsFirst
stands_first rise p j tau crit c at a test basis stop bound =
    let right = λ (k : ℕ). neg_ℚ (delta j k) in
    let start = solved_stop p j tau crit c test right (neg_ℚ (whole (pos 1))) (rising_signed j) at a basis stop in
    let small = zero_within p j tau crit c test right (neg_ℚ (whole (pos 1))) (rising_signed j) at a basis bound in
    record {
      basis = basis;
      holds = begins p j tau crit (coefficient p at a j) c _ test.projection (here_inside p j tau crit c test right (neg_ℚ (whole (pos 1))) (rising_signed j) at a basis (whole (pos 0)) start small);
      optimal = start;
      forward = ≤ℚ_refl (whole (pos 0));
      within = small;
    }
stands_first fall p j tau crit c at a test basis stop bound =
    let start = solved_stop p j tau crit c test (delta j) (whole (pos 1)) (falling_signed j) at a basis stop in
    let small = zero_within p j tau crit c test (delta j) (whole (pos 1)) (falling_signed j) at a basis bound in
    record {
      basis = basis;
      holds = begins p j tau crit (coefficient p at a j) c _ test.projection (here_inside p j tau crit c test (delta j) (whole (pos 1)) (falling_signed j) at a basis (whole (pos 0)) start small);
      optimal = start;
      forward = ≤ℚ_refl (whole (pos 0));
      within = small;
    }

pub stands_next : WalkStandsNext
stands_next rise p j tau crit c start at next a b t u k r test s step new exchange =
    let right = λ (k : ℕ). neg_ℚ (delta j k) in
    let small : (u *ℚ u) ≤ℚ rank_bound tau crit (squared_length p j c) = record { le = step.within } in
    record {
      basis = new;
      holds =
          rises p j tau crit start (coefficient p at a j) (coefficient p next b j) c _ test.projection s.holds
          (there_inside p j tau crit c test right (neg_ℚ (whole (pos 1))) (rising_signed j) at a s.basis t s.optimal u k step.direction step.break small)
          (next_optimal p j tau crit c test right (neg_ℚ (whole (pos 1))) (rising_signed j) at a s.basis t s.optimal u k step.direction step.break next b r new exchange step.entering);
      optimal = next_stop p j tau crit c test right (neg_ℚ (whole (pos 1))) (rising_signed j) at a s.basis t s.optimal u k step.direction step.break next b r new exchange step.entering;
      forward = ≤ℚ_trans (whole (pos 0)) t u s.forward step.break.after;
      within = small;
    }
stands_next fall p j tau crit c start at next a b t u k r test s step new exchange =
    let small : (u *ℚ u) ≤ℚ rank_bound tau crit (squared_length p j c) = record { le = step.within } in
    record {
      basis = new;
      holds =
          sinks p j tau crit start (coefficient p at a j) (coefficient p next b j) c _ test.projection s.holds
          (there_inside p j tau crit c test (delta j) (whole (pos 1)) (falling_signed j) at a s.basis t s.optimal u k step.direction step.break small)
          (next_optimal p j tau crit c test (delta j) (whole (pos 1)) (falling_signed j) at a s.basis t s.optimal u k step.direction step.break next b r new exchange step.entering);
      optimal = next_stop p j tau crit c test (delta j) (whole (pos 1)) (falling_signed j) at a s.basis t s.optimal u k step.direction step.break next b r new exchange step.entering;
      forward = ≤ℚ_trans (whole (pos 0)) t u s.forward step.break.after;
      within = small;
    }

pub inside : WalkIsInside
inside rise p j tau crit c start at a t test s =
    here_inside p j tau crit c test (λ k. neg_ℚ (delta j k)) (neg_ℚ (whole (pos 1))) (rising_signed j) at a s.basis t s.optimal s.within
inside fall p j tau crit c start at a t test s =
    here_inside p j tau crit c test (delta j) (whole (pos 1)) (falling_signed j) at a s.basis t s.optimal s.within

pub goes_on : WalkHasBreak
goes_on rise p j tau crit c start at a t test s = break_is_there p tau (λ k. neg_ℚ (delta j k)) at a s.basis t j test.column (rising_right j) s.optimal
goes_on fall p j tau crit c start at a t test s = break_is_there p tau (delta j) at a s.basis t j test.column (falling_right j) s.optimal

pub ends_here : WalkEndsHere
ends_here rise p j tau crit c start at a t u k d test s break out =
    let right = λ (k : ℕ). neg_ℚ (delta j k) in
    let beyond = there_beyond p j tau crit c test right (neg_ℚ (whole (pos 1))) (rising_signed j) at a s.basis t s.optimal u k d break out in
    let statistic = there_statistic p j tau crit c test right (neg_ℚ (whole (pos 1))) (rising_signed j) at a s.basis t s.optimal u k d break in
    let forward = ≤ℚ_trans (whole (pos 0)) t u s.forward break.after in
    let side = subst (λ z. z ≤ℚ whole (pos 0)) (sym statistic) (≤ℚ_from (neg_ℚ (whole (pos 1)) *ℚ u) (whole (pos 0)) (not_negative_is u _ (ring_ℚ (u ∷ []) v0 (number (pos 0) ⊟ negated (number (pos 1)) ⊠ v0) refl) forward)) in
    (beyond, side, (s.holds, (_, beyond, side)))
ends_here fall p j tau crit c start at a t u k d test s break out =
    let beyond = there_beyond p j tau crit c test (delta j) (whole (pos 1)) (falling_signed j) at a s.basis t s.optimal u k d break out in
    let statistic = there_statistic p j tau crit c test (delta j) (whole (pos 1)) (falling_signed j) at a s.basis t s.optimal u k d break in
    let forward = ≤ℚ_trans (whole (pos 0)) t u s.forward break.after in
    let side = not_negative_is u _ (ring_ℚ (u ∷ []) v0 (number (pos 1) ⊠ v0) refl ∙ sym statistic) forward in
    (beyond, side, (s.holds, (_, beyond, side)))

pub never_ends : WalkNeverEnds
never_ends rise p j tau crit c start at a t u k d test s break small none =
    let right = λ (k : ℕ). neg_ℚ (delta j k) in
    let here = there_inside p j tau crit c test right (neg_ℚ (whole (pos 1))) (rising_signed j) at a s.basis t s.optimal u k d break small in
    let agrees = rising_end p tau j at a s.basis u k test.column break.position d break.crosses none in
    let one = rising_scaled p tau j at a s.basis u k test.column break.position d break.crosses in
    (here, agrees, one, endless p j tau crit start (coefficient p at a j) c (ray rise a j k) _ test.column test.projection s.holds here agrees one)
never_ends fall p j tau crit c start at a t u k d test s break small none =
    let here = there_inside p j tau crit c test (delta j) (whole (pos 1)) (falling_signed j) at a s.basis t s.optimal u k d break small in
    let agrees = falling_end p tau j at a s.basis u k test.column break.position d break.crosses none in
    let one =
    falling_scaled p tau j at a s.basis u k test.column break.position d break.crosses
    ∙ ring_ℚ [] (negated (number (pos 1))) (number (negsuc 0)) refl in
    (here, agrees, one, endless_below p j tau crit start (coefficient p at a j) c (ray fall a j k) _ test.column test.projection s.holds here agrees one)

pub are_exact : WalksAreExact
are_exact p j tau crit c start low high test low_end high_end = exact p j tau crit start c low high test.column test.projection low_end high_end
