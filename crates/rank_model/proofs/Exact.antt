-- Which values hold.
use Rattle.std.specs.Prelude.{◌≡◌, ◌⊎◌, ℕ, ◌<◌, [], pos}
use Rattle.std.proofs.Common.{refl, sym, subst, ◌∙◌, inl, inr}
use Rattle.rational_laws.specs.Solver.{number, ◌⊠◌}
use Rattle.rational_laws.specs.Rational.{ℚ, ◌-ℚ◌, ◌*ℚ◌, whole, ◌≤ℚ◌}
use Rattle.rational_laws.proofs.RationalLaws.{ring_ℚ, ≤ℚ_trans, ≤ℚ_antisym}
use Rattle.rational_laws.specs.RationalSums.{sum_ℚ, positive_ℚ, negative_ℚ}
use Rattle.rational_laws.proofs.RationalSumLaws.{sum_ℚ-le, parts_ℚ}
use Rattle.rational_laws.proofs.OrderLaws.{≤ℚ-minus}
use Rattle.rational_laws.proofs.Signs.{product_not_negative}
use Rattle.loss_model.specs.Sample.{Sample, up_cost, down_cost, residual, row_loss, loss}
use Rattle.loss_model.proofs.Duality.{sum_of_residuals, bounded}
use Rattle.rank_model.specs.Restricted.{IsFeasibleWithout, restricted_objective, IsOptimalAt, rank_statistic, IsProjection, squared_length, rank_bound, Holds}
use Rattle.rank_model.specs.Bounds.{IsAtLeast, IsAtMost, IsAbove, IsBelow, IsInside, IsBeyond, IsHighEnd, IsLowEnd, IsShownHigh, IsShownLow}
use Rattle.rank_model.specs.Laws.{FitIsInside, BoundIsNotNegative, WalkBegins, RiseGoesOn, FallGoesOn, RiseIsEndless, FallIsEndless, ExactInterval, NothingBeyond, AllAreWithin, EndsAreInOrder}
use Rattle.rank_model.proofs.Values.{either, not_less, square_falls, square_grows, square_between}
use Rattle.rank_model.proofs.Optimal.{falls, optimal_between, rising_ray, falling_ray, objective_by_residuals}
use Rattle.rank_model.proofs.Lengths.{one_length, squares_not_negative}
use Rattle.loss_model.specs.declared.interval.Bound.{Bound}
use Rattle.loss_model.specs.declared.interval.Bound.TheVariants.{Finite, Infinite}

module _ (p : Sample) (j : ℕ) (tau crit : ℚ) where
  -- values that are inside show that the tested one holds
  pub inside_holds : (xi : ℚ) (c e : ℕ → ℚ) → IsProjection p j c → IsInside p j tau crit (squared_length p j c) xi e → Holds p j tau crit xi
  inside_holds xi c e pr h = record { c = c; projection = pr; e = e; optimal = h.optimal; within = h.within }

  -- whatever projection shows it, the square is within the bound by any
  pub within_any : (lj : j < p.columns) (xi : ℚ) (c : ℕ → ℚ) → IsProjection p j c → (h : Holds p j tau crit xi) → (rank_statistic p j h.e *ℚ rank_statistic p j h.e) ≤ℚ rank_bound tau crit (squared_length p j c)
  within_any lj xi c pr h = subst (λ q. (rank_statistic p j h.e *ℚ rank_statistic p j h.e) ≤ℚ rank_bound tau crit q) (one_length p j h.c c lj h.projection pr) h.within

  pub none_above : (lj : j < p.columns) (hi xi : ℚ) (c f : ℕ → ℚ) → IsProjection p j c → IsBeyond p j tau crit (squared_length p j c) hi f → rank_statistic p j f ≤ℚ whole (pos 0) → Holds p j tau crit xi → xi ≤ℚ hi
  none_above lj hi xi c f pr out low h =
      not_less hi xi (λ above.
      out.beyond (≤ℚ_trans (rank_statistic p j f *ℚ rank_statistic p j f) (rank_statistic p j h.e *ℚ rank_statistic p j h.e) (rank_bound tau crit (squared_length p j c))
      (square_falls (rank_statistic p j f) (rank_statistic p j h.e) low (falls p j tau hi xi f h.e out.optimal h.optimal above))
      (within_any lj xi c pr h)))

  pub none_below : (lj : j < p.columns) (lo xi : ℚ) (c f : ℕ → ℚ) → IsProjection p j c → IsBeyond p j tau crit (squared_length p j c) lo f → whole (pos 0) ≤ℚ rank_statistic p j f → Holds p j tau crit xi → lo ≤ℚ xi
  none_below lj lo xi c f pr out high h =
      not_less xi lo (λ below.
      out.beyond (≤ℚ_trans (rank_statistic p j f *ℚ rank_statistic p j f) (rank_statistic p j h.e *ℚ rank_statistic p j h.e) (rank_bound tau crit (squared_length p j c))
      (square_grows (rank_statistic p j f) (rank_statistic p j h.e) high (falls p j tau xi lo h.e f h.optimal out.optimal below))
      (within_any lj xi c pr h)))

pub bound_not_negative : BoundIsNotNegative
bound_not_negative p j tau crit c hc ht hu =
    product_not_negative ((crit *ℚ tau) *ℚ (whole (pos 1) -ℚ tau)) (squared_length p j c)
    (product_not_negative (crit *ℚ tau) (whole (pos 1) -ℚ tau) (product_not_negative crit tau hc ht) ((≤ℚ-minus tau (whole (pos 1))).0 hu))
    (squares_not_negative p.rows _)

-- ---- the fit to all columns

pub fit_is_inside : FitIsInside
fit_is_inside p j tau crit q b e lj d bound =
    record {
      optimal =
          record {
            feasible = feasible;
            greatest = λ f g.
                subst (λ z. z ≤ℚ restricted_objective p j (b j) e) (objective_by_residuals p j lj tau b f g)
                (subst (λ z. sum_ℚ p.rows (λ i. f i *ℚ residual p b i) ≤ℚ z) same
                (sum_ℚ-le p.rows (λ i. f i *ℚ residual p b i) (row_loss p tau b) (λ i l. row f g i l)));
          };
      within = subst (λ z. (z *ℚ z) ≤ℚ rank_bound tau crit q) (sym (d.feasible.balanced j lj)) (subst (λ z. z ≤ℚ rank_bound tau crit q) (ring_ℚ [] (number (pos 0)) (number (pos 0) ⊠ number (pos 0)) refl) bound);
    }
  where
    feasible : IsFeasibleWithout p j tau e
    feasible = record { lower = d.feasible.lower; upper = d.feasible.upper; balanced = λ k l other. d.feasible.balanced k l }

    same : loss p tau b ≡ restricted_objective p j (b j) e
    same = d.equal ∙ sym (sum_of_residuals p b e d.feasible.balanced) ∙ objective_by_residuals p j lj tau b e feasible

    row : (f : ℕ → ℚ) → IsFeasibleWithout p j tau f → (i : ℕ) → i < p.rows → (f i *ℚ residual p b i) ≤ℚ row_loss p tau b i
    row f g i l =
        let r = residual p b i in
        let two = parts_ℚ r in
        subst (λ z. (f i *ℚ z) ≤ℚ row_loss p tau b i) (sym two.0)
        (bounded (up_cost p tau i) (down_cost p tau i) (f i) (positive_ℚ r) (negative_ℚ r) (g.lower i l) (g.upper i l) two.1 two.2)

-- ---- the walks

pub begins : WalkBegins
begins p j tau crit start c e pr h xi l u =
    subst (Holds p j tau crit) (≤ℚ_antisym start xi l u) (inside_holds p j tau crit start c e pr h)

-- values that are inside at one value and optimal at another one show that all between hold
between : (p : Sample) (j : ℕ) (tau crit lo hi xi : ℚ) (c e : ℕ → ℚ) → IsProjection p j c → IsOptimalAt p j tau lo e → IsOptimalAt p j tau hi e
    → (rank_statistic p j e *ℚ rank_statistic p j e) ≤ℚ rank_bound tau crit (squared_length p j c) → lo ≤ℚ xi → xi ≤ℚ hi → Holds p j tau crit xi
between p j tau crit lo hi xi c e pr o v w l u =
    inside_holds p j tau crit xi c e pr (record { optimal = optimal_between p j tau lo hi xi e o v l u; within = w })

pub rises : RiseGoesOn
rises p j tau crit start present next c e pr known h o xi l u = by (either xi present)
  where
    by : (xi ≤ℚ present) ⊎ (present ≤ℚ xi) → Holds p j tau crit xi
    by (inl before) = known xi l before
    by (inr after) = between p j tau crit present next xi c e pr h.optimal o h.within after u

pub sinks : FallGoesOn
sinks p j tau crit start present next c e pr known h o xi l u = by (either present xi)
  where
    by : (present ≤ℚ xi) ⊎ (xi ≤ℚ present) → Holds p j tau crit xi
    by (inl before) = known xi before u
    by (inr after) = between p j tau crit next present xi c e pr o h.optimal h.within l after

pub endless : RiseIsEndless
endless p j tau crit start present c d e lj pr known h ray one xi l = by (either xi present)
  where
    by : (xi ≤ℚ present) ⊎ (present ≤ℚ xi) → Holds p j tau crit xi
    by (inl before) = known xi l before
    by (inr after) = inside_holds p j tau crit xi c e pr (record { optimal = (rising_ray p j tau present d e lj h.optimal ray one).1 xi after; within = h.within })

pub endless_below : FallIsEndless
endless_below p j tau crit start present c d e lj pr known h ray one xi u = by (either present xi)
  where
    by : (present ≤ℚ xi) ⊎ (xi ≤ℚ present) → Holds p j tau crit xi
    by (inl before) = known xi before u
    by (inr after) = inside_holds p j tau crit xi c e pr (record { optimal = (falling_ray p j tau present d e lj h.optimal ray one).1 xi after; within = h.within })

-- ---- the ends

pub exact : ExactInterval
exact p j tau crit start c low high lj pr low_end high_end xi = (λ h. by (either start xi) (h.0) (h.1), λ h. (at_least low low_end h, at_most high high_end h))
  where
    upwards : (high : Bound ℚ) → IsHighEnd p j tau crit (squared_length p j c) start high → start ≤ℚ xi → IsAtMost high xi → Holds p j tau crit xi
    upwards (Finite hi) end l u = end.0 xi l u
    upwards Infinite end l u = end xi l

    downwards : (low : Bound ℚ) → IsLowEnd p j tau crit (squared_length p j c) start low → xi ≤ℚ start → IsAtLeast low xi → Holds p j tau crit xi
    downwards (Finite lo) end u l = end.0 xi l u
    downwards Infinite end u l = end xi u

    by : (start ≤ℚ xi) ⊎ (xi ≤ℚ start) → IsAtLeast low xi → IsAtMost high xi → Holds p j tau crit xi
    by (inl above) l u = upwards high high_end above u
    by (inr below) l u = downwards low low_end below l

    at_least : (low : Bound ℚ) → IsLowEnd p j tau crit (squared_length p j c) start low → Holds p j tau crit xi → IsAtLeast low xi
    at_least (Finite lo) end h = none_below p j tau crit lj lo xi c end.1.0 pr end.1.1 end.1.2 h
    at_least Infinite end h = tt

    at_most : (high : Bound ℚ) → IsHighEnd p j tau crit (squared_length p j c) start high → Holds p j tau crit xi → IsAtMost high xi
    at_most (Finite hi) end h = none_above p j tau crit lj hi xi c end.1.0 pr end.1.1 end.1.2 h
    at_most Infinite end h = tt

pub nothing_beyond : NothingBeyond
nothing_beyond p j tau crit c a b low high lj pr shown_low shown_high xi h = (at_least low shown_low, at_most high shown_high)
  where
    at_least : (low : Bound ℚ) → IsShownLow p j tau crit (squared_length p j c) low a → IsAtLeast low xi
    at_least (Finite lo) end = none_below p j tau crit lj lo xi c end.1.0 pr end.1.1 end.1.2 h
    at_least Infinite end = tt

    at_most : (high : Bound ℚ) → IsShownHigh p j tau crit (squared_length p j c) high b → IsAtMost high xi
    at_most (Finite hi) end = none_above p j tau crit lj hi xi c end.1.0 pr end.1.1 end.1.2 h
    at_most Infinite end = tt

pub all_within : AllAreWithin
all_within p j tau crit c a b low high shown_low shown_high xi e above below o =
    record {
      optimal = o;
      within =
          square_between (rank_statistic p j e) (rank_statistic p j b) (rank_statistic p j a) (rank_bound tau crit (squared_length p j c))
          (at_least high shown_high below) (at_most low shown_low above) (square_high high shown_high) (square_low low shown_low);
    }
  where
    at_least : (high : Bound ℚ) → IsShownHigh p j tau crit (squared_length p j c) high b → IsBelow high xi → rank_statistic p j b ≤ℚ rank_statistic p j e
    at_least (Finite hi) end l = falls p j tau xi hi e b o end.0.optimal l
    at_least Infinite end l = end.3 e o.feasible

    at_most : (low : Bound ℚ) → IsShownLow p j tau crit (squared_length p j c) low a → IsAbove low xi → rank_statistic p j e ≤ℚ rank_statistic p j a
    at_most (Finite lo) end l = falls p j tau lo xi a e end.0.optimal o l
    at_most Infinite end l = end.3 e o.feasible

    square_high : (high : Bound ℚ) → IsShownHigh p j tau crit (squared_length p j c) high b → (rank_statistic p j b *ℚ rank_statistic p j b) ≤ℚ rank_bound tau crit (squared_length p j c)
    square_high (Finite hi) end = end.0.within
    square_high Infinite end = end.1.within

    square_low : (low : Bound ℚ) → IsShownLow p j tau crit (squared_length p j c) low a → (rank_statistic p j a *ℚ rank_statistic p j a) ≤ℚ rank_bound tau crit (squared_length p j c)
    square_low (Finite lo) end = end.0.within
    square_low Infinite end = end.1.within

pub in_order : EndsAreInOrder
in_order p j tau crit start c lo hi lj pr h low high =
    ≤ℚ_trans lo start hi (none_below p j tau crit lj lo start c low.1.0 pr low.1.1 low.1.2 h) (none_above p j tau crit lj hi start c high.1.0 pr high.1.1 high.1.2 h)
