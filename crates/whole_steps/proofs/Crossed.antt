-- A crossing by its two numerators, and the first one of all.
use Rattle.std.specs.Prelude.{◌≡◌, ℕ, ℤ, ◌<◌, ◌≤ℤ◌, ◌<ℤ◌, neg_ℤ, unsigned_abs, Option, Some, None, pos}
use Rattle.std.proofs.Common.{arith, sym, ap, ap₂, subst, ◌∙◌}
use Rattle.std.proofs.lemmas.Int.{ints}
use Rattle.rational_laws.specs.Fraction.{rational}
use Rattle.rational_laws.specs.Rational.{ℚ, ◌*ℚ◌, neg_ℚ, inverse, whole, ◌≤ℚ◌}
use Rattle.rational_laws.proofs.RationalLaws.{≤ℚ_refl}
use Rattle.rational_laws.proofs.Signs.{not_below}
use Rattle.basis_model.specs.declared.part.Part.TheVariants.{Constant, Linear}
use Rattle.pivot_model.specs.declared.direction.Direction.{Direction}
use Rattle.walk_model.specs.Families.{over_quantiles, IsOptimalIn}
use Rattle.walk_model.specs.Walks.{Crosses, IsNextBreak}
use Rattle.walk_model.proofs.Breaks.{as_computed}
use Rattle.walk_model.proofs.Slopes.{crossing}
use Rattle.walk_model.proofs.Trails.{below_from}
use Rattle.tableau_model.specs.declared.breakpoint.Breakpoint.{Breakpoint}
use Rattle.tableau_model.specs.Crossings.{IsFirst, IsFirstOf}
use Rattle.tableau_model.proofs.Soonest.{IsCrossingTowards as IsTowards}
use Rattle.whole_inverse.specs.Shares.{share}
use Rattle.whole_solution.proofs.Numbers.{share-neg}
use Rattle.whole_inverse.proofs.Turned.{share-quotient}
use Rattle.whole_steps.proofs.Signs.{below_true, below_false}
use Rattle.whole_steps.specs.declared.station.Station.{Station}
use Rattle.whole_steps.specs.declared.crossings.Quotient.{Quotient}
use Rattle.whole_steps.specs.Stations.{model, at_of, inverse_at, over_of, slope_at}
use Rattle.whole_steps.specs.Crossings.{quotient_value, falls_at, quotient_at, IsCrossingTowards}
use Rattle.whole_steps.proofs.Movers.{nonzero}

module _ (s : Station) (j : ℕ) (d : Direction) (positive : pos 1 ≤ℤ over_of s) (fall : ℤ) (linear : share fall (over_of s) ≡ slope_at s Linear j d) where
  pub stays : pos 0 ≤ℤ fall → ¬ falls_at s j d
  stays up falls = falls (subst (λ z. whole (pos 0) ≤ℚ z) linear (not_below (share fall (over_of s)) (whole (pos 0)) (sym (below_false fall (over_of s) positive up))))

  pub falls_by : fall <ℤ pos 0 → falls_at s j d
  falls_by below up = below_from (share fall (over_of s)) (whole (pos 0)) (sym (below_true fall (over_of s) positive below)) (subst (λ z. whole (pos 0) ≤ℚ z) (sym linear) up)

  pub quotient_by : (level : ℤ) → share level (over_of s) ≡ slope_at s Constant j d → pos 0 ≤ℤ level → fall <ℤ pos 0 → share (pos (unsigned_abs level)) (pos (unsigned_abs fall)) ≡ quotient_at s j d
  quotient_by level constant up below =
      share-quotient (pos (unsigned_abs level)) (pos (unsigned_abs fall)) (over_of s) (nonzero (over_of s) positive)
      ∙ ap₂ (λ x y. x *ℚ inverse y)
      (ap (λ n. share n (over_of s)) over ∙ constant)
      (ap (λ n. share n (over_of s)) under ∙ share-neg fall (over_of s) ∙ ap neg_ℚ linear)
    where
      over : pos (unsigned_abs level) ≡ level
      over = omega (arith, ints)

      under : pos (unsigned_abs fall) ≡ neg_ℤ fall
      under = omega (arith, ints)

-- the same as the laws of first crossings have it
pub towards : (s : Station) (j : ℕ) (d : Direction) (o : Option (Breakpoint Quotient)) → IsCrossingTowards s j d o → IsTowards quotient_value (falls_at s) (quotient_at s) j d o
towards s j d None h = h
towards s j d (Some b) h = h

module _ (s : Station) where
  pub none_crosses : IsFirstOf quotient_value (falls_at s) (quotient_at s) (model s).columns None → (t : ℚ) (j : ℕ) (d : Direction) → j < (model s).columns → ¬ Crosses (over_quantiles (model s)) (at_of s) (inverse_at s) t j d
  none_crosses none t j d lj cross = none j d lj ((crossing (over_quantiles (model s)) (at_of s) (inverse_at s) j d t).0 cross).0

  pub first_is_next : (from : ℚ) → IsOptimalIn (over_quantiles (model s)) (at_of s) (inverse_at s) from → (b : Breakpoint Quotient) → IsFirst quotient_value (falls_at s) (quotient_at s) (model s).columns b
      → IsNextBreak (over_quantiles (model s)) (at_of s) (inverse_at s) from (rational (quotient_value b.theta)) b.position b.direction
  first_is_next from stop b h =
      as_computed (over_quantiles (model s)) (at_of s) (inverse_at s) from stop (rational (quotient_value b.theta)) b.position b.direction h.within h.passes h.theta
      (λ k e lk falls. h.least k e lk falls)
      (λ k e lk falls same. h.first k e lk falls (subst (λ z. z ≤ℚ rational (quotient_value b.theta)) same (≤ℚ_refl (rational (quotient_value b.theta)))))
