-- A crossing as it is computed at a basis, and what the first one of all is.
use Rattle.std.specs.Prelude.{◌≡◌, ◌≢◌, ℕ, ◌<◌, List, [], ◌∷◌, length, slice_get, slice_index, get_or, Option, Some, None, pos}
use Rattle.std.specs.Option.{option_map_or}
use Rattle.std.proofs.Common.{arith, refl, sym, ap, ap₂, subst, ◌∙◌, inl, inr}
use Rattle.std.proofs.lemmas.Option.{slice_get_read}
use Rattle.rational_laws.specs.Fraction.{Fraction, rational}
use Rattle.rational_laws.specs.Solver.{number, negated, ◌⊟◌, v0}
use Rattle.rational_laws.specs.Rational.{ℚ, ◌-ℚ◌, ◌*ℚ◌, neg_ℚ, inverse, whole, ◌≤ℚ◌}
use Rattle.rational_laws.proofs.RationalLaws.{ring_ℚ, ≤ℚ_refl}
use Rattle.loss_model.specs.declared.problem.Row.{Row}
use Rattle.loss_model.specs.declared.problem.Problem.{Problem}
use Rattle.loss_model.specs.declared.spill.Spill.{Spill}
use Rattle.loss_model.specs.Sample.{Sample}
use Rattle.loss_model.specs.Problem.{sample}
use Rattle.basis_model.specs.declared.part.Part.{Part}
use Rattle.basis_model.specs.declared.part.Part.TheVariants.{Constant, Linear}
use Rattle.basis_model.specs.Basis.{bound_part, basic_dual}
use Rattle.basic_solution.specs.declared.solution.BasicSolution.{BasicSolution}
use Rattle.basic_solution.specs.Bases.{bound_of}
use Rattle.basic_solution.specs.Solutions.{IsSolution}
use Rattle.pivot_model.specs.declared.direction.Direction.{Direction}
use Rattle.pivot_model.specs.declared.direction.Direction.TheVariants.{Upward, Downward}
use Rattle.pivot_model.specs.Duals.{◌<ℚ◌}
use Rattle.walk_model.specs.Families.{over_quantiles, IsOptimalIn}
use Rattle.walk_model.specs.Walks.{side_towards, slope_change, Crosses, IsNextBreak}
use Rattle.walk_model.specs.SlopeLaws.{crossing_of}
use Rattle.walk_model.specs.WalkSpills.{IsMeetingSpill, IsCrossingSpill}
use Rattle.walk_model.proofs.Breaks.{as_computed}
use Rattle.walk_model.proofs.Crossings.{quotient_is, rise_is}
use Rattle.walk_model.proofs.Lines.{le_by}
use Rattle.walk_model.proofs.Slopes.{crossing}
use Rattle.fraction_tableau.specs.declared.crossings.Affine.{Affine}
use Rattle.tableau_model.specs.declared.breakpoint.Breakpoint.{Breakpoint}
use Rattle.fraction_tableau.specs.Meetings.{Gains, gain_on, IsMeeting}
use Rattle.tableau_model.specs.Crossings.{passes_at, IsFirst, IsFirstOf}
use Rattle.tableau_model.proofs.Lists.{value_read}
use Rattle.tableau_model.proofs.Soonest.{IsCrossingTowards}

-- ---- signs of a gain

-- what gains is not 0
pub gains_some : (d : Direction) (g : ℚ) → Gains d g → g ≢ whole (pos 0)
gains_some Upward g h e = h (subst (λ z. z ≤ℚ whole (pos 0)) (sym e) (≤ℚ_refl (whole (pos 0))))
gains_some Downward g h e = h (subst (λ z. whole (pos 0) ≤ℚ z) (sym e) (≤ℚ_refl (whole (pos 0))))

-- what gains takes the slope down, and the other way round
falls_by : (d : Direction) (g : ℚ) → Gains d g → slope_change d g <ℚ whole (pos 0)
falls_by Upward g h k = h (le_by (whole (pos 0)) (neg_ℚ g) g (whole (pos 0)) k (ring_ℚ (g ∷ []) (negated v0 ⊟ number (pos 0)) (number (pos 0) ⊟ v0) refl))
falls_by Downward g h k = h k

gains_by : (d : Direction) (g : ℚ) → slope_change d g <ℚ whole (pos 0) → Gains d g
gains_by Upward g h = λ k. h (le_by g (whole (pos 0)) (whole (pos 0)) (neg_ℚ g) k (ring_ℚ (g ∷ []) (number (pos 0) ⊟ v0) (negated v0 ⊟ number (pos 0)) refl))
gains_by Downward g h = h

-- ---- at one position

-- a part of the bound of a row that was read
pub bound_read : {F : Type 0} (value : F → Fraction) (p : Problem F) (i : ℕ) (r : Row F) (part : Part) (d : Direction) → slice_get p.rows i ≡ Some r
    → bound_of value r part (side_towards d) ≡ bound_part (sample value p) part i (side_towards d)
bound_read {F} value p i r Constant Upward is = sym (ap (λ (o : Option (Row F)). option_map_or (λ r. rational (value r.up0)) o (whole (pos 0))) is)
bound_read {F} value p i r Constant Downward is = ap neg_ℚ (sym (ap (λ (o : Option (Row F)). option_map_or (λ r. rational (value r.down0)) o (whole (pos 0))) is))
bound_read {F} value p i r Linear Upward is = sym (ap (λ (o : Option (Row F)). option_map_or (λ r. rational (value r.up1)) o (whole (pos 0))) is)
bound_read {F} value p i r Linear Downward is = ap neg_ℚ (sym (ap (λ (o : Option (Row F)). option_map_or (λ r. rational (value r.down1)) o (whole (pos 0))) is))

-- the bound and the dual value are those of position j
pub record IsMet {F : Type 0} (value : F → Fraction) (p : Sample) (at : ℕ → ℕ) (a : ℕ → ℕ → ℚ) (j : ℕ) (d : Direction) (bound dual : Affine F) : Type 0 where
  pub bound0 : rational (value bound.constant) ≡ bound_part p Constant (at j) (side_towards d)
  pub bound1 : rational (value bound.linear) ≡ bound_part p Linear (at j) (side_towards d)
  pub dual0 : rational (value dual.constant) ≡ basic_dual p at a Constant j
  pub dual1 : rational (value dual.linear) ≡ basic_dual p at a Linear j

module _ {F : Type 0} (value : F → Fraction) (p : Sample) (at : ℕ → ℕ) (a : ℕ → ℕ → ℚ) (j : ℕ) (d : Direction) (bound dual : Affine F) (h : IsMet value p at a j d bound dual) where
  gain_is : gain_on value bound dual ≡ basic_dual p at a Linear j -ℚ bound_part p Linear (at j) (side_towards d)
  gain_is = ap₂ (λ x y. x -ℚ y) h.dual1 h.bound1

  passes_by : Gains d (gain_on value bound dual) → passes_at p at a j d
  passes_by g = subst (λ z. z <ℚ whole (pos 0)) (ap (slope_change d) gain_is ∙ sym (rise_is p at a (whole (pos 0)) j d)) (falls_by d (gain_on value bound dual) g)

  passed_by : passes_at p at a j d → Gains d (gain_on value bound dual)
  passed_by g = gains_by d (gain_on value bound dual) (subst (λ z. z <ℚ whole (pos 0)) (rise_is p at a (whole (pos 0)) j d ∙ ap (slope_change d) (sym gain_is)) g)

  pub crossing_here : (o : Option (Breakpoint F)) → IsMeeting value j d bound dual o → IsCrossingTowards value (passes_at p at a) (crossing_of p at a) j d o
  crossing_here None k = λ g. k (passed_by g)
  crossing_here (Some b) k =
      (k.0, k.1, passes_by k.2, k.3 ∙ ap₂ (λ x y. x *ℚ inverse y) (ap₂ (λ x y. x -ℚ y) h.bound0 h.dual0) gain_is)

  pub crossing_spill : (range : ℕ) (s : Spill F)
      → IsMeetingSpill value range j d (rational (value bound.constant)) (rational (value bound.linear)) (rational (value dual.constant)) (rational (value dual.linear)) (Gains d (gain_on value bound dual)) s
      → IsCrossingSpill value range p at a j d s
  crossing_spill range s k =
      passing (subst (λ x. IsMeetingSpill value range j d x (bound_part p Linear (at j) (side_towards d)) (basic_dual p at a Constant j) (basic_dual p at a Linear j) (Gains d (gain_on value bound dual)) s) h.bound0
      (subst (λ x. IsMeetingSpill value range j d (rational (value bound.constant)) x (basic_dual p at a Constant j) (basic_dual p at a Linear j) (Gains d (gain_on value bound dual)) s) h.bound1
      (subst (λ x. IsMeetingSpill value range j d (rational (value bound.constant)) (rational (value bound.linear)) x (basic_dual p at a Linear j) (Gains d (gain_on value bound dual)) s) h.dual0
      (subst (λ x. IsMeetingSpill value range j d (rational (value bound.constant)) (rational (value bound.linear)) (rational (value dual.constant)) x (Gains d (gain_on value bound dual)) s) h.dual1 k))))
    where
      passing : IsMeetingSpill value range j d (bound_part p Constant (at j) (side_towards d)) (bound_part p Linear (at j) (side_towards d)) (basic_dual p at a Constant j) (basic_dual p at a Linear j) (Gains d (gain_on value bound dual)) s
          → IsCrossingSpill value range p at a j d s
      passing (inl k) = inl k
      passing (inr (inl k)) = inr (inl k)
      passing (inr (inr k)) = inr (inr (passes_by k.0, k.1))

-- what was read at a position is met there
pub met_here : {F : Type 0} (value : F → Fraction) (p : Problem F) (rows : List ℕ) (a : ℕ → ℕ → ℚ) (sol : BasicSolution F) (j : ℕ) (d : Direction) (r : Row F) (constant linear : F) (bound : Affine F)
    → IsSolution value (sample value p) (slice_index rows) a sol → j < p.columns → slice_index rows j < length p.rows → r ≡ get_or p.rows (slice_index rows j) r
    → constant ≡ get_or sol.constant j constant → linear ≡ get_or sol.linear j linear
    → rational (value bound.constant) ≡ bound_of value r Constant (side_towards d) → rational (value bound.linear) ≡ bound_of value r Linear (side_towards d)
    → IsMet value (sample value p) (slice_index rows) a j d bound (record { constant = constant; linear = linear })
met_here value p rows a sol j d r constant linear bound h lj inside row_is constant_is linear_is bound0 bound1 =
    let there : slice_get p.rows (slice_index rows j) ≡ Some r = slice_get_read p.rows (length p.rows) (slice_index rows j) r refl inside row_is in
    let short : j < length sol.constant = omega (arith, lj, h.constants) in
    let narrow : j < length sol.linear = omega (arith, lj, h.linears) in
    record {
      bound0 = bound0 ∙ bound_read value p (slice_index rows j) r Constant d there;
      bound1 = bound1 ∙ bound_read value p (slice_index rows j) r Linear d there;
      dual0 = sym (value_read value sol.constant j constant short constant_is) ∙ h.constant j lj;
      dual1 = sym (value_read value sol.linear j linear narrow linear_is) ∙ h.linear j lj;
    }

-- ---- of all

module _ {F : Type 0} (value : F → Fraction) (p : Sample) (at : ℕ → ℕ) (a : ℕ → ℕ → ℚ) where
  pub none_crosses : IsFirstOf value (passes_at p at a) (crossing_of p at a) p.columns None → (t : ℚ) (j : ℕ) (d : Direction) → j < p.columns → ¬ Crosses (over_quantiles p) at a t j d
  none_crosses none t j d lj cross = none j d lj ((crossing (over_quantiles p) at a j d t).0 cross).0

  pub first_is_next : (from : ℚ) → IsOptimalIn (over_quantiles p) at a from → (b : Breakpoint F) → IsFirst value (passes_at p at a) (crossing_of p at a) p.columns b
      → IsNextBreak (over_quantiles p) at a from (rational (value b.theta)) b.position b.direction
  first_is_next from stop b h =
      as_computed (over_quantiles p) at a from stop (rational (value b.theta)) b.position b.direction h.within h.passes
      (h.theta ∙ sym (quotient_is p at a (whole (pos 0)) b.position b.direction))
      (λ k e lk falls. subst (λ z. rational (value b.theta) ≤ℚ z) (sym (quotient_is p at a (whole (pos 0)) k e)) (h.least k e lk falls))
      (λ k e lk falls same. h.first k e lk falls (subst (λ z. z ≤ℚ rational (value b.theta)) (same ∙ quotient_is p at a (whole (pos 0)) k e) (≤ℚ_refl (rational (value b.theta)))))
