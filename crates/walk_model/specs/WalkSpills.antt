-- Stated. The operations of a walk where one overflows, over quantiles and of a tested value: their operands
-- at the basis and the value at which the walk stands.
use Rattle.std.specs.Prelude.{◌≡◌, ◌≢◌, ◌⊎◌, ℕ, ◌<◌, Bool, true, pos}
use Rattle.rational_laws.specs.Fraction.{Fraction}
use Rattle.rational_laws.specs.Rational.{ℚ, ◌-ℚ◌, whole}
use Rattle.frac_core.specs.declared.exact.OpKind.{OpKind}
use Rattle.frac_core.specs.declared.exact.OpKind.TheVariants.{Sub, Div}
use Rattle.loss_model.specs.declared.spill.Quantity.TheVariants.{DualValue, Crossing, Loss}
use Rattle.loss_model.specs.declared.spill.Spill.{Spill}
use Rattle.loss_model.specs.Sample.{Sample}
use Rattle.loss_model.specs.Spill.{IsOperation, IsTermSpill, IsSpillOf, IsSideCostSpill, site_of, loss_products}
use Rattle.loss_model.specs.Quantities.{IsEntrySpill}
use Rattle.loss_model.specs.Vertex.{value_of_side}
use Rattle.pivot_model.specs.RatioSpill.{IsRatioEntrySpill, IsRatioSpill}
use Rattle.pivot_model.specs.Part.TheVariants.{Constant, Linear}
use Rattle.pivot_model.specs.Basis.{bound_part, outside_row, coefficient, basic_dual, dual_value}
use Rattle.pivot_model.specs.BasisSpills.{IsDualValueSpill, IsBasisSpill}
use Rattle.pivot_model.specs.declared.direction.Direction.{Direction}
use Rattle.pivot_model.specs.Duals.{◌<ℚ◌}
use Rattle.pivot_model.specs.Spills.{direction_number, IsCostSpill}
use Rattle.pivot_model.specs.Steps.{moves}
use Rattle.walk_model.specs.Families.{Family, over_quantiles, slope_part}
use Rattle.walk_model.specs.Walks.{side_towards, HasNoBreak, IsNextBreak, IsWalkingStep}
use Rattle.walk_model.specs.WalkTrails.{is_below, is_within}

-- an operation of the crossing of position j in direction d
abbrev pub IsCrossingOperation : {F : Type 0} → (F → Fraction) → ℕ → ℕ → Direction → ℕ → OpKind → ℚ → ℚ → Spill F → Type 0
IsCrossingOperation value range j d term kind left right s =
    IsOperation value range (record (site_of Crossing j (direction_number d) term) { kind = kind }) left right s

-- a bound and a dual value in two parts each: at what is missing to the bound, at the gain on it, or at
-- their quotient, which is made for a bound alone that the dual value passes beyond
abbrev pub IsMeetingSpill : {F : Type 0} → (F → Fraction) → ℕ → ℕ → Direction → ℚ → ℚ → ℚ → ℚ → Type 0 → Spill F → Type 0
IsMeetingSpill value range j d bound0 bound1 dual0 dual1 Passes s =
    IsCrossingOperation value range j d 1 Sub bound0 dual0 s
    ⊎ (IsCrossingOperation value range j d 2 Sub dual1 bound1 s
    ⊎ (Passes × IsCrossingOperation value range j d 3 Div (bound0 -ℚ dual0) (dual1 -ℚ bound1) s))

module _ {F : Type 0} (value : F → Fraction) (range : ℕ) (f : Family) (at : ℕ → ℕ) (a : ℕ → ℕ → ℚ) (reach : ℚ → Bool) (from : ℚ) where
  -- at the next breakpoint: at the first entry of the ratio of a row that moves, where two different ones are
  -- compared, or at an entry of the exchange of the step
  pub data IsPivotSpill (s : Spill F) : Type 0 where
    of_ratio : (t : ℚ) (j : ℕ) (d : Direction) (r : ℕ) → IsNextBreak f at a from t j d → reach t ≡ true → r < f.sample.rows → moves f.sample at a j d r ≡ true
        → IsRatioEntrySpill value range f.sample.columns at j (outside_row f.sample at a r) 0 s → IsPivotSpill s
    of_tie : (t : ℚ) (j : ℕ) (d : Direction) (r i : ℕ) → r ≢ i → IsNextBreak f at a from t j d → reach t ≡ true → r < f.sample.rows → i < f.sample.rows
        → moves f.sample at a j d r ≡ true → moves f.sample at a j d i ≡ true
        → IsRatioSpill value range f.sample.rows f.sample.columns at j (outside_row f.sample at a r) (outside_row f.sample at a i) s → IsPivotSpill s
    of_exchange : (t : ℚ) (j r : ℕ) → IsWalkingStep f at a reach from t j r → IsEntrySpill value range f.sample.columns a (f.sample.x r) j s → IsPivotSpill s

-- ---- over quantiles

module _ (p : Sample) (at : ℕ → ℕ) (a : ℕ → ℕ → ℚ) (from hi : ℚ) where
  -- where a stay at the basis ends: at the next breakpoint before hi, or at hi where there is none
  abbrev pub IsStayEnd : ℚ → Type 0
  IsStayEnd theta =
      ((j : ℕ) × (d : Direction) × IsNextBreak (over_quantiles p) at a from theta j d × (theta <ℚ hi))
      ⊎ ((theta ≡ hi) × HasNoBreak (over_quantiles p) at a from hi)

  -- and a segment with it: its ends differ, or the range is of one value
  pub record IsSegmentEnd (theta : ℚ) : Type 0 where
    pub stay : IsStayEnd theta
    pub reported : (from <ℚ theta) ⊎ (from ≡ hi)

module _ {F : Type 0} (value : F → Fraction) (range : ℕ) (p : Sample) (at : ℕ → ℕ) (a : ℕ → ℕ → ℚ) where
  -- at the crossing of position j in direction d
  abbrev pub IsCrossingSpill : ℕ → Direction → Spill F → Type 0
  IsCrossingSpill j d s =
      IsMeetingSpill value range j d (bound_part p Constant (at j) (side_towards d)) (bound_part p Linear (at j) (side_towards d))
      (basic_dual p at a Constant j) (basic_dual p at a Linear j) (slope_part (over_quantiles p) at a Linear j d <ℚ whole (pos 0)) s

  -- at an end of a segment, which is at theta: at a dual value of the basis, at the cost of the side on which
  -- a row lies, or at the loss of this end
  pub data IsEndSpill (end : ℕ) (theta : ℚ) (s : Spill F) : Type 0 where
    of_dual : (j : ℕ) → j < p.columns → IsDualValueSpill value range (basic_dual p at a Constant j) (basic_dual p at a Linear j) theta j s
        → IsEndSpill end theta s
    of_cost : (i : ℕ) → i < p.rows → IsSideCostSpill value range p theta (coefficient p at a) i s → IsEndSpill end theta s
    of_loss : IsSpillOf value range (site_of Loss end 0 0) (loss_products p theta (coefficient p at a)) s → IsEndSpill end theta s

  -- from `from` on, at a quantity of the basis, at a crossing before hi, at an end of the segment, or at the
  -- pivot that ends the stay
  pub data IsStaySpill (from hi : ℚ) (s : Spill F) : Type 0 where
    of_basis : IsBasisSpill value range p at a s → IsStaySpill from hi s
    of_crossing : (j : ℕ) (d : Direction) → from <ℚ hi → j < p.columns → IsCrossingSpill j d s → IsStaySpill from hi s
    of_lo : (theta : ℚ) → IsSegmentEnd p at a from hi theta → IsEndSpill 0 from s → IsStaySpill from hi s
    of_hi : (theta : ℚ) → IsSegmentEnd p at a from hi theta → IsEndSpill 1 theta s → IsStaySpill from hi s
    of_pivot : IsPivotSpill value range (over_quantiles p) at a (is_below hi) from s → IsStaySpill from hi s

-- ---- of a tested value: f is the family in which it rises or falls, and `wanted` what column c is to weigh

module _ {F : Type 0} (value : F → Fraction) (range : ℕ) (f : Family) (wanted : ℚ → ℚ) (tau : ℚ) (c : ℕ) (at : ℕ → ℕ) (a : ℕ → ℕ → ℚ) (bound from : ℚ) where
  -- at the crossing of position j in direction d, with the values at tau and the inverse's entry
  abbrev pub IsTestedCrossingSpill : ℕ → Direction → Spill F → Type 0
  IsTestedCrossingSpill j d s =
      IsMeetingSpill value range j d (value_of_side f.sample tau (λ i. whole (pos 0)) (at j) (side_towards d)) (whole (pos 0))
      (dual_value f.sample at a tau j) (a c j) (slope_part f at a Linear j d <ℚ whole (pos 0)) s

  -- at the dual value at position j, where column c is to weigh so much
  abbrev pub IsTestedValueSpill : ℚ → ℕ → Spill F → Type 0
  IsTestedValueSpill weight j s =
      IsTermSpill value range (site_of DualValue j 1 1) (dual_value f.sample at a tau j) (a c j) weight s

  -- at a quantity of the basis, at a dual value or a cost at tau, at a crossing, at a dual value where the
  -- basis was entered or at the next breakpoint, or at the pivot there
  pub data IsTestedSpill (s : Spill F) : Type 0 where
    of_basis : IsBasisSpill value range f.sample at a s → IsTestedSpill s
    of_dual : (j : ℕ) → j < f.sample.columns → IsDualValueSpill value range (basic_dual f.sample at a Constant j) (basic_dual f.sample at a Linear j) tau j s
        → IsTestedSpill s
    of_cost : (i : ℕ) → i < f.sample.rows → IsCostSpill value range f.sample at a tau i s → IsTestedSpill s
    of_crossing : (j : ℕ) (d : Direction) → j < f.sample.columns → IsTestedCrossingSpill j d s → IsTestedSpill s
    of_entered : (j : ℕ) → j < f.sample.columns → IsTestedValueSpill (wanted from) j s → IsTestedSpill s
    of_break : (t : ℚ) (k j : ℕ) (d : Direction) → IsNextBreak f at a from t k d → j < f.sample.columns → IsTestedValueSpill (wanted t) j s → IsTestedSpill s
    of_pivot : IsPivotSpill value range f at a (is_within bound) from s → IsTestedSpill s
