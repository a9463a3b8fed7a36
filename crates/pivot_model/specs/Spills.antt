-- Stated. The operations before or in a solving step, where one overflows.
use Rattle.std.specs.Prelude.{◌≡◌, ◌≢◌, ◌⊎◌, ℕ, zero, suc, ◌+◌, ◌<◌, Bool, true, ◌&&◌, if◌then◌else◌}
use Rattle.rational_laws.specs.Fraction.{Fraction}
use Rattle.rational_laws.specs.Rational.{ℚ, ◌+ℚ◌}
use Rattle.loss_model.specs.declared.vertex.Side.TheVariants.{Up, Down}
use Rattle.loss_model.specs.declared.spill.Quantity.TheVariants.{Slope}
use Rattle.loss_model.specs.declared.spill.Spill.{Spill}
use Rattle.loss_model.specs.Sample.{Sample, up_cost, down_cost}
use Rattle.loss_model.specs.Spill.{IsTermSpill, site_of, IsUpCostSpill, IsDownCostSpill, abs_ℚ}
use Rattle.loss_model.specs.Quantities.{IsEntrySpill}
use Rattle.basis_model.specs.RatioSpill.{IsRatioEntrySpill, IsRatioSpill}
use Rattle.basis_model.specs.declared.part.Part.TheVariants.{Constant, Linear}
use Rattle.basis_model.specs.Basis.{coord, outside_row, basic_dual, dual_value}
use Rattle.basis_model.specs.BasisSpills.{IsDualValueSpill, IsSlopeSpill, IsCostSumSpill, IsBasisSpill}
use Rattle.pivot_model.specs.declared.direction.Direction.{Direction}
use Rattle.pivot_model.specs.declared.direction.Direction.TheVariants.{Upward, Downward}
use Rattle.pivot_model.specs.Steps.{moves, is_before, slope_before, IsLeaving, IsSolvingStep}

-- how many of the first n numbers pass a test
abbrev pub count : ℕ → (ℕ → Bool) → ℕ
count zero test = 0
count (suc n) test = if test n then suc (count n test) else count n test

-- the number of a direction in the site of a slope
abbrev pub direction_number : Direction → ℕ
direction_number Upward = 0
direction_number Downward = 1

module _ {F : Type 0} (value : F → Fraction) (range : ℕ) (p : Sample) (at : ℕ → ℕ) (a : ℕ → ℕ → ℚ) (theta : ℚ) where
  -- at the cost of row i
  abbrev pub IsCostSpill : ℕ → Spill F → Type 0
  IsCostSpill i s = IsUpCostSpill value range p theta i s ⊎ IsDownCostSpill value range p theta i s

  -- at the first operation of the slope at position j in a direction
  abbrev pub IsFirstSlopeSpill : ℕ → Direction → Spill F → Type 0
  IsFirstSlopeSpill j Upward s =
      IsSlopeSpill value range j Up (up_cost p theta (at j)) (dual_value p at a theta j) s
  IsFirstSlopeSpill j Downward s =
      IsSlopeSpill value range j Down (down_cost p theta (at j)) (dual_value p at a theta j) s

  -- where row r is passed: at the product of its absolute coordinate and its costs, or its addition
  -- to the slope before; the terms are the rows passed before, after the first one
  abbrev pub IsPassingSpill : ℕ → Direction → ℕ → Spill F → Type 0
  IsPassingSpill j d r s =
      IsTermSpill value range
      (site_of Slope j (direction_number d) (count p.rows (λ i. moves p at a j d i && is_before p at a j i r) + 1))
      (slope_before p at a theta j d r) (abs_ℚ (coord p a r j)) (up_cost p theta r +ℚ down_cost p theta r) s

  -- where position j leaves in direction d: at the sum of the costs of a row that moves, at where it
  -- is passed, at the first entry of its ratio, or where its ratio is compared with that of another row
  pub data IsSearchSpill (j : ℕ) (d : Direction) (s : Spill F) : Type 0 where
    of_cost_sum : (r : ℕ) → r < p.rows → moves p at a j d r ≡ true → IsCostSumSpill value range r (up_cost p theta r) (down_cost p theta r) s
        → IsSearchSpill j d s
    of_passing : (r : ℕ) → r < p.rows → moves p at a j d r ≡ true → IsPassingSpill j d r s → IsSearchSpill j d s
    of_ratio : (r : ℕ) → r < p.rows → moves p at a j d r ≡ true → IsRatioEntrySpill value range p.columns at j (outside_row p at a r) 0 s → IsSearchSpill j d s
    of_tie : (r i : ℕ) → r ≢ i → r < p.rows → i < p.rows → moves p at a j d r ≡ true → moves p at a j d i ≡ true
        → IsRatioSpill value range p.rows p.columns at j (outside_row p at a r) (outside_row p at a i) s → IsSearchSpill j d s

  -- at a quantity of the basis, at a dual value at theta, at a cost, at a slope, in the line search
  -- of the position that leaves, or at an entry of the exchange of the solving step
  pub data IsStepSpill (s : Spill F) : Type 0 where
    of_basis : IsBasisSpill value range p at a s → IsStepSpill s
    of_dual : (j : ℕ) → j < p.columns → IsDualValueSpill value range (basic_dual p at a Constant j) (basic_dual p at a Linear j) theta j s → IsStepSpill s
    of_cost : (i : ℕ) → i < p.rows → IsCostSpill i s → IsStepSpill s
    of_slope : (j : ℕ) (d : Direction) → j < p.columns → IsFirstSlopeSpill j d s → IsStepSpill s
    of_search : (j : ℕ) (d : Direction) → IsLeaving p at a theta j d → IsSearchSpill j d s → IsStepSpill s
    of_exchange : (j r : ℕ) → IsSolvingStep p at a theta j r → IsEntrySpill value range p.columns a (p.x r) j s → IsStepSpill s
