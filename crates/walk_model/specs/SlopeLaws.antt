-- Law. Slopes over a parameter: each is affine in it, and crosses 0 where it falls, at the quotient of its
-- parts.
use Rattle.std.specs.Prelude.{◌≡◌, ◌↔◌, ℕ, ◌<◌, pos}
use Rattle.rational_laws.specs.Rational.{ℚ, ◌+ℚ◌, ◌-ℚ◌, ◌*ℚ◌, neg_ℚ, inverse, whole, ◌≤ℚ◌}
use Rattle.loss_model.specs.Sample.{Sample}
use Rattle.loss_model.specs.Vertex.{value_of_side}
use Rattle.pivot_model.specs.Part.TheVariants.{Constant, Linear}
use Rattle.pivot_model.specs.Basis.{bound_part, basic_dual, dual_value}
use Rattle.pivot_model.specs.declared.direction.Direction.{Direction}
use Rattle.pivot_model.specs.Duals.{HasCosts, dual, ◌<ℚ◌}
use Rattle.pivot_model.specs.Steps.{slope}
use Rattle.walk_model.specs.Families.{Family, over_quantiles, rising_value, falling_value, dual_in, slope_in, slope_part}
use Rattle.walk_model.specs.Walks.{side_towards, slope_change, Crosses}

-- slopes are affine in the parameter
abbrev pub SlopeIsAffine : Type 0
SlopeIsAffine =
    (f : Family) (at : ℕ → ℕ) (a : ℕ → ℕ → ℚ) (t : ℚ) (j : ℕ) (d : Direction)
    → slope_in f at a t j d ≡ slope_part f at a Constant j d +ℚ (slope_part f at a Linear j d *ℚ t)

-- the quotient of the parts of a slope
abbrev pub quotient_of : Family → (ℕ → ℕ) → (ℕ → ℕ → ℚ) → ℕ → Direction → ℚ
quotient_of f at a j d = slope_part f at a Constant j d *ℚ inverse (neg_ℚ (slope_part f at a Linear j d))

-- so a dual value crosses its bound exactly where the slope falls and the quotient is
abbrev pub CrossingIsQuotient : Type 0
CrossingIsQuotient =
    (f : Family) (at : ℕ → ℕ) (a : ℕ → ℕ → ℚ) (t : ℚ) (j : ℕ) (d : Direction)
    → Crosses f at a t j d ↔ ((slope_part f at a Linear j d <ℚ whole (pos 0)) × (t ≡ quotient_of f at a j d))

-- over quantiles: what the dual value misses to its bound, over how fast it gains on it
abbrev pub crossing_of : Sample → (ℕ → ℕ) → (ℕ → ℕ → ℚ) → ℕ → Direction → ℚ
crossing_of p at a j d =
    (bound_part p Constant (at j) (side_towards d) -ℚ basic_dual p at a Constant j)
    *ℚ inverse (basic_dual p at a Linear j -ℚ bound_part p Linear (at j) (side_towards d))

-- for a tested value: what the dual value at tau misses to its bound, over the inverse's entry
abbrev pub tested_crossing : Sample → (ℕ → ℕ) → (ℕ → ℕ → ℚ) → ℚ → ℕ → ℕ → Direction → ℚ
tested_crossing p at a tau c j d =
    (value_of_side p tau (λ i. whole (pos 0)) (at j) (side_towards d) -ℚ dual_value p at a tau j)
    *ℚ inverse (a c j -ℚ whole (pos 0))

-- a crossing is at these quotients, the negated one while the tested value rises
abbrev pub CrossingAsComputed : Type 0
CrossingAsComputed =
    (p : Sample) (at : ℕ → ℕ) (a : ℕ → ℕ → ℚ) (t : ℚ) (j : ℕ) (d : Direction)
    → (Crosses (over_quantiles p) at a t j d → t ≡ crossing_of p at a j d)
    × ((tau : ℚ) (c : ℕ) → c < p.columns → Crosses (rising_value p tau c) at a t j d → neg_ℚ t ≡ tested_crossing p at a tau c j d)
    × ((tau : ℚ) (c : ℕ) → c < p.columns → Crosses (falling_value p tau c) at a t j d → t ≡ tested_crossing p at a tau c j d)

-- over quantiles a slope falls by what its dual value gains on the bound, and its quotient is that one
abbrev pub SlopeAsComputed : Type 0
SlopeAsComputed =
    (p : Sample) (at : ℕ → ℕ) (a : ℕ → ℕ → ℚ) (j : ℕ) (d : Direction)
    → (slope_part (over_quantiles p) at a Linear j d
    ≡ slope_change d (basic_dual p at a Linear j -ℚ bound_part p Linear (at j) (side_towards d)))
    × (quotient_of (over_quantiles p) at a j d ≡ crossing_of p at a j d)

-- over quantiles, slopes and dual values are those of the pivot at one quantile
abbrev pub QuantilesAsSolved : Type 0
QuantilesAsSolved =
    (p : Sample) (at : ℕ → ℕ) (a : ℕ → ℕ → ℚ) (t : ℚ)
    → ((j : ℕ) (d : Direction) → slope_in (over_quantiles p) at a t j d ≡ slope p at a t j d)
    × ((i : ℕ) → dual_in (over_quantiles p) at a t i ≡ dual p at a t i)

-- where costs are not negative at two quantiles, they are not between
abbrev pub CostsBetween : Type 0
CostsBetween =
    (p : Sample) (lo hi t : ℚ) → HasCosts p lo → HasCosts p hi → lo ≤ℚ t → t ≤ℚ hi → HasCosts p t
