-- Inner. Crossings as quotients of whole numbers.
use Rattle.std.specs.Prelude.{◌≡◌, ℕ, ◌≤◌, Option, Some, None, pos}
use Rattle.rational_laws.specs.Fraction.{Fraction, rational}
use Rattle.rational_laws.specs.Rational.{ℚ, whole}
use Rattle.basis_model.specs.declared.part.Part.TheVariants.{Linear}
use Rattle.pivot_model.specs.declared.direction.Direction.{Direction}
use Rattle.pivot_model.specs.Duals.{◌<ℚ◌}
use Rattle.walk_model.specs.Families.{over_quantiles}
use Rattle.walk_model.specs.SlopeLaws.{quotient_of}
use Rattle.tableau_model.specs.declared.breakpoint.Breakpoint.{Breakpoint}
use Rattle.whole_steps.specs.declared.station.Station.{Station}
use Rattle.whole_steps.specs.declared.crossings.Quotient.{Quotient}
use Rattle.whole_steps.specs.Stations.{model, at_of, inverse_at, slope_at}

abbrev pub quotient_value : Quotient → Fraction
quotient_value q = record { num = pos q.over; den = q.under }

-- the divisor is not 0
abbrev pub HasDivisor : Option (Breakpoint Quotient) → Type 0
HasDivisor None = Unit {0}
HasDivisor (Some b) = 1 ≤ b.theta.under

-- the slope at position j in a direction falls
abbrev pub falls_at : Station → ℕ → Direction → Type 0
falls_at s j d = slope_at s Linear j d <ℚ whole (pos 0)

-- the quotient of its parts, at which it is 0
abbrev pub quotient_at : Station → ℕ → Direction → ℚ
quotient_at s j d = quotient_of (over_quantiles (model s)) (at_of s) (inverse_at s) j d

-- the crossing of position j in a direction, or none
abbrev pub IsCrossingTowards : Station → ℕ → Direction → Option (Breakpoint Quotient) → Type 0
IsCrossingTowards s j d None = ¬ falls_at s j d
IsCrossingTowards s j d (Some b) =
    (b.position ≡ j) × (b.direction ≡ d) × falls_at s j d × (rational (quotient_value b.theta) ≡ quotient_at s j d)
