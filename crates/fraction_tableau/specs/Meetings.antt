-- Inner. Where the dual values of a basis meet their bounds, as that is computed.
use Rattle.std.specs.Prelude.{◌≡◌, ℕ, ◌<◌, Option, Some, None, pos}
use Rattle.rational_laws.specs.Fraction.{Fraction, rational}
use Rattle.rational_laws.specs.Rational.{ℚ, ◌-ℚ◌, ◌*ℚ◌, inverse, whole}
use Rattle.pivot_model.specs.declared.direction.Direction.{Direction}
use Rattle.pivot_model.specs.declared.direction.Direction.TheVariants.{Upward, Downward}
use Rattle.pivot_model.specs.Duals.{◌<ℚ◌}
use Rattle.fraction_tableau.specs.declared.crossings.Affine.{Affine}
use Rattle.tableau_model.specs.declared.breakpoint.Breakpoint.{Breakpoint}

-- a dual value that gains so much on its bound in a direction passes beyond it
abbrev pub Gains : Direction → ℚ → Type 0
Gains Upward gain = whole (pos 0) <ℚ gain
Gains Downward gain = gain <ℚ whole (pos 0)

module _ {F : Type 0} (value : F → Fraction) where
  -- how much a dual value gains on its bound
  abbrev pub gain_on : Affine F → Affine F → ℚ
  gain_on bound dual = rational (value dual.linear) -ℚ rational (value bound.linear)

  -- where it meets the bound, if it passes beyond it
  abbrev pub IsMeeting : ℕ → Direction → Affine F → Affine F → Option (Breakpoint F) → Type 0
  IsMeeting j d bound dual None = ¬ Gains d (gain_on bound dual)
  IsMeeting j d bound dual (Some b) =
      (b.position ≡ j) × (b.direction ≡ d) × Gains d (gain_on bound dual)
      × (rational (value b.theta) ≡ (rational (value bound.constant) -ℚ rational (value dual.constant)) *ℚ inverse (gain_on bound dual))
