-- Inner. What the loops ask for at a basis: its step, and the operations by which that is found.
use Rattle.std.specs.Prelude.{ℕ}
use Rattle.rational_laws.specs.Fraction.{Fraction}
use Rattle.rational_laws.specs.Rational.{ℚ}
use Rattle.loss_model.specs.declared.spill.Spill.{Spill}
use Rattle.walk_model.specs.Steps.{IsSolvingStep}
use Rattle.walk_model.specs.Spills.{IsStepSpill}
use Rattle.walk_model.specs.Families.{over_quantiles}
use Rattle.walk_model.specs.Walks.{IsWalkingStep}
use Rattle.walk_model.specs.WalkTrails.{is_below}
use Rattle.walk_model.specs.WalkSpills.{IsStaySpill}
use Rattle.tableau_model.specs.Places.{Place, at_of, sample_of}

-- the step of a solve at theta, or that of a walk over quantiles from `from` on and below hi
pub data Question : Type 0 where
  solving : (theta : ℚ) → Question
  walking : (from hi : ℚ) → Question

module _ {F : Type 0} (value : F → Fraction) where
  -- the step that is asked for is that by which row r takes position j
  abbrev pub IsStepOf : Place F → Question → ℕ → ℕ → Type 0
  IsStepOf h (solving theta) j r = IsSolvingStep (sample_of value h) (at_of h) h.inverse theta j r
  IsStepOf h (walking from hi) j r =
      (t : ℚ) × IsWalkingStep (over_quantiles (sample_of value h)) (at_of h) h.inverse (is_below hi) from t j r

  -- an operation for the question overflows
  abbrev pub IsSpillAt : ℕ → Place F → Question → Spill F → Type 0
  IsSpillAt range h (solving theta) s = IsStepSpill value range (sample_of value h) (at_of h) h.inverse theta s
  IsSpillAt range h (walking from hi) s = IsStaySpill value range (sample_of value h) (at_of h) h.inverse from hi s
