-- Stated. The strict order of fractions.
use Rattle.rational_laws.specs.Rational.{ℚ, ◌≤ℚ◌}

-- x is less than y
infix 50 ◌<ℚ◌
abbrev pub ◌<ℚ◌ : ℚ → ℚ → Type 0
x <ℚ y = ¬ (y ≤ℚ x)
