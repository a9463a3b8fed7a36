-- Inner. The basis at which a solve in whole numbers ends.
use Rattle.std.specs.Prelude.{◌≡◌, ℕ, ◌≤◌, length, slice_index}
use Rattle.rational_laws.specs.Fraction.{Fraction}
use Rattle.rational_laws.specs.Rational.{ℚ}
use Rattle.loss_model.specs.declared.problem.Problem.{Problem}
use Rattle.loss_model.specs.Problem.{sample}
use Rattle.pivot_model.specs.Steps.{HasNoNegativeSlope}
use Rattle.pivot_model.specs.Trails.{IsSolvingTrail}
use Rattle.whole_tableau.specs.Kept.{IsKept, place}
use Rattle.br_pivot.specs.declared.reached.Reached.{Reached}

-- the lawful trail leads, within the limit, to a basis of the problem at which no slope is negative
pub record IsReached {F : Type 0} (value : F → Fraction) (p : Problem F) (theta : ℚ) (limit : ℕ) (r : Reached F) : Type 0 where
  pub kept : IsKept value r.tableau
  pub problem : r.tableau.problem ≡ p
  pub lawful : IsSolvingTrail (sample value p) theta r.trail r.tableau.rows
  pub stop : HasNoNegativeSlope (sample value p) (slice_index r.tableau.rows) (place value r.tableau).inverse theta
  pub short : length r.trail.steps ≤ limit
