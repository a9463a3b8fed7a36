-- Inner. What a solve at one quantile gives.
use Rattle.std.specs.Prelude.{slice_index}
use Rattle.rational_laws.specs.Fraction.{Fraction}
use Rattle.rational_laws.specs.Rational.{ℚ}
use Rattle.loss_model.specs.declared.problem.Problem.{Problem}
use Rattle.loss_model.specs.Sample.{Minimises}
use Rattle.loss_model.specs.Dual.{IsDual}
use Rattle.loss_model.specs.Problem.{number_at, sample}
use Rattle.loss_model.specs.Vertex.{dual_value}
use Rattle.basis_inverse.specs.Square.{inverse_entry}
use Rattle.pivot_model.specs.Steps.{HasNoNegativeSlope}
use Rattle.pivot_model.specs.Trails.{IsSolvingTrail}
use Rattle.pivot_model.specs.Results.{IsVertexAt, AreBasicDuals}
use Rattle.fraction_tableau.specs.Inverses.{IsInverseOf}
use Rattle.br_pivot.specs.declared.solve.Solved.{Solved}

-- an optimal solution at theta: the coefficients minimise, the dual values of all rows, by the sides
-- and the basic values, are feasible and of equal cost; and they are those of the basis to which the
-- lawful trail leads, at which no step is left
pub record IsSolution {F : Type 0} (value : F → Fraction) (p : Problem F) (theta : ℚ) (s : Solved F) : Type 0 where
  pub minimises : Minimises (sample value p) theta (number_at s.vertex.coef)
  pub dual : IsDual (sample value p) theta (number_at s.vertex.coef) (dual_value value p s.vertex s.basic theta)
  pub lawful : IsSolvingTrail (sample value p) theta s.trail s.basis.rows
  pub inverse : IsInverseOf value p s.basis.rows s.inverse
  pub stop : HasNoNegativeSlope (sample value p) (slice_index s.basis.rows) (inverse_entry value s.inverse) theta
  pub vertex : IsVertexAt value p s.basis.rows (inverse_entry value s.inverse) s.vertex
  pub basic : AreBasicDuals value p theta s.basis.rows (inverse_entry value s.inverse) s.vertex s.basic
