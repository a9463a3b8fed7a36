-- Stated. What comes out of a solve: the vertex of its last basis, and the dual values of the basic rows.
use Rattle.std.specs.Prelude.{◌≡◌, ◌↔◌, ℕ, ◌<◌, List, length, slice_get, slice_index, Contains, Some}
use Rattle.rational_laws.specs.Fraction.{Fraction}
use Rattle.rational_laws.specs.Rational.{ℚ}
use Rattle.loss_model.specs.declared.problem.Problem.{Problem}
use Rattle.loss_model.specs.declared.vertex.Vertex.{Vertex}
use Rattle.loss_model.specs.Problem.{number_at, sample}
use Rattle.loss_model.specs.Vertex.{IsVertexOf}
use Rattle.basis_model.specs.Basis.{coefficient, side_at}
use Rattle.pivot_model.specs.Duals.{dual}

-- the vertex has the rows of the basis, ascending, their perturbed sides, and their coefficients
pub record IsVertexAt {F : Type 0} (value : F → Fraction) (p : Problem F) (basis : List ℕ) (a : ℕ → ℕ → ℚ) (v : Vertex) : Type 0 where
  pub shape : IsVertexOf p v
  pub rows : (i : ℕ) → Contains v.basis.rows i ↔ Contains basis i
  pub sides : (i : ℕ) → i < length p.rows → slice_get v.sides i ≡ Some (side_at (sample value p) (slice_index basis) a i)
  pub coef : (k : ℕ) → k < p.columns → number_at v.coef k ≡ coefficient (sample value p) (slice_index basis) a k

-- the list has the dual values of the basic rows at theta, ascending
pub record AreBasicDuals {F : Type 0} (value : F → Fraction) (p : Problem F) (theta : ℚ) (basis : List ℕ) (a : ℕ → ℕ → ℚ) (v : Vertex)
    (basic : List Fraction) : Type 0 where
  pub size : length basic ≡ p.columns
  pub each : (j : ℕ) → j < p.columns → number_at basic j ≡ dual (sample value p) (slice_index basis) a theta (slice_index v.basis.rows j)
