-- Inner. The inverse of a basis.
use Rattle.std.specs.Prelude.{◌≡◌, ℕ, List, length}
use Rattle.rational_laws.specs.Fraction.{Fraction}
use Rattle.loss_model.specs.declared.problem.Problem.{Problem}
use Rattle.loss_model.specs.Greedy.{basis_rows}
use Rattle.basis_inverse.specs.Square.{Square, IsInverse}

-- the matrix has the problem's rows of the basis, by position, and is of its size
pub record IsInverseOf {F : Type 0} (value : F → Fraction) (p : Problem F) (basis : List ℕ) (s : Square F) : Type 0 where
  pub inverse : IsInverse value s
  pub size : length basis ≡ p.columns
  pub square : length s.columns ≡ p.columns
  pub rows : s.rows ≡ basis_rows p basis
