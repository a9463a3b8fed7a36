-- Inner. The basis that the body of fractions keeps.
use Rattle.std.specs.Prelude.{ℕ, List}
use Rattle.rational_laws.specs.Fraction.{Fraction}
use Rattle.loss_model.specs.declared.problem.Problem.{Problem}
use Rattle.loss_model.specs.Problem.{IsWellShaped}
use Rattle.basis_inverse.specs.Square.{Square, inverse_entry}
use Rattle.tableau_model.specs.Places.{Place, in_fractions}
use Rattle.fraction_tableau.specs.Inverses.{IsInverseOf}

-- a problem, the rows of a basis by position, and the matrix of their entries with its inverse
pub record Kept (F : Type 0) : Type 0 where
  pub problem : Problem F
  pub rows : List ℕ
  pub square : Square F

module _ {F : Type 0} (value : F → Fraction) where
  -- the matrix is that of the rows, of a problem that is well shaped
  pub record IsKept (k : Kept F) : Type 0 where
    pub shaped : IsWellShaped k.problem
    pub inverse : IsInverseOf value k.problem k.rows k.square

  -- what is kept as a place
  abbrev pub place : Kept F → Place F
  place k = record { task = record { problem = k.problem; body = in_fractions }; rows = k.rows; inverse = inverse_entry value k.square }
