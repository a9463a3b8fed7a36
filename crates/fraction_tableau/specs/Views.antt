-- Inner. A basis, and all that stands at it.
use Rattle.std.specs.Prelude.{ℕ, slice_index}
use Rattle.rational_laws.specs.Fraction.{Fraction}
use Rattle.rational_laws.specs.Rational.{ℚ}
use Rattle.loss_model.specs.Sample.{Sample}
use Rattle.loss_model.specs.Problem.{sample}
use Rattle.basis_inverse.specs.Square.{inverse_entry}
use Rattle.basic_solution.specs.Solutions.{IsSolution}
use Rattle.fraction_tableau.specs.declared.view.BasisView.{BasisView}
use Rattle.fraction_tableau.specs.Kept.{IsKept}

module _ {F : Type 0} (value : F → Fraction) where
  -- the problem as a sample
  abbrev pub sample_at : BasisView F → Sample
  sample_at v = sample value v.tableau.now.problem

  -- the rows by position
  abbrev pub rows_at : BasisView F → ℕ → ℕ
  rows_at v = slice_index v.tableau.now.rows

  -- the inverse of their entries
  abbrev pub entries_at : BasisView F → ℕ → ℕ → ℚ
  entries_at v = inverse_entry value v.tableau.now.square

  -- the solution is that of the basis
  pub record IsView (v : BasisView F) : Type 0 where
    pub kept : IsKept value v.tableau.now
    pub solution : IsSolution value (sample_at v) (rows_at v) (entries_at v) v.solution.now
