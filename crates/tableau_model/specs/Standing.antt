-- Inner. What is computed at a basis.
use Rattle.std.specs.Prelude.{◌≡◌, ℕ, ◌<◌, List, length, slice_get, slice_index, Some}
use Rattle.rational_laws.specs.Fraction.{Fraction, rational}
use Rattle.rational_laws.specs.Rational.{ℚ}
use Rattle.loss_model.specs.declared.vertex.Side.{Side}
use Rattle.loss_model.specs.Problem.{number_at, value_at}
use Rattle.loss_model.specs.Sample.{loss}
use Rattle.basis_model.specs.Basis.{coefficient, side_at, dual_value}
use Rattle.tableau_model.specs.Places.{Place, at_of, sample_of}
use Rattle.pivot_model.specs.Duals.{dual}
use Rattle.tableau_model.specs.declared.answer.EndValues.{EndValues}
use Rattle.tableau_model.specs.declared.answer.Standing.{Standing}

module _ {F : Type 0} (value : F → Fraction) (h : Place F) where
  module _ {N : Type 0} (number : N → Fraction) where
    -- the coefficients by column
    pub record AreCoefficients (coef : List N) : Type 0 where
      pub size : length coef ≡ h.task.problem.columns
      pub each : (k : ℕ) → k < h.task.problem.columns → value_at number coef k ≡ coefficient (sample_of value h) (at_of h) h.inverse k

    -- the dual values of the basis at theta, by position
    pub record AreDuals (theta : ℚ) (duals : List N) : Type 0 where
      pub size : length duals ≡ h.task.problem.columns
      pub each : (j : ℕ) → j < h.task.problem.columns → value_at number duals j ≡ dual_value (sample_of value h) (at_of h) h.inverse theta j

  -- the sides by row
  pub record AreSides (sides : List Side) : Type 0 where
    pub size : length sides ≡ length h.task.problem.rows
    pub each : (i : ℕ) → i < length h.task.problem.rows → slice_get sides i ≡ Some (side_at (sample_of value h) (at_of h) h.inverse i)

  -- what stands at the basis at theta
  pub record Stands (theta : ℚ) (s : Standing F) : Type 0 where
    pub coef : AreCoefficients value s.coef
    pub sides : AreSides s.sides
    pub duals : AreDuals value theta s.duals

  -- the list has the dual values at theta of the rows of the basis, as sorted, and the loss is that there
  pub record IsEndAt (theta : ℚ) (sorted : List ℕ) (e : EndValues) : Type 0 where
    pub size : length e.basic ≡ length sorted
    pub each : (k : ℕ) → k < length sorted → number_at e.basic k ≡ dual (sample_of value h) (at_of h) h.inverse theta (slice_index sorted k)
    pub loss : rational e.loss ≡ loss (sample_of value h) theta (coefficient (sample_of value h) (at_of h) h.inverse)
