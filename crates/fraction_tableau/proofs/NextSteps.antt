-- The step that is left at a basis, from what is computed there.
use Rattle.std.specs.Prelude.{◌≡◌, ℕ, ◌<◌, List, length, slice_get, unwrap_or, Option, Some}
use Rattle.std.proofs.Common.{arith, sym, ap, ap₂, subst, ◌∙◌, inl, inr}
use Rattle.rational_laws.specs.Fraction.{Fraction, rational}
use Rattle.rational_laws.specs.Rational.{ℚ, ◌+ℚ◌, ◌*ℚ◌}
use Rattle.rational_laws.proofs.Lists.{item_there}
use Rattle.loss_model.specs.declared.spill.Spill.{Spill}
use Rattle.loss_model.specs.declared.spill.Short.{Short}
use Rattle.loss_model.specs.declared.vertex.Side.{Side}
use Rattle.loss_model.specs.declared.vertex.Side.TheVariants.{Basic}
use Rattle.loss_model.specs.Sample.{Sample}
use Rattle.loss_model.specs.Problem.{value_at}
use Rattle.loss_model.specs.Quantities.{IsShortOf}
use Rattle.basis_model.specs.declared.part.Part.TheVariants.{Linear}
use Rattle.basis_model.specs.Basis.{coord, side_at, basic_dual, dual_value}
use Rattle.basis_model.specs.BasisSpills.{IsBasisSpill, IsDualValueSpill}
use Rattle.basic_solution.specs.declared.solution.BasicSolution.{BasicSolution}
use Rattle.loss_model.specs.Sides.{side_in}
use Rattle.basic_solution.specs.Bases.{IsColumnSpill}
use Rattle.basic_solution.specs.Solutions.{IsSolution}
use Rattle.pivot_model.specs.Steps.{slope, IsEntering}
use Rattle.pivot_model.specs.Spills.{IsStepSpill, of_basis, of_dual}
use Rattle.tableau_model.specs.Places.{Place, at_of as places, sample_of}
use Rattle.fraction_tableau.specs.declared.line.Line.{Line}
use Rattle.fraction_tableau.specs.Kept.{IsKept}
use Rattle.fraction_tableau.specs.Lines.{model, at_of, inverse_of, IsLine, HasSides, HasCoordinates}
use Rattle.fraction_tableau.specs.Descents.{IsDescentSpill, Enters, first_slope}
use Rattle.fraction_tableau.specs.Next.{IsDualFault}
use Rattle.tableau_model.specs.Standing.{AreCoefficients, AreSides, AreDuals, Stands}
use Rattle.fraction_tableau.proofs.Refusals.{short_weaker}

-- the basic solution is what stands at the basis
module _ {F : Type 0} (value : F → Fraction) (h : Place F) (sol : BasicSolution F) (is : IsSolution value (sample_of value h) (places h) h.inverse sol) where
  pub coefficients_by : AreCoefficients value h value sol.coef
  coefficients_by = record { size = is.columns; each = is.coef }

  pub sides_by : AreSides value h sol.sides
  sides_by = record { size = is.all_sides; each = side_here }
    where
      side_here : (i : ℕ) → i < length h.task.problem.rows → slice_get sol.sides i ≡ Some (side_at (sample_of value h) (places h) h.inverse i)
      side_here i li =
          let found : (s : Side) × (slice_get sol.sides i ≡ Some s) = item_there sol.sides i (omega (arith, li, is.all_sides)) in
          found.1 ∙ ap (λ (s : Side). Some s) (sym (ap (λ (o : Option Side). unwrap_or o Basic) found.1) ∙ is.sides i li)

  -- with the dual values at theta
  pub standing_by : (theta : ℚ) (duals : List F) → AreDuals value h value theta duals → Stands value h theta (record { coef = sol.coef; sides = sol.sides; duals = duals })
  standing_by theta duals are = record { coef = coefficients_by; sides = sides_by; duals = are }

module _ {F : Type 0} (value : F → Fraction) (h : Place F) (theta : ℚ) (sol : BasicSolution F) (is : IsSolution value (sample_of value h) (places h) h.inverse sol)
    (duals : List F) (size : length duals ≡ length sol.constant)
    (each : (j : ℕ) → j < length sol.constant → value_at value duals j ≡ value_at value sol.constant j +ℚ (value_at value sol.linear j *ℚ theta)) where
  dual_here : (j : ℕ) → j < h.task.problem.columns → value_at value duals j ≡ dual_value (sample_of value h) (places h) h.inverse theta j
  dual_here j lj = each j (omega (arith, lj, is.constants)) ∙ ap₂ (λ y z. y +ℚ (z *ℚ theta)) (is.constant j lj) (is.linear j lj)

  pub duals_here : AreDuals value h value theta duals
  duals_here = record { size = size ∙ is.constants; each = dual_here }

  pub stands_here : Stands value h theta (record { coef = sol.coef; sides = sol.sides; duals = duals })
  stands_here = standing_by value h sol is theta duals duals_here

-- ---- what overflows

pub dual_fault : {F : Type 0} (value : F → Fraction) (h : Place F) (theta : ℚ) (sol : BasicSolution F) → IsSolution value (sample_of value h) (places h) h.inverse sol → (range : ℕ) (e : Short F)
    → IsShortOf (IsDualFault value range (length sol.constant) (value_at value sol.constant) (value_at value sol.linear) theta) e → IsShortOf (IsStepSpill value range (sample_of value h) (places h) h.inverse theta) e
dual_fault {F} value h theta sol is range e k =
    short_weaker (IsDualFault value range (length sol.constant) (value_at value sol.constant) (value_at value sol.linear) theta) (IsStepSpill value range (sample_of value h) (places h) h.inverse theta) by e k
  where
    by : (s : Spill F) → IsDualFault value range (length sol.constant) (value_at value sol.constant) (value_at value sol.linear) theta s → IsStepSpill value range (sample_of value h) (places h) h.inverse theta s
    by s (j, lj, k) =
        let within : j < h.task.problem.columns = omega (arith, lj, is.constants) in
        of_dual j within
        (subst (λ y. IsDualValueSpill value range y (basic_dual (sample_of value h) (places h) h.inverse Linear j) theta j s) (is.constant j within)
        (subst (λ z. IsDualValueSpill value range (value_at value sol.constant j) z theta j s) (is.linear j within) k))

pub basis_fault : {F : Type 0} (value : F → Fraction) (range : ℕ) (p : Sample) (at : ℕ → ℕ) (a : ℕ → ℕ → ℚ) (theta : ℚ) (e : Short F) → IsShortOf (IsBasisSpill value range p at a) e → IsShortOf (IsStepSpill value range p at a theta) e
basis_fault value range p at a theta e k = short_weaker (IsBasisSpill value range p at a) (IsStepSpill value range p at a theta) (λ s h. of_basis h) e k

pub column_fault : {F : Type 0} (value : F → Fraction) (range : ℕ) (p : Sample) (at : ℕ → ℕ) (a : ℕ → ℕ → ℚ) (theta : ℚ) (j : ℕ) (e : Short F) → j < p.columns → IsShortOf (IsColumnSpill value range p a j) e
    → IsShortOf (IsStepSpill value range p at a theta) e
column_fault value range p at a theta j e lj k =
    short_weaker (IsColumnSpill value range p a j) (IsStepSpill value range p at a theta) (λ s (i, li, h). of_basis (inr (inr (inl (i, li, (j, lj, h)))))) e k

-- ---- the line

module _ {F : Type 0} (value : F → Fraction) (l : Line F) where
  pub line_here : (sol : BasicSolution F) → IsKept value l.tableau.now → IsSolution value (model value l) (at_of value l) (inverse_of value l) sol → l.residuals.now ≡ sol.residuals → l.position < l.tableau.now.problem.columns
      → IsLine value l
  line_here sol kept h same position =
      record {
        kept = kept;
        size = ap length same ∙ h.rows;
        residuals = λ i li. ap (λ xs. value_at value xs i) same ∙ h.residuals i li;
        position = position;
      }

  pub sides_here : (sol : BasicSolution F) (sides : List Side) → IsSolution value (model value l) (at_of value l) (inverse_of value l) sol → sides ≡ sol.sides → HasSides value l sides
  sides_here sol sides h same = record { size = ap length same ∙ h.all_sides; each = λ i li. ap (λ s. side_in s i) same ∙ h.sides i li }

  pub coordinates_here : (xs coords : List F) → length coords ≡ length l.tableau.now.problem.rows → ((i : ℕ) → i < length l.tableau.now.problem.rows → value_at value coords i ≡ coord (model value l) (inverse_of value l) i l.position)
      → xs ≡ coords → HasCoordinates value l xs
  coordinates_here xs coords size each same = record { size = ap length same ∙ size; each = λ i li. ap (λ xs. value_at value xs i) same ∙ each i li }

  pub first_here : (s : ℚ) → s ≡ slope (model value l) (at_of value l) (inverse_of value l) (rational (value l.theta)) l.position l.direction → s ≡ first_slope value l
  unfolding first_slope
  first_here s e = e

  pub entering_here : (r : ℕ) → Enters value l r → IsEntering (model value l) (at_of value l) (inverse_of value l) (rational (value l.theta)) l.position l.direction r
  unfolding Enters
  entering_here r h = h

  pub descent_fault : (range : ℕ) (e : Short F) → IsShortOf (IsDescentSpill value range l) e → IsShortOf (IsStepSpill value range (model value l) (at_of value l) (inverse_of value l) (rational (value l.theta))) e
  unfolding IsDescentSpill
  descent_fault range e h = h
