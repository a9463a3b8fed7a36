-- What stands at a basis on a walk as it is looked at, and what overflows there.
use Rattle.std.specs.Prelude.{◌≡◌, ℕ, ◌<◌, List, length, slice_index}
use Rattle.std.proofs.Common.{subst, arith}
use Rattle.rational_laws.specs.Fraction.{Fraction}
use Rattle.rational_laws.specs.Rational.{◌+ℚ◌, ◌*ℚ◌}
use Rattle.loss_model.specs.declared.spill.Short.{Short}
use Rattle.loss_model.specs.declared.spill.Spill.{Spill}
use Rattle.loss_model.specs.Problem.{value_at, sample}
use Rattle.loss_model.specs.Quantities.{IsShortOf}
use Rattle.basis_inverse.specs.Square.{inverse_entry}
use Rattle.basis_model.specs.declared.part.Part.TheVariants.{Linear}
use Rattle.basis_model.specs.Basis.{basic_dual}
use Rattle.basis_model.specs.BasisSpills.{IsBasisSpill, IsDualValueSpill}
use Rattle.basic_solution.specs.declared.solution.BasicSolution.{BasicSolution}
use Rattle.basic_solution.specs.Solutions.{IsSolution}
use Rattle.fraction_tableau.specs.Kept.{Kept, place}
use Rattle.fraction_tableau.specs.Next.{IsDualFault}
use Rattle.tableau_model.specs.Standing.{AreDuals}
use Rattle.fraction_tableau.proofs.NextSteps.{duals_here}
use Rattle.fraction_tableau.proofs.Refusals.{short_weaker}
use Rattle.rank_inversion.specs.declared.course.Course.{Course}
use Rattle.rank_steps.specs.Ways.{way_of}
use Rattle.rank_inversion.specs.Courses.{tau_of, bound_of, parameter_at}
use Rattle.rank_inversion.specs.Looks.{IsSpillAt}
use Rattle.rank_inversion.proofs.Spills.{basis_here, dual_here}

module _ {F : Type 0} (value : F → Fraction) (k : Kept F) (c : Course F) where
  pub basis_short : (from : F) (range : ℕ) (e : Short F) → IsShortOf (IsBasisSpill value range (sample value k.problem) (slice_index k.rows) (inverse_entry value k.square)) e → IsShortOf (IsSpillAt value range k c from) e
  basis_short from range e h =
      short_weaker (IsBasisSpill value range (sample value k.problem) (slice_index k.rows) (inverse_entry value k.square)) (IsSpillAt value range k c from)
      (λ s spill. basis_here value range (sample value k.problem) c.column (tau_of value c) (bound_of value c) (slice_index k.rows) (inverse_entry value k.square) (parameter_at value c from) s (way_of c.way) spill) e h

  module _ (sol : BasicSolution F) (is : IsSolution value (sample value k.problem) (slice_index k.rows) (inverse_entry value k.square) sol) where
    dual_spill : (from : F) (range : ℕ) (s : Spill F) → IsDualFault value range (length sol.constant) (value_at value sol.constant) (value_at value sol.linear) (tau_of value c) s → IsSpillAt value range k c from s
    dual_spill from range s (j, lj, h) =
        let within : j < k.problem.columns = omega (arith, lj, is.constants) in
        dual_here value range (sample value k.problem) c.column (tau_of value c) (bound_of value c) (slice_index k.rows) (inverse_entry value k.square) (parameter_at value c from) s (way_of c.way) j within
        (subst (λ y. IsDualValueSpill value range y (basic_dual (sample value k.problem) (slice_index k.rows) (inverse_entry value k.square) Linear j) (tau_of value c) j s) (is.constant j within)
        (subst (λ z. IsDualValueSpill value range (value_at value sol.constant j) z (tau_of value c) j s) (is.linear j within) h))

    pub dual_short : (from : F) (range : ℕ) (e : Short F) → IsShortOf (IsDualFault value range (length sol.constant) (value_at value sol.constant) (value_at value sol.linear) (tau_of value c)) e
        → IsShortOf (IsSpillAt value range k c from) e
    dual_short from range e h =
        short_weaker (IsDualFault value range (length sol.constant) (value_at value sol.constant) (value_at value sol.linear) (tau_of value c)) (IsSpillAt value range k c from) (dual_spill from range) e h

    pub duals_are : (duals : List F) → length duals ≡ length sol.constant
        → ((j : ℕ) → j < length sol.constant → value_at value duals j ≡ value_at value sol.constant j +ℚ (value_at value sol.linear j *ℚ tau_of value c)) → AreDuals value (place value k) value (tau_of value c) duals
    duals_are duals size each = duals_here value (place value k) (tau_of value c) sol is duals size each
