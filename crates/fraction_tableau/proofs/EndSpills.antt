-- The ends of a segment, and where an operation there overflows.
use Rattle.std.specs.Prelude.{◌≡◌, ◌⊎◌, ℕ, ◌<◌, length, get_or}
use Rattle.std.proofs.Common.{arith, sym, subst, ◌∙◌, inl, inr}
use Rattle.rational_laws.specs.Fraction.{Fraction, rational}
use Rattle.rational_laws.specs.Rational.{ℚ}
use Rattle.loss_model.specs.declared.spill.Spill.{Spill}
use Rattle.loss_model.specs.Sample.{Sample, residual}
use Rattle.loss_model.specs.Problem.{value_at}
use Rattle.basis_model.specs.declared.part.Part.TheVariants.{Linear}
use Rattle.basis_model.specs.Basis.{coefficient, basic_dual}
use Rattle.basis_model.specs.BasisSpills.{IsDualValueSpill, IsBasisSpill}
use Rattle.basic_solution.specs.declared.solution.BasicSolution.{BasicSolution}
use Rattle.basic_solution.specs.Solutions.{IsSolution}
use Rattle.walk_model.specs.WalkSpills.{IsSegmentEnd, IsEndSpill, of_dual, IsStaySpill, of_basis, of_lo, of_hi}
use Rattle.tableau_model.specs.Places.{Place, at_of, sample_of, IsPlace}
use Rattle.fraction_tableau.specs.Next.{IsDualFault}
use Rattle.tableau_model.proofs.Lists.{value_read}

module _ {F : Type 0} (value : F → Fraction) (h : Place F) (sol : BasicSolution F) (is_place : IsPlace value h) (is : IsSolution value (sample_of value h) (at_of h) h.inverse sol) where
  pub duals_fault : (range : ℕ) (theta : ℚ) (end : ℕ) (s : Spill F) → IsDualFault value range (length sol.constant) (value_at value sol.constant) (value_at value sol.linear) theta s
      → IsEndSpill value range (sample_of value h) (at_of h) h.inverse end theta s
  duals_fault range theta end s (j, lj, k) =
      let within : j < h.task.problem.columns = omega (arith, lj, is.constants) in
      of_dual j within
      (subst (λ y. IsDualValueSpill value range y (basic_dual (sample_of value h) (at_of h) h.inverse Linear j) theta j s) (is.constant j within)
      (subst (λ z. IsDualValueSpill value range (value_at value sol.constant j) z theta j s) (is.linear j within) k))

-- the spills of the two ends in a stay
pub low_spill : {F : Type 0} (value : F → Fraction) (range : ℕ) (p : Sample) (at : ℕ → ℕ) (a : ℕ → ℕ → ℚ) (from hi to : ℚ) (s : Spill F) → IsSegmentEnd p at a from hi to
    → IsBasisSpill value range p at a s ⊎ IsEndSpill value range p at a 0 from s → IsStaySpill value range p at a from hi s
low_spill value range p at a from hi to s stay (inl k) = of_basis k
low_spill value range p at a from hi to s stay (inr k) = of_lo to stay k

pub high_spill : {F : Type 0} (value : F → Fraction) (range : ℕ) (p : Sample) (at : ℕ → ℕ) (a : ℕ → ℕ → ℚ) (from hi to : ℚ) (s : Spill F) → IsSegmentEnd p at a from hi to
    → IsBasisSpill value range p at a s ⊎ IsEndSpill value range p at a 1 to s → IsStaySpill value range p at a from hi s
high_spill value range p at a from hi to s stay (inl k) = of_basis k
high_spill value range p at a from hi to s stay (inr k) = of_hi to stay k

-- a residual that was read
pub residual_read : {F : Type 0} (value : F → Fraction) (p : Sample) (at : ℕ → ℕ) (a : ℕ → ℕ → ℚ) (sol : BasicSolution F) (i : ℕ) (x : F) → IsSolution value p at a sol → i < p.rows → x ≡ get_or sol.residuals i x
    → rational (value x) ≡ residual p (coefficient p at a) i
residual_read value p at a sol i x is li read =
    let within : i < length sol.residuals = omega (arith, li, is.rows) in
    sym (value_read value sol.residuals i x within read) ∙ is.residuals i li
