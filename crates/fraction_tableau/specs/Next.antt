-- Inner. What is left at a basis.
use Rattle.std.specs.Prelude.{ℕ}
use Rattle.rational_laws.specs.Fraction.{Fraction}
use Rattle.rational_laws.specs.Rational.{ℚ}
use Rattle.loss_model.specs.declared.spill.Spill.{Spill}
use Rattle.loss_model.specs.Spill.{AtSome}
use Rattle.basis_model.specs.BasisSpills.{IsDualValueSpill}
use Rattle.pivot_model.specs.Steps.{IsSolvingStep}
use Rattle.tableau_model.specs.Places.{Place, at_of, sample_of}
use Rattle.tableau_model.specs.Answers.{IsOptimalAt}
use Rattle.fraction_tableau.specs.declared.standing.Next.{Next}
use Rattle.fraction_tableau.specs.declared.standing.Next.TheVariants.{Optimal, Pivot}
use Rattle.tableau_model.specs.Standing.{Stands}

-- no slope is negative, or the solving step
abbrev pub IsNext : {F : Type 0} → (F → Fraction) → Place F → ℚ → Next F → Type 0
IsNext value h theta (Optimal s) = IsOptimalAt value h theta × Stands value h theta s
IsNext value h theta (Pivot s) = IsSolvingStep (sample_of value h) (at_of h) h.inverse theta s.position s.row

-- at one of the first n dual values at theta
abbrev pub IsDualFault : {F : Type 0} → (F → Fraction) → ℕ → ℕ → (ℕ → ℚ) → (ℕ → ℚ) → ℚ → Spill F → Type 0
IsDualFault value range n constant linear theta s =
    AtSome n (λ j. IsDualValueSpill value range (constant j) (linear j) theta j s)
