-- Inner. What stands at a basis, together.
use Rattle.std.specs.Prelude.{◌≡◌, ◌⊎◌, ℕ, ◌<◌, length}
use Rattle.rational_laws.specs.Fraction.{Fraction}
use Rattle.rational_laws.specs.Rational.{ℚ}
use Rattle.loss_model.specs.declared.spill.Spill.{Spill}
use Rattle.loss_model.specs.Sample.{Sample, residual}
use Rattle.loss_model.specs.Spill.{AtSome}
use Rattle.loss_model.specs.Problem.{value_at}
use Rattle.basis_model.specs.declared.part.Part.{Part}
use Rattle.basis_model.specs.declared.part.Part.TheVariants.{Constant, Linear}
use Rattle.basis_model.specs.Basis.{coefficient, side_at, nonbasic_total, basic_dual}
use Rattle.basis_model.specs.BasisSpills.{IsTotalSpill, IsBalancingSpill}
use Rattle.basic_solution.specs.declared.solution.BasicSolution.{BasicSolution}
use Rattle.basic_solution.specs.declared.solution.Duals.{Duals}
use Rattle.basic_solution.specs.declared.solution.Primal.{Primal}
use Rattle.loss_model.specs.Sides.{side_in}

-- the solution has the coefficients, residuals, sides and both parts of the basic dual values that stand at the basis
pub record IsSolution {F : Type 0} (value : F → Fraction) (p : Sample) (at : ℕ → ℕ) (a : ℕ → ℕ → ℚ) (s : BasicSolution F) : Type 0 where
  pub columns : length s.coef ≡ p.columns
  pub coef : (k : ℕ) → k < p.columns → value_at value s.coef k ≡ coefficient p at a k
  pub rows : length s.residuals ≡ p.rows
  pub residuals : (i : ℕ) → i < p.rows → value_at value s.residuals i ≡ residual p (coefficient p at a) i
  pub all_sides : length s.sides ≡ p.rows
  pub sides : (i : ℕ) → i < p.rows → side_in s.sides i ≡ side_at p at a i
  pub constants : length s.constant ≡ p.columns
  pub constant : (j : ℕ) → j < p.columns → value_at value s.constant j ≡ basic_dual p at a Constant j
  pub linears : length s.linear ≡ p.columns
  pub linear : (j : ℕ) → j < p.columns → value_at value s.linear j ≡ basic_dual p at a Linear j

-- its coefficients, residuals and sides alone
pub record IsPrimal {F : Type 0} (value : F → Fraction) (p : Sample) (at : ℕ → ℕ) (a : ℕ → ℕ → ℚ) (s : Primal F) : Type 0 where
  pub columns : length s.coef ≡ p.columns
  pub coef : (k : ℕ) → k < p.columns → value_at value s.coef k ≡ coefficient p at a k
  pub rows : length s.residuals ≡ p.rows
  pub residuals : (i : ℕ) → i < p.rows → value_at value s.residuals i ≡ residual p (coefficient p at a) i
  pub all_sides : length s.sides ≡ p.rows
  pub sides : (i : ℕ) → i < p.rows → side_in s.sides i ≡ side_at p at a i

-- its basic dual values alone
pub record AreDuals {F : Type 0} (value : F → Fraction) (p : Sample) (at : ℕ → ℕ) (a : ℕ → ℕ → ℚ) (s : Duals F) : Type 0 where
  pub constants : length s.constant ≡ p.columns
  pub constant : (j : ℕ) → j < p.columns → value_at value s.constant j ≡ basic_dual p at a Constant j
  pub linears : length s.linear ≡ p.columns
  pub linear : (j : ℕ) → j < p.columns → value_at value s.linear j ≡ basic_dual p at a Linear j

-- at a total of a column, or at a basic dual value
abbrev pub IsDualSpill : {F : Type 0} → (F → Fraction) → ℕ → Sample → (ℕ → ℕ) → (ℕ → ℕ → ℚ) → Spill F → Type 0
IsDualSpill value range p at a s =
    ((part : Part) × AtSome p.columns (λ k. IsTotalSpill value range p (side_at p at a) part k s))
    ⊎ ((part : Part) × AtSome p.columns (λ j. IsBalancingSpill value range p.columns a (nonbasic_total p (side_at p at a) part) part j s))
