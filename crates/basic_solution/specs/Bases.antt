-- Inner. What the quantities at a basis are computed from.
use Rattle.std.specs.Prelude.{◌≡◌, ℕ, List, length, slice_index, pos}
use Rattle.rational_laws.specs.Fraction.{Fraction, rational}
use Rattle.rational_laws.specs.Rational.{ℚ, neg_ℚ, whole}
use Rattle.rational_laws.specs.Selections.{AreDistinct}
use Rattle.loss_model.specs.declared.problem.Row.{Row}
use Rattle.loss_model.specs.declared.problem.Problem.{Problem}
use Rattle.loss_model.specs.declared.spill.Spill.{Spill}
use Rattle.loss_model.specs.declared.vertex.Side.{Side}
use Rattle.loss_model.specs.declared.vertex.Side.TheVariants.{Up, Down, Basic}
use Rattle.loss_model.specs.Sample.{Sample}
use Rattle.loss_model.specs.Spill.{AtSome, IsResidualSpill}
use Rattle.loss_model.specs.Quantities.{IsCoordinateSpill, IsCoordinatesSpill}
use Rattle.basis_inverse.specs.Square.{Square}
use Rattle.basis_model.specs.declared.part.Part.{Part}
use Rattle.basis_model.specs.declared.part.Part.TheVariants.{Constant, Linear}
use Rattle.basis_model.specs.BasisSpills.{IsCoefficientSpill, IsTotalSpill, IsBalancingSpill}

-- the inverse has a position for each column, and the basis another row of the problem at each
pub record HasBasis {F : Type 0} (p : Problem F) (inverse : Square F) (basis : List ℕ) : Type 0 where
  pub size : length inverse.columns ≡ p.columns
  pub same : length basis ≡ p.columns
  pub distinct : AreDistinct (slice_index basis) p.columns (length p.rows)

-- a part of the dual value of this row on a side
abbrev pub bound_of : {F : Type 0} → (F → Fraction) → Row F → Part → Side → ℚ
bound_of value r Constant Up = rational (value r.up0)
bound_of value r Constant Down = neg_ℚ (rational (value r.down0))
bound_of value r Constant Basic = whole (pos 0)
bound_of value r Linear Up = rational (value r.up1)
bound_of value r Linear Down = neg_ℚ (rational (value r.down1))
bound_of value r Linear Basic = whole (pos 0)

-- at the coefficient of some column
abbrev pub IsCoefficientsSpill : {F : Type 0} → (F → Fraction) → ℕ → Sample → (ℕ → ℕ) → (ℕ → ℕ → ℚ) → Spill F → Type 0
IsCoefficientsSpill value range p at a s = AtSome p.columns (λ k. IsCoefficientSpill value range p at a k s)

-- at the residual of some row
abbrev pub IsResidualsSpill : {F : Type 0} → (F → Fraction) → ℕ → Sample → (ℕ → ℚ) → Spill F → Type 0
IsResidualsSpill value range p b s = AtSome p.rows (λ i. IsResidualSpill value range p b i s)

-- at the coordinate of some row at position j
abbrev pub IsColumnSpill : {F : Type 0} → (F → Fraction) → ℕ → Sample → (ℕ → ℕ → ℚ) → ℕ → Spill F → Type 0
IsColumnSpill value range p a j s = AtSome p.rows (λ i. IsCoordinateSpill value range p.columns a (p.x i) i j s)

-- at some coordinate of some row
abbrev pub IsRowsSpill : {F : Type 0} → (F → Fraction) → ℕ → Sample → (ℕ → ℕ → ℚ) → Spill F → Type 0
IsRowsSpill value range p a s = AtSome p.rows (λ i. IsCoordinatesSpill value range p.columns a (p.x i) i s)

-- at the total of some column
abbrev pub IsTotalsSpill : {F : Type 0} → (F → Fraction) → ℕ → Sample → (ℕ → Side) → Part → Spill F → Type 0
IsTotalsSpill value range p side part s = AtSome p.columns (λ k. IsTotalSpill value range p side part k s)

-- at the balancing value of some position
abbrev pub IsBalancingsSpill : {F : Type 0} → (F → Fraction) → ℕ → ℕ → (ℕ → ℕ → ℚ) → (ℕ → ℚ) → Part → Spill F → Type 0
IsBalancingsSpill value range n a totals part s = AtSome n (λ j. IsBalancingSpill value range n a totals part j s)
