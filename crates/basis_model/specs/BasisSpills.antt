-- Stated. The operations by which the quantities at a basis are computed, where one overflows.
use Rattle.std.specs.Prelude.{◌≡◌, ◌⊎◌, ℕ, zero, suc, ◌+◌, Bool, true, false, if◌then◌else◌, pos}
use Rattle.rational_laws.specs.Fraction.{Fraction}
use Rattle.rational_laws.specs.Rational.{ℚ, neg_ℚ, whole}
use Rattle.loss_model.specs.OpKind.TheVariants.{Add, Sub}
use Rattle.loss_model.specs.declared.vertex.Side.{Side}
use Rattle.loss_model.specs.declared.vertex.Side.TheVariants.{Up, Basic}
use Rattle.loss_model.specs.declared.spill.Quantity.TheVariants.{Coefficient, NonbasicTotal, BasicDual, DualValue, Slope, CostSum}
use Rattle.loss_model.specs.declared.spill.Spill.{Spill}
use Rattle.loss_model.specs.Sample.{Sample}
use Rattle.loss_model.specs.Spill.{AtSome, IsOperation, IsTermSpill, Products, IsProductSpill, IsSpillOf, site_of, IsResidualSpill}
use Rattle.loss_model.specs.Quantities.{IsCoordinatesSpill}
use Rattle.basis_model.specs.declared.part.Part.{Part}
use Rattle.basis_model.specs.Parts.{part_number}
use Rattle.basis_model.specs.Basis.{coefficient, side_at, bound_part, nonbasic_total}

-- the inverse's row of column k times the responses of the basis
abbrev pub coefficient_products : Sample → (ℕ → ℕ) → (ℕ → ℕ → ℚ) → ℕ → Products
coefficient_products p at a k = record { first = whole (pos 0); count = p.columns; left = a k; right = λ j. p.y (at j) }

-- an operation of the coefficient of column k overflows
abbrev pub IsCoefficientSpill : {F : Type 0} → (F → Fraction) → ℕ → Sample → (ℕ → ℕ) → (ℕ → ℕ → ℚ) → ℕ → Spill F → Type 0
IsCoefficientSpill value range p at a k s = IsSpillOf value range (site_of Coefficient k 0 0) (coefficient_products p at a k) s

-- the entries of the rows in column k times the parts of their bounds
abbrev pub total_products : Sample → (ℕ → Side) → Part → ℕ → Products
total_products p side part k =
    record { first = whole (pos 0); count = p.rows; left = λ i. p.x i k; right = λ i. bound_part p part i (side i) }

-- the row is one of the basis
abbrev pub is_basic : Side → Bool
is_basic Basic = true
is_basic _ = false

-- how many of the rows before row i are outside the basis
abbrev pub outside_before : (ℕ → Side) → ℕ → ℕ
outside_before side zero = 0
outside_before side (suc i) = outside_before side i + (if is_basic (side i) then 0 else 1)

-- at the product of a row outside the basis, or its addition; the terms are these rows, ascending
pub record IsTotalSpill {F : Type 0} (value : F → Fraction) (range : ℕ) (p : Sample) (side : ℕ → Side) (part : Part) (k : ℕ) (s : Spill F) : Type 0 where
  pub at_row : AtSome p.rows (λ i. (is_basic (side i) ≡ false)
      × IsProductSpill value range (site_of NonbasicTotal k (part_number part) (outside_before side i)) (total_products p side part k) i s)

-- the negated totals times the inverse's column at position j
abbrev pub balancing_products : ℕ → (ℕ → ℕ → ℚ) → (ℕ → ℚ) → ℕ → Products
balancing_products n a totals j = record { first = whole (pos 0); count = n; left = λ k. neg_ℚ (totals k); right = λ k. a k j }

-- an operation of a part of the dual value at position j overflows
abbrev pub IsBalancingSpill : {F : Type 0} → (F → Fraction) → ℕ → ℕ → (ℕ → ℕ → ℚ) → (ℕ → ℚ) → Part → ℕ → Spill F → Type 0
IsBalancingSpill value range n a totals part j s =
    IsSpillOf value range (site_of BasicDual j (part_number part) 0) (balancing_products n a totals j) s

-- part 0 of a dual value, and part 1 times theta
abbrev pub IsDualValueSpill : {F : Type 0} → (F → Fraction) → ℕ → ℚ → ℚ → ℚ → ℕ → Spill F → Type 0
IsDualValueSpill value range constant linear theta j s =
    IsTermSpill value range (site_of DualValue j 0 1) constant linear theta s

-- the slope upwards begins with the up cost minus the dual value, and downwards with the down cost plus it
abbrev pub IsSlopeSpill : {F : Type 0} → (F → Fraction) → ℕ → ℕ → Side → ℚ → ℚ → Spill F → Type 0
IsSlopeSpill value range j Up cost dual s = IsOperation value range (record (site_of Slope j 0 1) { kind = Sub }) cost dual s
IsSlopeSpill value range j _ cost dual s = IsOperation value range (record (site_of Slope j 1 1) { kind = Add }) cost dual s

-- the up cost of a row plus its down cost
abbrev pub IsCostSumSpill : {F : Type 0} → (F → Fraction) → ℕ → ℕ → ℚ → ℚ → Spill F → Type 0
IsCostSumSpill value range i up down s = IsOperation value range (record (site_of CostSum i 0 1) { kind = Add }) up down s

-- an operation of the quantities at a basis: of a coefficient, of a residual, of a row's coordinates,
-- of a total, or of a basic dual value
abbrev pub IsBasisSpill : {F : Type 0} → (F → Fraction) → ℕ → Sample → (ℕ → ℕ) → (ℕ → ℕ → ℚ) → Spill F → Type 0
IsBasisSpill value range p at a s =
    AtSome p.columns (λ k. IsCoefficientSpill value range p at a k s)
    ⊎ (AtSome p.rows (λ i. IsResidualSpill value range p (coefficient p at a) i s)
    ⊎ (AtSome p.rows (λ i. IsCoordinatesSpill value range p.columns a (p.x i) i s)
    ⊎ (((part : Part) × AtSome p.columns (λ k. IsTotalSpill value range p (side_at p at a) part k s))
    ⊎ ((part : Part) × AtSome p.columns (λ j. IsBalancingSpill value range p.columns a (nonbasic_total p (side_at p at a) part) part j s)))))
