-- Stated. What an operation is that overflows; quantities as operations one after the other and as sums of
-- products; and those of the loss.
use Rattle.std.specs.Prelude.{◌≡◌, ◌⊎◌, ℕ, suc, ◌+◌, ◌<◌, List, [], ◌∷◌, cond, pos}
use Rattle.rational_laws.specs.Rational.{ℚ, ◌+ℚ◌, ◌*ℚ◌, neg_ℚ, whole, le_ℚ, ◌≤ℚ◌}
use Rattle.rational_laws.specs.RationalSums.{sum_ℚ}
use Rattle.rational_laws.specs.Fraction.{Fraction, rational}
use Rattle.frac_core.specs.Overflow.{Overflows}
use Rattle.frac_core.specs.declared.exact.OpKind.{OpKind}
use Rattle.frac_core.specs.declared.exact.OpKind.TheVariants.{Add, Sub, Mul, Div}
use Rattle.loss_model.specs.declared.spill.Quantity.{Quantity}
use Rattle.loss_model.specs.declared.spill.Quantity.TheVariants.{Residual, CostValue, Loss}
use Rattle.loss_model.specs.declared.spill.Site.{Site}
use Rattle.loss_model.specs.declared.spill.Spill.{Spill}
use Rattle.loss_model.specs.Sample.{Sample, up_cost, down_cost, residual}

-- at some index: one of the numbers below n has it
abbrev pub AtSome : ℕ → (ℕ → Type 0) → Type 0
AtSome n P = (i : ℕ) × (i < n) × P i

-- the operation at a site overflows: it is of the site's kind, and these are its operands
pub record IsOperation {F : Type 0} (value : F → Fraction) (range : ℕ) (site : Site) (left right : ℚ) (s : Spill F) : Type 0 where
  pub named : s.site ≡ site
  pub is_left : rational (value s.left) ≡ left
  pub is_right : rational (value s.right) ≡ right
  pub overflows : Overflows range site.kind (value s.left) (value s.right)

-- an operation of a quantity, by its operands
pub record Operation : Type 0 where
  pub kind : OpKind
  pub left : ℚ
  pub right : ℚ

abbrev pub addition : ℚ → ℚ → Operation
addition left right = record { kind = Add; left = left; right = right }

abbrev pub subtraction : ℚ → ℚ → Operation
subtraction left right = record { kind = Sub; left = left; right = right }

abbrev pub multiplication : ℚ → ℚ → Operation
multiplication left right = record { kind = Mul; left = left; right = right }

abbrev pub division : ℚ → ℚ → Operation
division left right = record { kind = Div; left = left; right = right }

-- one of a list of operations overflows; they bear this term and those after it, in order
abbrev pub IsAmong : {F : Type 0} → (F → Fraction) → ℕ → Site → ℕ → List Operation → Spill F → Type 0
IsAmong value range site term [] s = ⊥
IsAmong value range site term (o ∷ os) s =
    IsOperation value range (record site { term = term; kind = o.kind }) o.left o.right s
    ⊎ IsAmong value range site (suc term) os s

-- a value plus a product: the product overflows, or its addition does, and both bear the term after the site's
pub data IsTermSpill {F : Type 0} (value : F → Fraction) (range : ℕ) (site : Site) (first left right : ℚ) (s : Spill F) : Type 0 where
  of_product : IsOperation value range (record site { term = site.term + 1; kind = Mul }) left right s → IsTermSpill value range site first left right s
  of_addition : IsOperation value range (record site { term = site.term + 1; kind = Add }) first (left *ℚ right) s
      → IsTermSpill value range site first left right s

-- a value, and then the products of left k and right k, added from the left
pub record Products : Type 0 where
  pub first : ℚ
  pub count : ℕ
  pub left : ℕ → ℚ
  pub right : ℕ → ℚ

-- the value and the first n products
abbrev pub partial_sum : Products → ℕ → ℚ
partial_sum t n = t.first +ℚ sum_ℚ n (λ k. t.left k *ℚ t.right k)

-- the value and all products
abbrev pub total : Products → ℚ
total t = partial_sum t t.count

-- an operation at product k, before which as many terms stand as the site's term
abbrev pub IsProductSpill : {F : Type 0} → (F → Fraction) → ℕ → Site → Products → ℕ → Spill F → Type 0
IsProductSpill value range site t k s = IsTermSpill value range site (partial_sum t k) (t.left k) (t.right k) s

-- an operation at one of the products; as many terms stand before them as the site's term
pub record IsSpillOf {F : Type 0} (value : F → Fraction) (range : ℕ) (site : Site) (t : Products) (s : Spill F) : Type 0 where
  pub at_product : AtSome t.count (λ k. IsProductSpill value range (record site { term = site.term + k }) t k s)

-- a site, with the number of terms before the products
abbrev pub site_of : Quantity → ℕ → ℕ → ℕ → Site
site_of quantity first second terms =
    record { quantity = quantity; first = first; second = second; third = 0; term = terms; kind = Mul }

-- the response, and the negated entries times the coefficients
abbrev pub residual_products : Sample → (ℕ → ℚ) → ℕ → Products
residual_products p b i =
    record { first = p.y i; count = p.columns; left = λ k. neg_ℚ (p.x i k); right = b }

-- the cost of the side on which a residual lies, which is the up side for 0
abbrev pub side_cost : Sample → ℚ → (ℕ → ℚ) → ℕ → ℚ
side_cost p theta b i =
    cond (le_ℚ (whole (pos 0)) (residual p b i)) (up_cost p theta i) (down_cost p theta i)

-- the absolute value
abbrev pub abs_ℚ : ℚ → ℚ
abs_ℚ x = cond (le_ℚ (whole (pos 0)) x) x (neg_ℚ x)

-- costs times absolute residuals
abbrev pub loss_products : Sample → ℚ → (ℕ → ℚ) → Products
loss_products p theta b =
    record {
      first = whole (pos 0);
      count = p.rows;
      left = side_cost p theta b;
      right = λ i. abs_ℚ (residual p b i);
    }

-- an operation of the residual of row i overflows
abbrev pub IsResidualSpill : {F : Type 0} → (F → Fraction) → ℕ → Sample → (ℕ → ℚ) → ℕ → Spill F → Type 0
IsResidualSpill value range p b i s = IsSpillOf value range (site_of Residual i 0 1) (residual_products p b i) s

-- one of its up cost does: part 0, and part 1 times theta
abbrev pub IsUpCostSpill : {F : Type 0} → (F → Fraction) → ℕ → Sample → ℚ → ℕ → Spill F → Type 0
IsUpCostSpill value range p theta i s = IsTermSpill value range (site_of CostValue i 0 1) (p.up0 i) (p.up1 i) theta s

-- one of its down cost does: the same
abbrev pub IsDownCostSpill : {F : Type 0} → (F → Fraction) → ℕ → Sample → ℚ → ℕ → Spill F → Type 0
IsDownCostSpill value range p theta i s = IsTermSpill value range (site_of CostValue i 1 1) (p.down0 i) (p.down1 i) theta s

-- one of the cost of the side on which its residual lies does
abbrev pub IsSideCostSpill : {F : Type 0} → (F → Fraction) → ℕ → Sample → ℚ → (ℕ → ℚ) → ℕ → Spill F → Type 0
IsSideCostSpill value range p theta b i s =
    ((whole (pos 0) ≤ℚ residual p b i) × IsUpCostSpill value range p theta i s)
    ⊎ ((¬ (whole (pos 0) ≤ℚ residual p b i)) × IsDownCostSpill value range p theta i s)

-- one of its residual or of that cost does
abbrev pub IsRowSpill : {F : Type 0} → (F → Fraction) → ℕ → Sample → ℚ → (ℕ → ℚ) → ℕ → Spill F → Type 0
IsRowSpill value range p theta b i s =
    IsResidualSpill value range p b i s ⊎ IsSideCostSpill value range p theta b i s

-- one of a row, or one of the sum of the losses does
abbrev pub IsLossSpill : {F : Type 0} → (F → Fraction) → ℕ → Sample → ℚ → (ℕ → ℚ) → Spill F → Type 0
IsLossSpill value range p theta b s =
    AtSome p.rows (λ i. IsRowSpill value range p theta b i s)
    ⊎ IsSpillOf value range (site_of Loss 0 0 0) (loss_products p theta b) s
