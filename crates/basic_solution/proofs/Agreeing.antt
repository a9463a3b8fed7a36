-- Quantities that are made of equal parts are equal, and so are their spills.
use Rattle.std.specs.Prelude.{◌≡◌, ℕ, zero, suc, ◌+◌, ◌<◌, if◌then◌else◌}
use Rattle.std.proofs.Common.{arith, refl, sym, ap, ap₂, subst, ◌∙◌}
use Rattle.rational_laws.specs.Fraction.{Fraction}
use Rattle.rational_laws.specs.Rational.{ℚ, ◌-ℚ◌, ◌*ℚ◌, neg_ℚ}
use Rattle.rational_laws.proofs.RationalSumLaws.{sum_ℚ-same}
use Rattle.loss_model.specs.declared.spill.Quantity.TheVariants.{Residual, NonbasicTotal, BasicDual}
use Rattle.loss_model.specs.declared.spill.Spill.{Spill}
use Rattle.loss_model.specs.declared.vertex.Side.{Side}
use Rattle.loss_model.specs.Sample.{Sample, residual}
use Rattle.loss_model.specs.Spill.{partial_sum, IsProductSpill, site_of, residual_products, IsResidualSpill}
use Rattle.loss_model.proofs.Products.{same_term}
use Rattle.basis_model.specs.declared.part.Part.{Part}
use Rattle.basis_model.specs.Parts.{part_number}
use Rattle.basis_model.specs.Basis.{bound_part, nonbasic_total, balancing}
use Rattle.basis_model.proofs.Sums.{partial_sum-same, spill-same}
use Rattle.basis_model.specs.BasisSpills.{is_basic, total_products, outside_before, balancing_products, IsTotalSpill, IsBalancingSpill}

-- residuals under equal coefficients
module _ (p : Sample) (b c : ℕ → ℚ) (same : (k : ℕ) → k < p.columns → b k ≡ c k) where
  pub residual-same : (i : ℕ) → residual p b i ≡ residual p c i
  residual-same i = ap (λ z. p.y i -ℚ z) (sum_ℚ-same p.columns (λ k. p.x i k *ℚ b k) (λ k. p.x i k *ℚ c k) (λ k l. ap (λ z. p.x i k *ℚ z) (same k l)))

  pub residual_spill-same : {F : Type 0} (value : F → Fraction) (range i : ℕ) (s : Spill F) → IsResidualSpill value range p b i s → IsResidualSpill value range p c i s
  residual_spill-same value range i s h =
      spill-same (residual_products p b i) (residual_products p c i) refl refl (λ k l. refl) same value range (site_of Residual i 0 1) s h

-- totals of equal sides
module _ (p : Sample) (side other : ℕ → Side) (same : (i : ℕ) → i < p.rows → side i ≡ other i) (part : Part) (k : ℕ) where
  bound-same : (i : ℕ) → i < p.rows → bound_part p part i (side i) ≡ bound_part p part i (other i)
  bound-same i l = ap (bound_part p part i) (same i l)

  pub total-same : nonbasic_total p side part k ≡ nonbasic_total p other part k
  total-same =
      sum_ℚ-same p.rows (λ i. p.x i k *ℚ bound_part p part i (side i)) (λ i. p.x i k *ℚ bound_part p part i (other i))
      (λ i l. ap (λ z. p.x i k *ℚ z) (bound-same i l))

  before-same : (i : ℕ) → ((m : ℕ) → m < i → m < p.rows) → outside_before side i ≡ outside_before other i
  before-same zero within = refl
  before-same (suc i) within =
      ap₂ (λ n s. n + (if is_basic s then 0 else 1)) (before-same i (λ m l. within m (omega arith))) (same i (within i (omega arith)))

  pub total_spill-same : {F : Type 0} (value : F → Fraction) (range : ℕ) (s : Spill F) → IsTotalSpill value range p side part k s → IsTotalSpill value range p other part k s
  total_spill-same value range s h =
      let i = h.at_row.0 in
      let l = h.at_row.1 in
      let P : ℕ → Type 0 = λ n. IsProductSpill value range (site_of NonbasicTotal k (part_number part) n) (total_products p other part k) i s in
      record {
        at_row = (
          i,
          l,
          (
            sym (ap is_basic (same i l)) ∙ h.at_row.2.0,
            subst P (before-same i (λ m lm. omega (arith, l, lm)))
                (same_term value range (site_of NonbasicTotal k (part_number part) (outside_before side i)) s (partial_sum (total_products p side part k) i) (partial_sum (total_products p other part k) i) (p.x i k) (p.x i k)
                (bound_part p part i (side i)) (bound_part p part i (other i))
                (partial_sum-same (total_products p side part k) (total_products p other part k) refl refl (λ i l. refl) bound-same i (λ m lm. omega (arith, l, lm))) refl (bound-same i l) h.at_row.2.1),
          ),
        );
      }

-- values that balance equal totals
module _ (n : ℕ) (a : ℕ → ℕ → ℚ) (t u : ℕ → ℚ) (same : (k : ℕ) → k < n → t k ≡ u k) where
  pub balancing-same : (j : ℕ) → balancing n a t j ≡ balancing n a u j
  balancing-same j = sum_ℚ-same n (λ k. neg_ℚ (t k) *ℚ a k j) (λ k. neg_ℚ (u k) *ℚ a k j) (λ k l. ap (λ z. neg_ℚ z *ℚ a k j) (same k l))

  pub balancing_spill-same : {F : Type 0} (value : F → Fraction) (range : ℕ) (part : Part) (j : ℕ) (s : Spill F) → IsBalancingSpill value range n a t part j s → IsBalancingSpill value range n a u part j s
  balancing_spill-same value range part j s h =
      spill-same (balancing_products n a t j) (balancing_products n a u j) refl refl (λ k l. ap neg_ℚ (same k l)) (λ k l. refl) value range (site_of BasicDual j (part_number part) 0) s h
