-- Data rows have costs at every quantile.
use Rattle.std.proofs.Common.{◌≡◌, ◌<◌, ℕ, [], ◌∷◌, pos, refl, sym, ap, subst, ◌∙◌}
use Rattle.rational_laws.proofs.OrderLaws.{cmp_ℚ-Less, le_from_not, ≤ℚ-minus}
use Rattle.rational_laws.specs.Rational.{ℚ, ◌+ℚ◌, ◌-ℚ◌, ◌*ℚ◌, whole, ◌≤ℚ◌}
use Rattle.rational_laws.proofs.RationalLaws.{ring_ℚ}
use Rattle.rational_laws.specs.Solver.{number, negated, ◌⊞◌, ◌⊟◌, ◌⊠◌, v0, v1}
use Rattle.rational_laws.proofs.Signs.{product_not_negative}
use Rattle.loss_model.specs.Dual.{IsDataRow}
use Rattle.loss_model.specs.Sample.{Sample, up_cost, down_cost}
use Rattle.pivot_model.specs.Duals.{HasCosts}

-- the weight of a data row is above 0
above_zero : (p : Sample) (i : ℕ) → IsDataRow p i → ¬ (p.up1 i ≤ℚ whole (pos 0))
above_zero p i row = (cmp_ℚ-Less (whole (pos 0)) (p.up1 i)).0 row.weighted

module _ (p : Sample) (theta : ℚ) (i : ℕ) (row : IsDataRow p i) where
  up_is : up_cost p theta i ≡ p.up1 i *ℚ theta
  up_is = ap (λ z. z +ℚ (p.up1 i *ℚ theta)) row.up0 ∙ ring_ℚ (p.up1 i ∷ theta ∷ []) (number (pos 0) ⊞ v0 ⊠ v1) (v0 ⊠ v1) refl

  down_is : down_cost p theta i ≡ p.up1 i *ℚ (whole (pos 1) -ℚ theta)
  down_is =
      ap (λ z. z +ℚ (p.down1 i *ℚ theta)) row.down0 ∙ ap (λ z. p.up1 i +ℚ (z *ℚ theta)) row.down1
      ∙ ring_ℚ (p.up1 i ∷ theta ∷ []) (v0 ⊞ negated v0 ⊠ v1) (v0 ⊠ (number (pos 1) ⊟ v1)) refl

  sum_is : up_cost p theta i +ℚ down_cost p theta i ≡ p.up1 i
  sum_is =
      ap (λ z. z +ℚ down_cost p theta i) up_is ∙ ap (λ z. (p.up1 i *ℚ theta) +ℚ z) down_is
      ∙ ring_ℚ (p.up1 i ∷ theta ∷ []) (v0 ⊠ v1 ⊞ v0 ⊠ (number (pos 1) ⊟ v1)) v0 refl

-- what a row costs at theta is not negative on either side, and above 0 in all
pub record IsCosted (p : Sample) (theta : ℚ) (i : ℕ) : Type 0 where
  pub up : whole (pos 0) ≤ℚ up_cost p theta i
  pub down : whole (pos 0) ≤ℚ down_cost p theta i
  pub some : ¬ ((up_cost p theta i +ℚ down_cost p theta i) ≤ℚ whole (pos 0))

pub row_costs : (p : Sample) (theta : ℚ) (i : ℕ) → whole (pos 0) ≤ℚ theta → theta ≤ℚ whole (pos 1) → IsDataRow p i → IsCosted p theta i
row_costs p theta i low high row =
    let weight = le_from_not (whole (pos 0)) (p.up1 i) (above_zero p i row) in
    record {
      up = subst (λ z. whole (pos 0) ≤ℚ z) (sym (up_is p theta i row)) (product_not_negative (p.up1 i) theta weight low);
      down = subst (λ z. whole (pos 0) ≤ℚ z) (sym (down_is p theta i row)) (product_not_negative (p.up1 i) (whole (pos 1) -ℚ theta) weight ((≤ℚ-minus theta (whole (pos 1))).0 high));
      some = λ h. above_zero p i row (subst (λ z. z ≤ℚ whole (pos 0)) (sum_is p theta i row) h);
    }

-- so of a problem that has no other rows
pub data_costs : (p : Sample) (theta : ℚ) → whole (pos 0) ≤ℚ theta → theta ≤ℚ whole (pos 1) → ((i : ℕ) → i < p.rows → IsDataRow p i) → HasCosts p theta
data_costs p theta low high rows =
    let costed : (i : ℕ) → i < p.rows → IsCosted p theta i = λ i l. row_costs p theta i low high (rows i l) in
    record { up = λ i l. (costed i l).up; down = λ i l. (costed i l).down; some = λ i l. (costed i l).some }
