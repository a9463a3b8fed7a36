-- Values and costs, by what these are in whole numbers.
use Rattle.std.specs.Prelude.{◌≡◌, ℕ, ◌+◌, ◌*◌, ◌<◌, ◌≤◌, [], ◌∷◌, slice_get, Some, pos}
use Rattle.std.proofs.Common.{arith, refl, sym, ap, subst}
use Rattle.std.proofs.lemmas.Nat.{mul-le}
use Rattle.rational_laws.specs.Solver.{number, negated, ◌⊠◌, v0}
use Rattle.rational_laws.specs.Rational.{ℚ, ◌*ℚ◌, neg_ℚ, whole, ◌≤ℚ◌}
use Rattle.rational_laws.proofs.RationalLaws.{ring_ℚ}
use Rattle.rational_laws.proofs.OrderLaws.{≤ℚ_neg}
use Rattle.rational_laws.proofs.Signs.{whole_product, some_product}
use Rattle.frac_core.specs.declared.frac128.Frac128.{Frac128}
use Rattle.frac_core.specs.Values.{value as value128}
use Rattle.loss_model.specs.declared.problem.Problem.{Problem}
use Rattle.loss_model.specs.declared.vertex.Side.{Side}
use Rattle.loss_model.specs.declared.vertex.Side.TheVariants.{Up, Down, Basic}
use Rattle.loss_model.specs.Problem.{sample}
use Rattle.loss_model.specs.Sample.{up_cost, down_cost}
use Rattle.loss_model.specs.Vertex.{value_of_side}
use Rattle.loss_model.proofs.Quotients.{cancel_whole_le}
use Rattle.cert_sums.specs.declared.table.WholeRow.{WholeRow}
use Rattle.cert_sums.specs.declared.table.Table.{Table}
use Rattle.cert_sums.specs.declared.reach.Reach.{Reach}
use Rattle.cert_sums.specs.Tables.{IsTable}
use Rattle.cert_sums.specs.Duals.{at_line}
use Rattle.cert_sums.specs.Slopes.{IsScaled}
use Rattle.cert_sums.specs.Within.{HasCosts, IsBetween, IsWithinCosts}
use Rattle.cert_sums.proofs.RowsOf.{row_value}

-- there is room for a line where both of its numbers are within a limit
pub line_room : (a b s t limit n : ℕ) → a ≤ limit → b ≤ limit → limit * (s + t) < n → a * s + b * t < n
line_room a b s t limit n h k room =
    let first = mul-le a s limit s h (omega arith) in
    let second = mul-le b t limit t k (omega arith) in
    omega (arith, first, second, room)

module _ (p : Problem Frac128) (t : Table) (is_table : IsTable p t) (theta : ℚ) (i : ℕ) (w : WholeRow) (at_row : slice_get t.rows i ≡ Some w) (r : Reach) (reach : IsScaled theta r) where
  abbrev Both : ℚ → ℚ
  Both x = (whole (pos r.scale) *ℚ whole (pos t.cost_scale)) *ℚ x

  -- what holds of two numbers times both scales holds of them
  cancel_both : (x y : ℚ) → Both x ≤ℚ Both y → x ≤ℚ y
  cancel_both x y h =
      cancel_whole_le (r.scale * t.cost_scale) x y (some_product r.scale t.cost_scale reach.some is_table.cost_scale)
      (subst (λ z. (z *ℚ x) ≤ℚ (z *ℚ y)) (sym (whole_product r.scale t.cost_scale)) h)

  module _ (b : ℚ) (is : IsBetween w r.scale r.at (Both b)) where
    upper : b ≤ℚ up_cost (sample value128 p) theta i
    upper =
        cancel_both b (up_cost (sample value128 p) theta i)
        (subst (λ z. Both b ≤ℚ z) (row_value p t is_table theta (λ _. b) i w at_row r.scale r.at reach.at_theta Up (at_line w.up r.scale r.at) refl) is.upper)

    lower : neg_ℚ (down_cost (sample value128 p) theta i) ≤ℚ b
    lower =
        cancel_both (neg_ℚ (down_cost (sample value128 p) theta i)) b
        (subst (λ z. z ≤ℚ Both b) (row_value p t is_table theta (λ _. b) i w at_row r.scale r.at reach.at_theta Down (at_line w.low r.scale r.at) refl) is.lower)

  -- a basic value is within its costs
  pub within_costs : (side : Side) (b : ℚ) → (side ≡ Basic → IsBetween w r.scale r.at (Both b)) → IsWithinCosts (sample value128 p) theta side b i
  within_costs side b is = record {
    upper = λ e. upper b (is e);
    lower = λ e. lower b (is e);
  }

  -- and where 0 is, none of them is negative
  pub has_costs : IsBetween w r.scale r.at (whole (pos 0)) → HasCosts (sample value128 p) theta i
  has_costs is =
      let none = subst (IsBetween w r.scale r.at) (ring_ℚ ((whole (pos r.scale) *ℚ whole (pos t.cost_scale)) ∷ []) (number (pos 0)) (v0 ⊠ number (pos 0)) refl) is in
      let down = down_cost (sample value128 p) theta i in
      record {
        up = upper (whole (pos 0)) none;
        down =
            subst (λ z. z ≤ℚ down) (ring_ℚ [] (negated (number (pos 0))) (number (pos 0)) refl)
            (subst (λ z. neg_ℚ (whole (pos 0)) ≤ℚ z) (ring_ℚ (down ∷ []) (negated (negated v0)) v0 refl) (≤ℚ_neg (neg_ℚ down) (whole (pos 0)) (lower (whole (pos 0)) none)));
      }

-- what is known of basic values is known of the values of all rows
pub by_sides : (p : Problem Frac128) (theta : ℚ) (basic : ℕ → ℚ) (i : ℕ) (side : Side) → IsWithinCosts (sample value128 p) theta side (basic i) i
    → IsWithinCosts (sample value128 p) theta side (value_of_side (sample value128 p) theta basic i side) i
by_sides p theta basic i side h = record {
  upper = λ b. subst (λ z. z ≤ℚ up_cost (sample value128 p) theta i) (sym (ap (value_of_side (sample value128 p) theta basic i) b)) (h.upper b);
  lower = λ b. subst (λ z. neg_ℚ (down_cost (sample value128 p) theta i) ≤ℚ z) (sym (ap (value_of_side (sample value128 p) theta basic i) b)) (h.lower b);
}
