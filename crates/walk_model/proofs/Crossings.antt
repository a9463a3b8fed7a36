-- A crossing as it is computed: what is missing to the bound, over how fast the dual value gains on it.
use Rattle.std.specs.Prelude.{◌≡◌, ℕ, ◌<◌, [], ◌∷◌, pos}
use Rattle.std.proofs.Common.{refl, ap, ap₂, ◌∙◌}
use Rattle.rational_laws.specs.Solver.{number, negated, ◌⊞◌, ◌⊟◌, ◌⊠◌, v0, v1, v2}
use Rattle.rational_laws.specs.Rational.{ℚ, ◌+ℚ◌, ◌-ℚ◌, ◌*ℚ◌, neg_ℚ, inverse, whole}
use Rattle.rational_laws.proofs.RationalLaws.{ring_ℚ}
use Rattle.rational_laws.proofs.Inverses.{inverse-neg}
use Rattle.rational_laws.proofs.MatrixLaws.{coordinate-delta}
use Rattle.loss_model.specs.Sample.{Sample, up_cost, down_cost}
use Rattle.loss_model.specs.Vertex.{value_of_side}
use Rattle.pivot_model.specs.declared.direction.Direction.{Direction}
use Rattle.pivot_model.specs.declared.direction.Direction.TheVariants.{Upward, Downward}
use Rattle.pivot_model.specs.Part.TheVariants.{Constant, Linear}
use Rattle.pivot_model.specs.Basis.{bound_part, basic_dual, dual_value}
use Rattle.walk_model.specs.Families.{over_quantiles, rising_value, falling_value, slope_part}
use Rattle.walk_model.specs.Walks.{side_towards, slope_change, Crosses}
use Rattle.walk_model.proofs.Lines.{root}
use Rattle.walk_model.proofs.Slopes.{crossing, nothing_added}
use Rattle.walk_model.proofs.Tested.{negated_entry}

-- x over -y is -x over y
turned_root : (x y : ℚ) → x *ℚ inverse (neg_ℚ y) ≡ neg_ℚ x *ℚ inverse y
turned_root x y = ap (λ z. x *ℚ z) (inverse-neg y) ∙ ring_ℚ (x ∷ inverse y ∷ []) (v0 ⊠ negated v1) (negated v0 ⊠ v1) refl

module _ (p : Sample) (at : ℕ → ℕ) (a : ℕ → ℕ → ℚ) (t : ℚ) (j : ℕ) where
  -- over quantiles the quotient of a slope's parts, and how a slope rises
  pub quotient_is : (d : Direction) → root (slope_part (over_quantiles p) at a Constant j d) (slope_part (over_quantiles p) at a Linear j d)
      ≡ (bound_part p Constant (at j) (side_towards d) -ℚ basic_dual p at a Constant j) *ℚ inverse (basic_dual p at a Linear j -ℚ bound_part p Linear (at j) (side_towards d))
  quotient_is Upward =
      ap (λ z. (p.up0 (at j) -ℚ basic_dual p at a Constant j) *ℚ inverse (neg_ℚ (p.up1 (at j) -ℚ (basic_dual p at a Linear j +ℚ z)))) (nothing_added p at a j)
      ∙ ap (λ z. (p.up0 (at j) -ℚ basic_dual p at a Constant j) *ℚ inverse z) (ring_ℚ (p.up1 (at j) ∷ basic_dual p at a Linear j ∷ []) (negated (v0 ⊟ (v1 ⊞ number (pos 0)))) (v1 ⊟ v0) refl)
  quotient_is Downward =
      ap (λ z. (p.down0 (at j) +ℚ basic_dual p at a Constant j) *ℚ inverse (neg_ℚ (p.down1 (at j) +ℚ (basic_dual p at a Linear j +ℚ z)))) (nothing_added p at a j)
      ∙ turned_root (p.down0 (at j) +ℚ basic_dual p at a Constant j) (p.down1 (at j) +ℚ (basic_dual p at a Linear j +ℚ whole (pos 0)))
      ∙ ap₂ (λ x y. x *ℚ inverse y) (ring_ℚ (p.down0 (at j) ∷ basic_dual p at a Constant j ∷ []) (negated (v0 ⊞ v1)) (negated v0 ⊟ v1) refl)
      (ring_ℚ (p.down1 (at j) ∷ basic_dual p at a Linear j ∷ []) (v0 ⊞ (v1 ⊞ number (pos 0))) (v1 ⊟ negated v0) refl)

  pub rise_is : (d : Direction) → slope_part (over_quantiles p) at a Linear j d ≡ slope_change d (basic_dual p at a Linear j -ℚ bound_part p Linear (at j) (side_towards d))
  rise_is Upward =
      ap (λ z. p.up1 (at j) -ℚ (basic_dual p at a Linear j +ℚ z)) (nothing_added p at a j)
      ∙ ring_ℚ (p.up1 (at j) ∷ basic_dual p at a Linear j ∷ []) (v0 ⊟ (v1 ⊞ number (pos 0))) (negated (v1 ⊟ v0)) refl
  rise_is Downward =
      ap (λ z. p.down1 (at j) +ℚ (basic_dual p at a Linear j +ℚ z)) (nothing_added p at a j)
      ∙ ring_ℚ (p.down1 (at j) ∷ basic_dual p at a Linear j ∷ []) (v0 ⊞ (v1 ⊞ number (pos 0))) (v1 ⊟ negated v0) refl

  pub over_quantiles_at : (d : Direction) → Crosses (over_quantiles p) at a t j d
      → t ≡ (bound_part p Constant (at j) (side_towards d) -ℚ basic_dual p at a Constant j) *ℚ inverse (basic_dual p at a Linear j -ℚ bound_part p Linear (at j) (side_towards d))
  over_quantiles_at d cross = ((crossing (over_quantiles p) at a j d t).0 cross).1 ∙ quotient_is d

  module _ (tau : ℚ) (c : ℕ) (lc : c < p.columns) where
    -- what the dual value at tau misses to its bound, over the inverse's entry of the column
    abbrev pub tested_crossing : Direction → ℚ
    tested_crossing d = (value_of_side p tau (λ i. whole (pos 0)) (at j) (side_towards d) -ℚ dual_value p at a tau j) *ℚ inverse (a c j -ℚ whole (pos 0))

    pub rising_at : (d : Direction) → Crosses (rising_value p tau c) at a t j d → neg_ℚ t ≡ tested_crossing d
    rising_at d cross = ap neg_ℚ (((crossing (rising_value p tau c) at a j d t).0 cross).1) ∙ by d
      where
        by : (d : Direction) → neg_ℚ (root (slope_part (rising_value p tau c) at a Constant j d) (slope_part (rising_value p tau c) at a Linear j d)) ≡ tested_crossing d
        by Upward =
            ap (λ z. neg_ℚ ((up_cost p tau (at j) -ℚ dual_value p at a tau j) *ℚ inverse (neg_ℚ (whole (pos 0) -ℚ (whole (pos 0) +ℚ z))))) (negated_entry p tau c at a j lc)
            ∙ ap (λ z. neg_ℚ ((up_cost p tau (at j) -ℚ dual_value p at a tau j) *ℚ inverse (neg_ℚ z))) (ring_ℚ (a c j ∷ []) (number (pos 0) ⊟ (number (pos 0) ⊞ negated v0)) (v0 ⊟ number (pos 0)) refl)
            ∙ ap neg_ℚ (turned_root (up_cost p tau (at j) -ℚ dual_value p at a tau j) (a c j -ℚ whole (pos 0)))
            ∙ ring_ℚ ((up_cost p tau (at j) -ℚ dual_value p at a tau j) ∷ inverse (a c j -ℚ whole (pos 0)) ∷ []) (negated (negated v0 ⊠ v1)) (v0 ⊠ v1) refl
        by Downward =
            ap (λ z. neg_ℚ ((down_cost p tau (at j) +ℚ dual_value p at a tau j) *ℚ inverse (neg_ℚ (whole (pos 0) +ℚ (whole (pos 0) +ℚ z))))) (negated_entry p tau c at a j lc)
            ∙ ap (λ z. neg_ℚ ((down_cost p tau (at j) +ℚ dual_value p at a tau j) *ℚ inverse z)) (ring_ℚ (a c j ∷ []) (negated (number (pos 0) ⊞ (number (pos 0) ⊞ negated v0))) (v0 ⊟ number (pos 0)) refl)
            ∙ ring_ℚ (down_cost p tau (at j) ∷ dual_value p at a tau j ∷ inverse (a c j -ℚ whole (pos 0)) ∷ []) (negated ((v0 ⊞ v1) ⊠ v2)) ((negated v0 ⊟ v1) ⊠ v2) refl

    pub falling_at : (d : Direction) → Crosses (falling_value p tau c) at a t j d → t ≡ tested_crossing d
    falling_at d cross = ((crossing (falling_value p tau c) at a j d t).0 cross).1 ∙ by d
      where
        by : (d : Direction) → root (slope_part (falling_value p tau c) at a Constant j d) (slope_part (falling_value p tau c) at a Linear j d) ≡ tested_crossing d
        by Upward =
            ap (λ z. (up_cost p tau (at j) -ℚ dual_value p at a tau j) *ℚ inverse (neg_ℚ (whole (pos 0) -ℚ (whole (pos 0) +ℚ z)))) (coordinate-delta p.columns a c j lc)
            ∙ ap (λ z. (up_cost p tau (at j) -ℚ dual_value p at a tau j) *ℚ inverse z) (ring_ℚ (a c j ∷ []) (negated (number (pos 0) ⊟ (number (pos 0) ⊞ v0))) (v0 ⊟ number (pos 0)) refl)
        by Downward =
            ap (λ z. (down_cost p tau (at j) +ℚ dual_value p at a tau j) *ℚ inverse (neg_ℚ (whole (pos 0) +ℚ (whole (pos 0) +ℚ z)))) (coordinate-delta p.columns a c j lc)
            ∙ ap (λ z. (down_cost p tau (at j) +ℚ dual_value p at a tau j) *ℚ inverse (neg_ℚ z)) (ring_ℚ (a c j ∷ []) (number (pos 0) ⊞ (number (pos 0) ⊞ v0)) (v0 ⊟ number (pos 0)) refl)
            ∙ turned_root (down_cost p tau (at j) +ℚ dual_value p at a tau j) (a c j -ℚ whole (pos 0))
            ∙ ap (λ z. z *ℚ inverse (a c j -ℚ whole (pos 0))) (ring_ℚ (down_cost p tau (at j) ∷ dual_value p at a tau j ∷ []) (negated (v0 ⊞ v1)) (negated v0 ⊟ v1) refl)
