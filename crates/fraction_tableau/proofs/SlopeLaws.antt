-- A slope as it is computed.
use Rattle.std.specs.Prelude.{◌≡◌, ℕ, ◌+◌, ◌<◌, ℤ, pos, ◌≤ℤ◌, ◌<ℤ◌, get_or, Result, IfOk, IfErr}
use Rattle.std.proofs.Common.{sym, ap, ap₂, subst, ◌∙◌}
use Rattle.std.proofs.lemmas.Result.{IfOk-weaker, IfErr-weaker}
use Rattle.rational_laws.specs.Fraction.{Fraction, rational}
use Rattle.rational_laws.specs.Rational.{ℚ, ◌+ℚ◌, ◌-ℚ◌, whole, ◌≤ℚ◌}
use Rattle.rational_laws.specs.Order.{sign_ℚ}
use Rattle.rational_laws.proofs.OrderLaws.{sign_ℚ-below, sign_ℚ-not_below}
use Rattle.loss_model.specs.declared.spill.Spill.{Spill}
use Rattle.loss_model.specs.declared.vertex.Side.{Side}
use Rattle.loss_model.specs.declared.vertex.Side.TheVariants.{Up, Down}
use Rattle.loss_model.specs.Sample.{up_cost, down_cost}
use Rattle.basis_model.specs.Basis.{dual_value}
use Rattle.basis_model.specs.BasisSpills.{IsSlopeSpill}
use Rattle.pivot_model.specs.declared.direction.Direction.TheVariants.{Upward, Downward}
use Rattle.pivot_model.specs.Duals.{◌<ℚ◌}
use Rattle.pivot_model.specs.Spills.{of_slope}
use Rattle.fraction_tableau.specs.declared.slopes.Slopes.{Slopes}
use Rattle.fraction_tableau.specs.Slopes.{HasDuals, IsSlopesSpill, model, rows_of, inverse_of, slope_of}
use Rattle.tableau_model.proofs.Lists.{value_read}

-- ---- a slope as it is computed, by the cost of a row and a dual value that was read

module _ {F : Type 0} {value : F → Fraction} {s : Slopes F} (h : HasDuals value s) (j i : ℕ) (lj : j < s.tableau.now.problem.columns) (here : i ≡ rows_of value s j)
    (cost dual : F) (read : dual ≡ get_or s.duals.now j dual) (r : Result F (Spill F)) where
  abbrev theta : ℚ
  theta = rational (value s.theta)

  dual_is : rational (value dual) ≡ dual_value (model value s) (rows_of value s) (inverse_of value s) theta j
  dual_is = sym (value_read value s.duals.now j dual (rw (← h.duals.size) at lj) read) ∙ h.duals.each j lj

  spills : (range : ℕ) (side : Side) (price : ℚ) → rational (value cost) ≡ price
      → ((x : Spill F) → IsSlopeSpill value range j side price (dual_value (model value s) (rows_of value s) (inverse_of value s) theta j) x → IsSlopesSpill value range s x)
      → IfErr r (IsSlopeSpill value range j side (rational (value cost)) (rational (value dual))) → IfErr r (IsSlopesSpill value range s)
  spills range side price c law k =
      IfErr-weaker r _ _ (λ x found. law x
      (subst (λ z. IsSlopeSpill value range j side z (dual_value (model value s) (rows_of value s) (inverse_of value s) theta j) x) c
      (subst (λ z. IsSlopeSpill value range j side (rational (value cost)) z x) dual_is found))) k

  module _ (c : rational (value cost) ≡ up_cost (model value s) theta i) where
    pub up_slope : IfOk r (λ x. rational (value x) ≡ rational (value cost) -ℚ rational (value dual)) → IfOk r (λ x. rational (value x) ≡ slope_of value s j Upward)
    up_slope k = IfOk-weaker r _ _ (λ x is. is ∙ ap₂ (λ x y. x -ℚ y) (c ∙ ap (up_cost (model value s) theta) here) dual_is) k

    pub up_slope_spill : (range : ℕ) → IfErr r (IsSlopeSpill value range j Up (rational (value cost)) (rational (value dual))) → IfErr r (IsSlopesSpill value range s)
    up_slope_spill range k = spills range Up _ (c ∙ ap (up_cost (model value s) theta) here) (λ x found. of_slope j Upward lj found) k

  module _ (c : rational (value cost) ≡ down_cost (model value s) theta i) where
    pub down_slope : IfOk r (λ x. rational (value x) ≡ rational (value cost) +ℚ rational (value dual)) → IfOk r (λ x. rational (value x) ≡ slope_of value s j Downward)
    down_slope k = IfOk-weaker r _ _ (λ x is. is ∙ ap₂ (λ x y. x +ℚ y) (c ∙ ap (down_cost (model value s) theta) here) dual_is) k

    pub down_slope_spill : (range : ℕ) → IfErr r (IsSlopeSpill value range j Down (rational (value cost)) (rational (value dual))) → IfErr r (IsSlopesSpill value range s)
    down_slope_spill range k = spills range Down _ (c ∙ ap (down_cost (model value s) theta) here) (λ x found. of_slope j Downward lj found) k

-- a sign that is not below 0
pub from_sign : (x : ℚ) (s : ℤ) → s ≡ sign_ℚ x → pos 0 ≤ℤ s → whole (pos 0) ≤ℚ x
from_sign x s is h = (sign_ℚ-not_below x).0 (subst (λ s. pos 0 ≤ℤ s) is h)

pub from_negative_sign : (x : ℚ) (s : ℤ) → s ≡ sign_ℚ x → s <ℤ pos 0 → x <ℚ whole (pos 0)
from_negative_sign x s is h = (sign_ℚ-below x).0 (subst (λ s. s <ℤ pos 0) is h)
