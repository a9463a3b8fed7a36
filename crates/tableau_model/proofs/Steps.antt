-- The walking step that is left at a basis: whether there is one.
use Rattle.std.specs.Prelude.{◌≡◌, ℕ, ◌<◌, true, pos}
use Rattle.std.proofs.Common.{sym, subst}
use Rattle.rational_laws.specs.Rational.{ℚ, whole, ◌≤ℚ◌}
use Rattle.rational_laws.proofs.RationalLaws.{≤ℚ_trans}
use Rattle.loss_model.specs.Sample.{Sample}
use Rattle.basis_model.specs.Basis.{IsBasis}
use Rattle.pivot_model.specs.declared.direction.Direction.{Direction}
use Rattle.pivot_model.specs.Duals.{◌<ℚ◌, HasCosts}
use Rattle.pivot_model.specs.Steps.{moves}
use Rattle.walk_model.specs.Families.{over_quantiles}
use Rattle.walk_model.specs.Walks.{Crosses, IsWalkingStep}
use Rattle.walk_model.specs.WalkTrails.{is_below}
use Rattle.walk_model.proofs.Movers.{some_row}
use Rattle.walk_model.proofs.Slopes.{slope_is}
use Rattle.walk_model.proofs.Trails.{below_from}

-- where a dual value has passed beyond its bound at hi, some row moves
pub some_moves : (p : Sample) (at : ℕ → ℕ) (a : ℕ → ℕ → ℚ) (t hi : ℚ) (j : ℕ) (d : Direction) → IsBasis p at a → HasCosts p hi → j < p.columns → Crosses (over_quantiles p) at a t j d → t <ℚ hi
    → (i : ℕ) × (i < p.rows) × (moves p at a j d i ≡ true)
some_moves p at a t hi j d basis costs lj cross below =
    some_row p at a basis j d hi costs lj (λ up. cross.beyond hi below (subst (λ z. whole (pos 0) ≤ℚ z) (sym (slope_is p at a hi j d)) up))

-- no step is left where the range ends at or before the quantile
pub none_behind : (p : Sample) (at : ℕ → ℕ) (a : ℕ → ℕ → ℚ) (from hi : ℚ) → hi ≤ℚ from → (t : ℚ) (j r : ℕ) → ¬ IsWalkingStep (over_quantiles p) at a (is_below hi) from t j r
none_behind p at a from hi behind t j r h = below_from t hi h.within (≤ℚ_trans hi from t behind h.break.after)
