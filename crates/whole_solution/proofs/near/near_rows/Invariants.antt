use Rattle.std.proofs.Common.{ℕ, ℤ, ◌<◌, ◌≤ℤ◌, All, pos}
use Rattle.whole_inverse.specs.Shares.{share, share_at}
use Rattle.loss_model.specs.Sides.{side_in}
use Rattle.rational_laws.specs.Rational.{◌*ℚ◌}
use Rattle.whole_solution.specs.Far.{IsNearOrFar}
use Rattle.whole_solution.specs.Ranges.{factor_at}
use Rattle.whole_solution.proofs.near.near_rows.Given as goal

abbrev pub invariant-loop-row : goal.invariant-loop-row
invariant-loop-row l = record {
  within : All (λ i. i < l.row) l.near;
  others : (d : ℤ) → pos 1 ≤ℤ d → (i : ℕ) → i < l.row → IsNearOrFar l.near (side_in l.sides i) (factor_at l.classes i *ℚ share (pos l.far) d) i (share_at d l.residuals i);
}
